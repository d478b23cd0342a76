-- The fault for a cause is lawful.
use Rattle.std.proofs.Common.{◌≡◌, ℕ, ◌&&◌, List, refl, sym, subst, IsTrue}
use Rattle.std.specs.Prelude.{Option}
use Rattle.std.specs.Str.{is_utf8, chars}
use lib.Utf8.{encode}
use Rattle.pws_tree.specs.Characters.{is_xml_text, is_local_name, xml_ranges, name_start_ranges, name_more_ranges}
use Rattle.pws_tree.specs.Names.{xmlns_space}
use Rattle.pws_tree.specs.declared.texts.Name.{Name}
use Rattle.pws_soap.specs.Faults.{Faulted, is_lawful_subcode, is_lawful_fault}
use Rattle.pws_soap.specs.Names.{addressing_space}
use Rattle.pws_soap.specs.declared.faults.FaultCode.{FaultCode}
use Rattle.pws_addr.specs.Causes.{fault_of, header_required, invalid_header}
use Rattle.pws_addr.specs.declared.causes.Cause.{Cause}
use Rattle.pws_addr.specs.declared.causes.Cause.TheVariants as cause

pub fault_lawful : (c : Cause) → IsTrue (is_lawful_fault (fault_of c))
unfolding fault_of is_utf8 chars encode is_xml_text is_local_name xml_ranges name_start_ranges name_more_ranges xmlns_space addressing_space header_required invalid_header
fault_lawful cause.BadVersion = refl
fault_lawful cause.NotUnderstood = refl
fault_lawful cause.BadEnvelope = refl
fault_lawful cause.NoAction = refl
fault_lawful cause.BadAddressing = refl
fault_lawful cause.Halted = refl
fault_lawful cause.ReplyTooLong = refl
fault_lawful cause.TimedOut = refl
fault_lawful cause.UnreadableReply = refl

pub parts_lawful : (f : Faulted) (code : FaultCode) (subcode : Option Name) (reason : List ℕ) → subcode ≡ f.subcode → reason ≡ f.reason → IsTrue (is_lawful_fault f) → IsTrue (is_lawful_fault (record { code = code; subcode = subcode; reason = reason }))
parts_lawful f code subcode reason e1 e2 h =
    subst (λ (s : Option Name). IsTrue (is_lawful_subcode s && is_xml_text reason)) (sym e1)
    (subst (λ (r : List ℕ). IsTrue (is_lawful_subcode f.subcode && is_xml_text r)) (sym e2) h)

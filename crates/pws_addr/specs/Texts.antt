-- What one driver writes the other reads: the texts of calls, replies and faults are read as the envelopes whose texts they
-- are, want of memory apart.
use Rattle.std.specs.Prelude.{◌≡◌, ℕ, if◌then◌else◌, List, ◌++◌, map, Option, Some, None, IsTrue}
use Rattle.std.specs.List.{list_all}
use Rattle.pws_tree.specs.Characters.{is_xml_text}
use Rattle.pws_tree.specs.Lawful.{is_lawful}
use Rattle.pws_tree.specs.Trees.{Tree}
use Rattle.pws_soap.specs.Envelopes.{Enveloped}
use Rattle.pws_soap.specs.Faults.{fault_tree, envelope_around}
use Rattle.pws_soap.specs.Made.{has_few_levels}
use Rattle.pws_soap.specs.Reading.{IsReadAs}
use Rattle.pws_addr.specs.Causes.{fault_of}
use Rattle.pws_addr.specs.Envelopes.{addressed, envelope_text, fits, call_addressing, call_local, call_text, reply_addressing, reply_envelope_text, reply_local, reply_text, message_tree, fault_addressing, fault_envelope_text, fault_text, bare_fault_text}
use Rattle.pws_addr.specs.Laws.{texts_of, texts_taken}
use Rattle.pws_addr.specs.declared.causes.Cause.{Cause}
use Rattle.pws_addr.specs.declared.causes.Cause.TheVariants as cause
use Rattle.pws_addr.specs.declared.headers.Addressing.{Addressing}
use Rattle.pws_addr.specs.declared.headers.Relation.{Relation}

-- all texts of an addressing have only XML characters, also those of its relations
abbrev pub all_texts_of : Addressing → List (List ℕ)
all_texts_of a = texts_of a ++ map (λ (r : Relation). r.kind) a.relates_to

-- the text of an envelope with an addressing round an element is read as that envelope, where it isn't too long
abbrev pub AddressedTextsAreRead : Type 0
AddressedTextsAreRead =
    (a : Addressing) (t : Tree) → IsTrue (list_all is_xml_text (all_texts_of a)) → IsTrue (is_lawful t) → IsTrue (has_few_levels t) → IsTrue (fits (envelope_text a t))
    → IsReadAs (envelope_text a t) (addressed a t)

-- so is that of a call
abbrev pub CallTextsAreRead : Type 0
CallTextsAreRead =
    (me called number : ℕ) (text body : List ℕ) → IsTrue (is_xml_text text) → call_text me called number text ≡ Some body
    → IsReadAs body (addressed (call_addressing me called number) (message_tree call_local text))

-- the envelope of the fault that answers a request, also where that would be too long
abbrev pub fault_envelope : ℕ → ℕ → ℕ → Option Addressing → Cause → Enveloped
fault_envelope me caller number request c =
    if fits (fault_envelope_text me caller number request c) then addressed (fault_addressing me caller number request) (fault_tree (fault_of c))
    else addressed (fault_addressing me caller number None) (fault_tree (fault_of c))

abbrev pub FaultTextsAreRead : Type 0
FaultTextsAreRead =
    (me caller number : ℕ) (request : Option Addressing) (c : Cause) → IsTrue (list_all is_xml_text (texts_taken request))
    → IsReadAs (fault_text me caller number request c) (fault_envelope me caller number request c)

-- and that of a reply, or of the fault in its place
abbrev pub reply_envelope : ℕ → ℕ → ℕ → Option Addressing → List ℕ → Enveloped
reply_envelope me caller number request text =
    if fits (reply_envelope_text me caller number request text) then addressed (reply_addressing me caller number request) (message_tree reply_local text)
    else addressed (fault_addressing me caller number None) (fault_tree (fault_of cause.ReplyTooLong))

abbrev pub ReplyTextsAreRead : Type 0
ReplyTextsAreRead =
    (me caller number : ℕ) (request : Option Addressing) (text : List ℕ) → IsTrue (list_all is_xml_text (texts_taken request)) → IsTrue (is_xml_text text)
    → IsReadAs (reply_text me caller number request text) (reply_envelope me caller number request text)

-- so is that of a fault that answers no request
abbrev pub BareFaultTextsAreRead : Type 0
BareFaultTextsAreRead = (c : Cause) → IsReadAs (bare_fault_text c) (envelope_around (fault_tree (fault_of c)))

-- The tree of a lawful fault is lawful.
use lib.Utf8.{encode}
use Rattle.std.proofs.Common.{◌≡◌, ℕ, ◌≤◌, true, false, not, ◌&&◌, List, [], ◌∷◌, refl, ap, ◌∙◌, arith, IsTrue, Option, Some, None}
use Rattle.std.specs.Prelude.{if◌then◌else◌}
use Rattle.std.specs.List.{list_all}
use Rattle.std.specs.Str.{is_utf8, chars}
use Rattle.std.proofs.lemmas.Bool.{le-leb}
use Rattle.pws_tree.specs.Characters.{is_xml_text, is_local_name, xml_ranges, name_start_ranges, name_more_ranges}
use Rattle.pws_tree.specs.Names.{is_lawful_name, is_lawful_attr, envelope_space, xmlns_space, xmlns_word, value_word}
use Rattle.pws_tree.specs.Lawful.{is_lawful, is_lawful_tag, is_lawful_text, are_lawful, fits_name, has_qualified, is_one_qualified, tree_depth}
use Rattle.pws_tree.specs.Trees.{Tree, NoNode, QualifiedThen}
use Rattle.pws_tree.specs.declared.texts.Name.{Name}
use Rattle.pws_mark.specs.Canonical.{xml_space}
use Rattle.pws_soap.specs.Names.{soap_name, fault_word, code_word, subcode_word, reason_word, text_word, lang_word, english}
use Rattle.pws_soap.specs.Envelopes.{element_then}
use Rattle.pws_soap.specs.Faults.{Faulted, is_lawful_subcode, word_of, value_tree, subcode_tree, subcode_nodes, code_nodes, code_tree, text_nodes, language, text_tree, reason_tree, fault_tree}
use Rattle.pws_soap.specs.Laws.{FaultsAreLawful}
use Rattle.pws_soap.specs.Made.{has_few_levels}
use Rattle.pws_soap.specs.declared.faults.FaultCode.{FaultCode}
use Rattle.pws_soap.specs.declared.faults.FaultCode.TheVariants as fault_code
use Rattle.pws_soap.proofs.Joined.{first_true, second_true, both_true}
use Rattle.pws_soap.proofs.Lawful.{IsPlainWord, IsKept, IsPlain, none_plain, then_plain, soap_kept, kept_lawful}

code_plain : IsPlainWord code_word
unfolding is_utf8 chars encode is_local_name is_xml_text xml_ranges name_start_ranges name_more_ranges envelope_space xmlns_space value_word code_word
code_plain = (refl, refl)

subcode_plain : IsPlainWord subcode_word
unfolding is_utf8 chars encode is_local_name is_xml_text xml_ranges name_start_ranges name_more_ranges envelope_space xmlns_space value_word subcode_word
subcode_plain = (refl, refl)

reason_plain : IsPlainWord reason_word
unfolding is_utf8 chars encode is_local_name is_xml_text xml_ranges name_start_ranges name_more_ranges envelope_space xmlns_space value_word reason_word
reason_plain = (refl, refl)

text_plain : IsPlainWord text_word
unfolding is_utf8 chars encode is_local_name is_xml_text xml_ranges name_start_ranges name_more_ranges envelope_space xmlns_space value_word text_word
text_plain = (refl, refl)

fault_plain : IsPlainWord fault_word
unfolding is_utf8 chars encode is_local_name is_xml_text xml_ranges name_start_ranges name_more_ranges envelope_space xmlns_space value_word fault_word
fault_plain = (refl, refl)

-- the name of a code is lawful
pub code_lawful : (code : FaultCode) → IsTrue (is_lawful_name (soap_name (word_of code)))
unfolding is_utf8 chars encode is_local_name is_xml_text xml_ranges name_start_ranges name_more_ranges envelope_space xmlns_space word_of
code_lawful fault_code.Sender = refl
code_lawful fault_code.Receiver = refl
code_lawful fault_code.VersionMismatch = refl
code_lawful fault_code.MustUnderstand = refl
code_lawful fault_code.DataEncodingUnknown = refl

value_tag : (name : Name) → is_lawful_tag (soap_name value_word) [] (QualifiedThen name NoNode) ≡ true
unfolding is_utf8 chars encode is_local_name is_xml_text xml_ranges name_start_ranges name_more_ranges envelope_space xmlns_space value_word
value_tag name = refl

value_kept : (name : Name) → is_lawful_name name ≡ true → IsKept 0 (value_tree name)
value_kept name h = record {
  sound = both_true (is_lawful_tag (soap_name value_word) [] (QualifiedThen name NoNode)) (are_lawful (QualifiedThen name NoNode)) (value_tag name) (both_true (is_lawful_name name) true h refl);
  few = omega arith;
}

subcode_kept : (name : Name) → is_lawful_name name ≡ true → IsKept 1 (subcode_tree name)
subcode_kept name h = soap_kept 1 subcode_word (element_then (value_tree name) NoNode) subcode_plain (then_plain 0 (value_tree name) NoNode (value_kept name h) (none_plain 1))

more_kept : (m n : ℕ) (t : Tree) → m ≤ n → IsKept m t → IsKept n t
more_kept m n t few h = record { sound = h.sound; few = omega (arith, few, h.few) }

subcodes_plain : (subcode : Option Name) → is_lawful_subcode subcode ≡ true → IsPlain 2 (subcode_nodes subcode)
subcodes_plain None h = none_plain 2
subcodes_plain (Some name) h = then_plain 1 (subcode_tree name) NoNode (subcode_kept name h) (none_plain 2)

code_kept : (code : FaultCode) (subcode : Option Name) → is_lawful_subcode subcode ≡ true → IsKept 2 (code_tree code subcode)
code_kept code subcode h =
    let value : Tree = value_tree (soap_name (word_of code)) in
    soap_kept 2 code_word (code_nodes code subcode) code_plain
    (then_plain 1 value (subcode_nodes subcode) (more_kept 0 1 value (omega arith) (value_kept (soap_name (word_of code)) (code_lawful code))) (subcodes_plain subcode h))

text_lawful : (reason : List ℕ) → is_xml_text reason ≡ true → IsPlain 0 (text_nodes reason)
text_lawful [] h = none_plain 0
text_lawful (c ∷ cs) h = record { lawful = both_true (is_lawful_text (c ∷ cs)) (not false && true) h refl; plain = refl; few = omega arith }

language_lawful : list_all is_lawful_attr (language ∷ []) ≡ true
unfolding is_utf8 chars encode is_local_name is_xml_text xml_ranges name_start_ranges name_more_ranges xml_space xmlns_space xmlns_word lang_word english
language_lawful = refl

text_kept : (reason : List ℕ) → is_xml_text reason ≡ true → IsKept 0 (text_tree reason)
text_kept reason h =
    let inner = text_lawful reason h in
    let fits : fits_name (soap_name text_word) (text_nodes reason) ≡ true =
    ap (λ b. if b then is_one_qualified (text_nodes reason) else not (has_qualified (text_nodes reason))) text_plain.1 ∙ ap not inner.plain in
    record {
      sound =
          both_true (is_lawful_tag (soap_name text_word) (language ∷ []) (text_nodes reason)) (are_lawful (text_nodes reason))
          (both_true (is_lawful_name (soap_name text_word)) (list_all is_lawful_attr (language ∷ []) && fits_name (soap_name text_word) (text_nodes reason)) text_plain.0
          (both_true (list_all is_lawful_attr (language ∷ [])) (fits_name (soap_name text_word) (text_nodes reason)) language_lawful fits))
          inner.lawful;
      few = inner.few;
    }

reason_kept : (reason : List ℕ) → is_xml_text reason ≡ true → IsKept 1 (reason_tree reason)
reason_kept reason h = soap_kept 1 reason_word (element_then (text_tree reason) NoNode) reason_plain (then_plain 0 (text_tree reason) NoNode (text_kept reason h) (none_plain 1))

fault_kept : (f : Faulted) → is_lawful_subcode f.subcode ≡ true → is_xml_text f.reason ≡ true → IsKept 3 (fault_tree f)
fault_kept f subcode reason =
    let why : Tree = reason_tree f.reason in
    soap_kept 3 fault_word (element_then (code_tree f.code f.subcode) (element_then why NoNode)) fault_plain
    (then_plain 2 (code_tree f.code f.subcode) (element_then why NoNode) (code_kept f.code f.subcode subcode)
    (then_plain 2 why NoNode (more_kept 1 2 why (omega arith) (reason_kept f.reason reason)) (none_plain 3)))

few_lawful : (n : ℕ) (t : Tree) → n ≤ 63 → IsKept n t → IsTrue (is_lawful t)
few_lawful n t few h = kept_lawful t (more_kept n 63 t few h)

pub value_lawful : (name : Name) → is_lawful_name name ≡ true → IsTrue (is_lawful (value_tree name))
value_lawful name h = few_lawful 0 (value_tree name) (omega arith) (value_kept name h)

pub subcode_lawful : (name : Name) → is_lawful_name name ≡ true → IsTrue (is_lawful (subcode_tree name))
subcode_lawful name h = few_lawful 1 (subcode_tree name) (omega arith) (subcode_kept name h)

pub code_tree_lawful : (code : FaultCode) (subcode : Option Name) → is_lawful_subcode subcode ≡ true → IsTrue (is_lawful (code_tree code subcode))
code_tree_lawful code subcode h = few_lawful 2 (code_tree code subcode) (omega arith) (code_kept code subcode h)

pub text_tree_lawful : (reason : List ℕ) → is_xml_text reason ≡ true → IsTrue (is_lawful (text_tree reason))
text_tree_lawful reason h = few_lawful 0 (text_tree reason) (omega arith) (text_kept reason h)

pub reason_lawful : (reason : List ℕ) → is_xml_text reason ≡ true → IsTrue (is_lawful (reason_tree reason))
reason_lawful reason h = few_lawful 1 (reason_tree reason) (omega arith) (reason_kept reason h)

pub fault_lawful : (f : Faulted) → is_lawful_subcode f.subcode ≡ true → is_xml_text f.reason ≡ true → IsTrue (is_lawful (fault_tree f))
fault_lawful f subcode reason = few_lawful 3 (fault_tree f) (omega arith) (fault_kept f subcode reason)

pub faults_are_lawful : FaultsAreLawful
faults_are_lawful f h =
    let subcode = first_true (is_lawful_subcode f.subcode) (is_xml_text f.reason) h in
    let reason = second_true (is_lawful_subcode f.subcode) (is_xml_text f.reason) h in
    both_true (is_lawful (fault_tree f)) (has_few_levels (fault_tree f)) (fault_lawful f subcode reason) (le-leb (tree_depth (fault_tree f)) 62 (omega (arith, (fault_kept f subcode reason).few)))

-- The elements by which services talk are lawful.
use Rattle.std.proofs.Common.{◌≡◌, ℕ, Bool, true, false, ◌&&◌, not, List, [], refl, arith, IsTrue}
use Rattle.std.specs.Str.{is_utf8, chars, bytes_eq}
use lib.Utf8.{encode}
use Rattle.std.proofs.lemmas.Bool.{le-leb}
use Rattle.pws_tree.specs.Characters.{is_xml_text, is_local_name, xml_ranges, name_start_ranges, name_more_ranges}
use Rattle.pws_tree.specs.Lawful.{is_lawful, tree_depth}
use Rattle.pws_tree.specs.Names.{envelope_space, xmlns_space, value_word}
use Rattle.pws_tree.specs.Trees.{NoNode}
use Rattle.pws_soap.specs.Envelopes.{element_then}
use Rattle.pws_soap.specs.Faults.{text_nodes}
use Rattle.pws_soap.specs.Made.{has_few_levels}
use Rattle.pws_addr.specs.Envelopes.{service_space, call_local, reply_local, text_local, service_name, service_tree, message_tree}
use Rattle.pws_addr.proofs.Lawful.{IsPlainName, tree_lawful, then_plain, text_plain, text_levels}

space_lawful : (is_xml_text service_space && not (bytes_eq service_space xmlns_space)) ≡ true
unfolding is_utf8 chars encode is_xml_text xml_ranges xmlns_space service_space
space_lawful = refl

space_other : bytes_eq service_space envelope_space ≡ false
unfolding service_space envelope_space
space_other = refl

name_both : (a b c : Bool) → a ≡ true → (b && c) ≡ true → (a && b && c) ≡ true
name_both true true true ha h = refl
name_both true false c ha h = h
name_both true true false ha h = h
name_both false b c ha h = cc

other_both : (a b : Bool) → a ≡ false → (a && b) ≡ false
other_both false b h = refl
other_both true b h = cc

pub service_named : (local : List ℕ) → IsTrue (is_local_name local) → IsPlainName (service_name local)
service_named local h = record {
  lawful = name_both (is_local_name local) (is_xml_text service_space) (not (bytes_eq service_space xmlns_space)) h space_lawful;
  other = other_both (bytes_eq service_space envelope_space) (bytes_eq local value_word) space_other;
}

pub text_named : IsTrue (is_local_name text_local)
unfolding is_utf8 chars encode is_local_name name_start_ranges name_more_ranges text_local
text_named = refl

pub call_named : IsTrue (is_local_name call_local)
unfolding is_utf8 chars encode is_local_name name_start_ranges name_more_ranges call_local
call_named = refl

pub reply_named : IsTrue (is_local_name reply_local)
unfolding is_utf8 chars encode is_local_name name_start_ranges name_more_ranges reply_local
reply_named = refl

pub text_tree_lawful : (text : List ℕ) → IsTrue (is_xml_text text) → IsTrue (is_lawful (service_tree text_local (text_nodes text)))
text_tree_lawful text h = tree_lawful 0 (service_name text_local) [] (text_nodes text) (omega arith) (service_named text_local text_named) refl refl (text_plain 0 text h)

pub message_lawful : (local text : List ℕ) → IsTrue (is_local_name local) → IsTrue (is_xml_text text) → IsTrue (is_lawful (message_tree local text))
message_lawful local text named h =
    tree_lawful 1 (service_name local) [] (element_then (service_tree text_local (text_nodes text)) NoNode) (omega arith) (service_named local named) refl refl
    (then_plain 0 (service_tree text_local (text_nodes text)) (service_named text_local text_named) refl refl (text_plain 0 text h))

pub message_low : (local text : List ℕ) → IsTrue (has_few_levels (message_tree local text))
message_low local text = le-leb (tree_depth (message_tree local text)) 62 (omega (arith, text_levels text))

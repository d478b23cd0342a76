-- Lawful elements of the envelope namespace.
use lib.Utf8.{encode}
use Rattle.std.proofs.Common.{◌≡◌, ℕ, ◌+◌, ◌≤◌, Bool, true, false, not, ◌&&◌, nat_le, List, [], ◌∷◌, refl, ap, ◌∙◌, arith, IsTrue}
use Rattle.std.specs.Prelude.{if◌then◌else◌}
use Rattle.std.specs.Str.{is_utf8, chars}
use Rattle.std.proofs.lemmas.Bool.{leb-true, le-leb}
use Rattle.pws_tree.specs.Names.{is_lawful_name, is_value, envelope_space, xmlns_space, value_word}
use Rattle.pws_tree.specs.Characters.{is_xml_text, is_local_name, xml_ranges, name_start_ranges, name_more_ranges}
use Rattle.pws_tree.specs.Lawful.{is_lawful, is_lawful_tag, are_lawful, fits_name, levels, has_qualified, is_one_qualified, tree_depth}
use Rattle.pws_tree.specs.Trees.{Tree, Nodes, NoNode}
use Rattle.pws_soap.specs.Names.{soap_name, envelope_word, header_word, body_word}
use Rattle.pws_soap.specs.Envelopes.{Enveloped, soap_tree, element_then, nodes_of_trees, header_then, root_of}
use Rattle.pws_soap.proofs.Joined.{first_true, second_true, both_true}

-- a tag and what is inside of it, but for the depth
abbrev pub is_sound : Tree → Bool
is_sound t = is_lawful_tag t.name t.attrs t.children && are_lawful t.children

pub lawful_of : (t : Tree) → is_sound t ≡ true → levels t.children ≤ 63 → IsTrue (is_lawful t)
lawful_of t sound few = both_true (is_sound t) (nat_le (tree_depth t) 64) sound (le-leb (tree_depth t) 64 (omega (arith, few)))

pub sound_of : (t : Tree) → IsTrue (is_lawful t) → is_sound t ≡ true
sound_of t h = first_true (is_sound t) (nat_le (tree_depth t) 64) h

pub few_of : (t : Tree) → IsTrue (is_lawful t) → levels t.children ≤ 63
few_of t h = omega (arith, leb-true (tree_depth t) 64 (second_true (is_sound t) (nat_le (tree_depth t) 64) h))

-- an element whose content is no name, and one whose content is
pub soap_sound : (local : List ℕ) (children : Nodes) → is_lawful_name (soap_name local) ≡ true → is_value (soap_name local) ≡ false → has_qualified children ≡ false → are_lawful children ≡ true → is_sound (soap_tree local children) ≡ true
soap_sound local children named other plain lawful =
    let fits : fits_name (soap_name local) children ≡ true =
    ap (λ b. if b then is_one_qualified children else not (has_qualified children)) other ∙ ap not plain in
    both_true (is_lawful_tag (soap_name local) [] children) (are_lawful children)
    (both_true (is_lawful_name (soap_name local)) (fits_name (soap_name local) children) named fits)
    lawful

pub then_lawful : (t : Tree) (rest : Nodes) → is_sound t ≡ true → are_lawful rest ≡ true → are_lawful (element_then t rest) ≡ true
then_lawful t rest sound more = both_true (is_sound t) (are_lawful rest) sound more

abbrev pub IsPlainWord : List ℕ → Type 0
IsPlainWord local = (is_lawful_name (soap_name local) ≡ true) × (is_value (soap_name local) ≡ false)

pub envelope_plain : IsPlainWord envelope_word
unfolding is_utf8 chars encode is_local_name is_xml_text xml_ranges name_start_ranges name_more_ranges envelope_space xmlns_space value_word envelope_word
envelope_plain = (refl, refl)

pub header_plain : IsPlainWord header_word
unfolding is_utf8 chars encode is_local_name is_xml_text xml_ranges name_start_ranges name_more_ranges envelope_space xmlns_space value_word header_word
header_plain = (refl, refl)

pub body_plain : IsPlainWord body_word
unfolding is_utf8 chars encode is_local_name is_xml_text xml_ranges name_start_ranges name_more_ranges envelope_space xmlns_space value_word body_word
body_plain = (refl, refl)

-- elements that are sound and have at most so many levels below them
pub record IsKept (n : ℕ) (t : Tree) : Type 0 where
  pub sound : is_sound t ≡ true
  pub few : levels t.children ≤ n

abbrev pub AreKept : ℕ → List Tree → Type 0
AreKept n [] = Unit {0}
AreKept n (t ∷ ts) = IsKept n t × AreKept n ts

-- children that are lawful, have no qualified name among them and at most so many levels
pub record IsPlain (n : ℕ) (ns : Nodes) : Type 0 where
  pub lawful : are_lawful ns ≡ true
  pub plain : has_qualified ns ≡ false
  pub few : levels ns ≤ n

pub trees_plain : (n : ℕ) (ts : List Tree) → AreKept n ts → IsPlain (n + 1) (nodes_of_trees ts)
trees_plain n [] h = record { lawful = refl; plain = refl; few = omega arith }
trees_plain n (t ∷ ts) h =
    let rest = trees_plain n ts h.1 in
    record {
      lawful = then_lawful t (nodes_of_trees ts) h.0.sound rest.lawful;
      plain = rest.plain;
      few = omega (arith, h.0.few, rest.few);
    }

-- an element around plain children
pub soap_kept : (n : ℕ) (local : List ℕ) (ns : Nodes) → IsPlainWord local → IsPlain n ns → IsKept n (soap_tree local ns)
soap_kept n local ns word inner = record { sound = soap_sound local ns word.0 word.1 inner.plain inner.lawful; few = inner.few }

pub none_plain : (n : ℕ) → IsPlain n NoNode
none_plain n = record { lawful = refl; plain = refl; few = omega arith }

pub then_plain : (n : ℕ) (t : Tree) (rest : Nodes) → IsKept n t → IsPlain (n + 1) rest → IsPlain (n + 1) (element_then t rest)
then_plain n t rest kept more = record {
  lawful = then_lawful t rest kept.sound more.lawful;
  plain = more.plain;
  few = omega (arith, kept.few, more.few);
}

pub kept_lawful : (t : Tree) → IsKept 63 t → IsTrue (is_lawful t)
kept_lawful t kept = lawful_of t kept.sound kept.few

pub header_plainly : (ts : List Tree) (rest : Nodes) → AreKept 61 ts → IsPlain 63 rest → IsPlain 63 (header_then ts rest)
header_plainly [] rest h more = more
header_plainly (t ∷ ts) rest h more =
    then_plain 62 (soap_tree header_word (nodes_of_trees (t ∷ ts))) rest (soap_kept 62 header_word (nodes_of_trees (t ∷ ts)) header_plain (trees_plain 61 (t ∷ ts) h)) more

-- the root of header blocks and a body that fit
pub root_kept : (e : Enveloped) → AreKept 61 e.headers → IsPlain 62 e.body → IsTrue (is_lawful (root_of e))
root_kept e headers body =
    let around : IsPlain 63 (element_then (soap_tree body_word e.body) NoNode) =
    then_plain 62 (soap_tree body_word e.body) NoNode (soap_kept 62 body_word e.body body_plain body) (none_plain 63) in
    kept_lawful (root_of e) (soap_kept 63 envelope_word (header_then e.headers (element_then (soap_tree body_word e.body) NoNode)) envelope_plain
    (header_plainly e.headers (element_then (soap_tree body_word e.body) NoNode) headers around))

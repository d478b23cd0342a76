-- What the content of headers says.
use Rattle.std.proofs.Common.{inl, inr, ◌≡◌, ℕ, zero, suc, ◌+◌, ◌-◌, ◌<◌, Bool, true, false, not, ◌&&◌, List, [], ◌∷◌, ◌++◌, length, take, drop, get_or, filter, find, refl, ap, sym, ◌∙◌, subst, arith, one-add, cond, IsTrue}
use Rattle.std.specs.Prelude.{◌==◌, ◌||◌, Option, Some, None, if◌then◌else◌, nat_le}
use Rattle.std.specs.List.{list_all, prefix_len, suffix_len}
use Rattle.std.specs.Str.{IsAscii, IsUtf8, is_utf8, chars, bytes_eq}
use Rattle.std.proofs.lemmas.Bool.{and_parts, and_from, cases_lt, both_ways, or_from, ne_eqb}
use Rattle.std.proofs.lemmas.List.{take-append-drop}
use Rattle.std.proofs.lemmas.List.Folds.{list_all-append}
use Rattle.std.proofs.lemmas.List.Elements.{filter-append}
use Rattle.std.proofs.lemmas.Str.{chars-append, IsUtf8-from_ascii, is_utf8-from_IsUtf8}
use Rattle.pws_tree.specs.Characters.{is_xml_char, is_xml_text}
use Rattle.pws_tree.specs.Lawful.{is_lawful, are_lawful, is_lawful_text, is_lawful_tag, is_empty, starts_with_text, fits_name, tree_depth}
use Rattle.pws_tree.specs.Names.{is_lawful_name, is_declaration, is_lawful_attr, ascend}
use Rattle.pws_tree.specs.Nodes.{node_then, nodes_of}
use Rattle.pws_tree.specs.Trees.{Tree, Nodes, NoNode, TextThen, QualifiedThen, ElementThen}
use Rattle.pws_tree.specs.declared.texts.Attr.{Attr}
use Rattle.pws_tree.specs.declared.trees.Node.{Node}
use Rattle.pws_tree.specs.declared.trees.Node.TheVariants as node
use Rattle.pws_mark.specs.Tokens.{is_white}
use Rattle.pws_soap.specs.Envelopes.{elements}
use Rattle.pws_soap.specs.White.{trim}
use Rattle.pws_addr.specs.Reading.{only_text, is_address, is_relationship}

-- one child alone is the only one
pub many_no_text : (ns : List Node) → (length ns ≡ 1 → ⊥) → None ≡ only_text (nodes_of ns)
many_no_text [] h = refl
many_no_text (node.Element e ∷ ns) h = refl
many_no_text (node.Qualified q ∷ ns) h = refl
many_no_text (node.Text t ∷ []) h = absurd (h refl)
many_no_text (node.Text t ∷ node.Element e ∷ ns) h = refl
many_no_text (node.Text t ∷ node.Text u ∷ ns) h = refl
many_no_text (node.Text t ∷ node.Qualified q ∷ ns) h = refl

pub one_child : (ns : List Node) (n : Node) → length ns ≡ 1 → get_or ns 0 n ≡ n → ns ≡ n ∷ []
one_child [] n h e = absurd (omega (arith, h))
one_child (m ∷ []) n h e = ap (λ z. z ∷ []) e
one_child (m ∷ k ∷ ns) n h e = absurd (omega (arith, h))

empty_either : (b : Bool) (t text : List ℕ) → Some text ≡ (if b then Some t else None) → text ≡ t
empty_either true t text e = cc
empty_either false t text e = absurd (let i : ◌≡◌ {A = Option (List ℕ)} (Some text) None = e in cc)

only_lawful : (ns : Nodes) (text : List ℕ) → are_lawful ns ≡ true → Some text ≡ only_text ns → IsTrue (is_xml_text text)
only_lawful NoNode text h e = absurd (let i : ◌≡◌ {A = Option (List ℕ)} (Some text) None = e in cc)
only_lawful (TextThen t rest) text h e =
    let same : text ≡ t = empty_either (is_empty rest) t text e in
    let parts = and_parts (is_lawful_text t) (not (starts_with_text rest) && are_lawful rest) h in
    subst (λ (x : List ℕ). IsTrue (is_xml_text x)) (sym same) (and_parts (not (bytes_eq t [])) (is_xml_text t) parts.0).1
only_lawful (QualifiedThen n rest) text h e = absurd (let i : ◌≡◌ {A = Option (List ℕ)} (Some text) None = e in cc)
only_lawful (ElementThen n attrs inner rest) text h e = absurd (let i : ◌≡◌ {A = Option (List ℕ)} (Some text) None = e in cc)

-- the text of a lawful element
pub text_lawful : (t : Tree) (text : List ℕ) → IsTrue (is_lawful t) → Some text ≡ only_text t.children → IsTrue (is_xml_text text)
text_lawful t text h e =
    only_lawful t.children text (and_parts (is_lawful_tag t.name t.attrs t.children) (are_lawful t.children) (and_parts (is_lawful_tag t.name t.attrs t.children && are_lawful t.children) (nat_le (tree_depth t) 64) h).0).1 e

-- one more child: those that are addresses
pub addresses_first : (n : Node) (rest : List Node) → filter is_address (elements (nodes_of (n ∷ rest))) ≡ filter is_address (elements (node_then n NoNode)) ++ filter is_address (elements (nodes_of rest))
addresses_first (node.Element e) rest = filter-append is_address (elements (node_then (node.Element e) NoNode)) (elements (nodes_of rest))
addresses_first (node.Text t) rest = refl
addresses_first (node.Qualified q) rest = refl

-- a text without the white space round it has XML characters, where the text has
ascii_white : (c : ℕ) → is_white c ≡ true → c < 128
ascii_white c h =
    elim (cases_lt c 128) [
      | inl low ↦ low
      | inr high ↦ absurd (both_ways (is_white c)
          (or_from (c == 32) (c == 9 || (c == 10 || c == 13)) (ne_eqb c 32 (λ e. absurd (omega (arith, e, high))))
          (or_from (c == 9) (c == 10 || c == 13) (ne_eqb c 9 (λ e. absurd (omega (arith, e, high))))
          (or_from (c == 10) (c == 13) (ne_eqb c 10 (λ e. absurd (omega (arith, e, high)))) (ne_eqb c 13 (λ e. absurd (omega (arith, e, high))))))) h)
    ]

take_more : (n x : ℕ) (xs : List ℕ) → take (1 + n) (x ∷ xs) ≡ x ∷ take n xs
take_more n x xs = rw one-add refl

ascii_then : (x : ℕ) (xs : List ℕ) → x < 128 → IsAscii xs → IsAscii (x ∷ xs)
ascii_then x xs low rest zero = low
ascii_then x xs low rest (suc i) = rest i

prefix_either : (b : Bool) (n x : ℕ) (xs : List ℕ) → IsAscii (take n xs) → (b ≡ true → x < 128) → IsAscii (take (cond b (1 + n) 0) (x ∷ xs))
prefix_either true n x xs rest low = subst (λ (ys : List ℕ). IsAscii ys) (sym (take_more n x xs)) (ascii_then x (take n xs) (low refl) rest)
prefix_either false n x xs rest low = λ i. omega arith

prefix_ascii : (xs : List ℕ) → IsAscii (take (prefix_len is_white xs) xs)
prefix_ascii [] = λ i. omega arith
prefix_ascii (x ∷ xs) = prefix_either (is_white x) (prefix_len is_white xs) x xs (prefix_ascii xs) (ascii_white x)

middle_xml : (xs ys zs : List ℕ) → list_all is_xml_char (xs ++ (ys ++ zs)) ≡ true → list_all is_xml_char ys ≡ true
middle_xml xs ys zs h =
    let right : list_all is_xml_char (ys ++ zs) ≡ true = (and_parts (list_all is_xml_char xs) (list_all is_xml_char (ys ++ zs)) (sym (list_all-append is_xml_char xs (ys ++ zs)) ∙ h)).1 in
    (and_parts (list_all is_xml_char ys) (list_all is_xml_char zs) (sym (list_all-append is_xml_char ys zs) ∙ right)).0

chars_apart : (n m : ℕ) (t : List ℕ) → IsUtf8 (take n t) → IsUtf8 (take m (drop n t)) → chars t ≡ chars (take n t) ++ (chars (take m (drop n t)) ++ chars (drop m (drop n t)))
chars_apart n m t white kept =
    ap chars (sym (take-append-drop n t)) ∙ chars-append (take n t) (drop n t) white
    ∙ ap (λ (z : List ℕ). chars (take n t) ++ z) (ap chars (sym (take-append-drop m (drop n t))) ∙ chars-append (take m (drop n t)) (drop m (drop n t)) kept)

part_xml : (n m : ℕ) (t : List ℕ) → IsAscii (take n t) → IsUtf8 (take m (drop n t)) → IsTrue (is_xml_text t) → IsTrue (is_xml_text (take m (drop n t)))
unfolding is_xml_text
part_xml n m t white kept h =
    let all : list_all is_xml_char (chars t) ≡ true = (and_parts (is_utf8 t) (list_all is_xml_char (chars t)) h).1 in
    let apart : list_all is_xml_char (chars (take n t) ++ (chars (take m (drop n t)) ++ chars (drop m (drop n t)))) ≡ true =
    ap (list_all is_xml_char) (sym (chars_apart n m t (IsUtf8-from_ascii (take n t) white) kept)) ∙ all in
    and_from (is_utf8 (take m (drop n t))) (list_all is_xml_char (chars (take m (drop n t)))) (is_utf8-from_IsUtf8 (take m (drop n t)) kept)
    (middle_xml (chars (take n t)) (chars (take m (drop n t))) (chars (drop m (drop n t))) apart)

pub trim_xml : (t : List ℕ) → IsUtf8 (trim t) → IsTrue (is_xml_text t) → IsTrue (is_xml_text (trim t))
unfolding trim
trim_xml t kept h = part_xml (prefix_len is_white t) (length (drop (prefix_len is_white t) t) - suffix_len is_white (drop (prefix_len is_white t) t)) t (prefix_ascii t) kept h

-- what is found is one of them
found_either : {B : Type 0} (q : B → Bool) (b : Bool) (y x : B) (rest : Option B) → Some x ≡ cond b (Some y) rest → q y ≡ true → (Some x ≡ rest → q x ≡ true) → q x ≡ true
found_either q true y x rest e here there = let same : x ≡ y = cc in ap q same ∙ here
found_either q false y x rest e here there = there e

found_passes : {A : Type 0} (p q : A → Bool) (xs : List A) (x : A) → Some x ≡ find p xs → list_all q xs ≡ true → q x ≡ true
found_passes {A} p q [] x e h = absurd (let i : ◌≡◌ {A = Option A} (Some x) None = e in cc)
found_passes {A} p q (y ∷ ys) x e h =
    let parts = and_parts (q y) (list_all q ys) h in
    found_either q (p y) y x (find p ys) e parts.0 (λ f. found_passes p q ys x f parts.1)

-- the value of an attribute of a lawful element
pub value_xml : (t : Tree) (a : Attr) → IsTrue (is_lawful t) → Some a ≡ find is_relationship t.attrs → IsTrue (is_xml_text a.value)
value_xml t a h e =
    let inner = and_parts (is_lawful_tag t.name t.attrs t.children && are_lawful t.children) (nat_le (tree_depth t) 64) h in
    let tag = and_parts (is_lawful_tag t.name t.attrs t.children) (are_lawful t.children) inner.0 in
    let rest = and_parts (is_lawful_name t.name) (list_all is_lawful_attr t.attrs && (ascend t.attrs && fits_name t.name t.children)) tag.0 in
    let all = and_parts (list_all is_lawful_attr t.attrs) (ascend t.attrs && fits_name t.name t.children) rest.1 in
    let one : is_lawful_attr a ≡ true = found_passes is_relationship is_lawful_attr t.attrs a e all.0 in
    (and_parts (is_lawful_name a.name && not (is_declaration a.name)) (is_xml_text a.value) one).1

-- The texts within an element, one child after the other; each has XML characters only.
use Rattle.std.proofs.Common.{◌≡◌, ℕ, zero, suc, ◌+◌, ◌<◌, ◌≤◌, ◌&&◌, ◌||◌, not, nat_le, Bool, true, false, cond, List, [], ◌∷◌, ◌++◌, length, drop, get_or, Option, Some, None, refl, ap, sym, ◌∙◌, arith, add-one, drop-cons, append_assoc, append-nil, length-append, subst}
use Rattle.std.specs.Prelude.{IsTrue, chars}
use Rattle.std.specs.List.{list_all, list_any}
use Rattle.std.specs.Str.{bytes_eq, is_utf8}
use Rattle.std.proofs.lemmas.Bool.Decides.{nat_tests}
use Rattle.pws_tree.specs.Characters.{is_in, is_xml_char, is_xml_text, xml_ranges, name_start_ranges, name_more_ranges, is_name_start, is_name_char, are_a_name, is_local_name}
use Rattle.pws_tree.specs.Lawful.{are_lawful, is_lawful, is_lawful_text, is_lawful_tag, starts_with_text, tree_depth}
use Rattle.pws_tree.specs.Names.{is_lawful_name, xmlns_space}
use Rattle.pws_tree.specs.Nodes.{nodes_of, node_then, tree_size}
use Rattle.pws_tree.specs.Trees.{Tree, Nodes, NoNode, marks}
use Rattle.pws_tree.specs.declared.texts.Name.{Name}
use Rattle.pws_tree.specs.declared.trees.Node.{Node}
use Rattle.pws_tree.specs.declared.trees.Node.TheVariants as node
use Rattle.pws_envelopes.specs.Fields.{texts_within, first_element, first_named}

left : (a b : Bool) → (a && b) ≡ true → a ≡ true
left true b h = refl
left false b h = h

right : (a b : Bool) → (a && b) ≡ true → b ≡ true
right true b h = h
right false b h = absurd (cc)

both : (a b : Bool) → a ≡ true → b ≡ true → (a && b) ≡ true
both true b h g = g
both false b h g = h

either : (a b d : Bool) → (a ≡ true → d ≡ true) → (b ≡ true → d ≡ true) → (a || b) ≡ true → d ≡ true
either true b d f g h = f refl
either false b d f g h = g h

-- ---- texts and names have XML characters

pub text_xml : (t : List ℕ) → IsTrue (are_lawful (node_then (node.Text t) NoNode)) → IsTrue (is_xml_text t)
text_xml t h = right (not (bytes_eq t [])) (is_xml_text t) (left (is_lawful_text t) (not (starts_with_text NoNode) && are_lawful NoNode) h)

start_xml : (c : ℕ) → is_name_start c ≡ true → is_xml_char c ≡ true
unfolding xml_ranges name_start_ranges
start_xml c h = grind (arith, nat_tests, h)

more_xml : (c : ℕ) → is_in name_more_ranges c ≡ true → is_xml_char c ≡ true
unfolding xml_ranges name_more_ranges
more_xml c h = grind (arith, nat_tests, h)

name_chars_xml : (cs : List ℕ) → list_all is_name_char cs ≡ true → list_all is_xml_char cs ≡ true
name_chars_xml [] h = refl
name_chars_xml (c ∷ cs) h =
    both (is_xml_char c) (list_all is_xml_char cs)
    (either (is_name_start c) (is_in name_more_ranges c) (is_xml_char c) (start_xml c) (more_xml c) (left (is_name_char c) (list_all is_name_char cs) h))
    (name_chars_xml cs (right (is_name_char c) (list_all is_name_char cs) h))

a_name_xml : (cs : List ℕ) → are_a_name cs ≡ true → list_all is_xml_char cs ≡ true
a_name_xml [] h = absurd (cc)
a_name_xml (c ∷ cs) h =
    both (is_xml_char c) (list_all is_xml_char cs) (start_xml c (left (is_name_start c) (list_all is_name_char cs) h)) (name_chars_xml cs (right (is_name_start c) (list_all is_name_char cs) h))

local_xml : (t : List ℕ) → is_local_name t ≡ true → is_xml_text t ≡ true
unfolding is_local_name is_xml_text
local_xml t h = both (is_utf8 t) (list_all is_xml_char (chars t)) (left (is_utf8 t) (are_a_name (chars t)) h) (a_name_xml (chars t) (right (is_utf8 t) (are_a_name (chars t)) h))

pub name_xml : (n : Name) → IsTrue (are_lawful (node_then (node.Qualified n) NoNode)) → IsTrue (is_xml_text n.local)
name_xml n h =
    let name = left (is_lawful_name n) (are_lawful NoNode) h in
    local_xml n.local (left (is_local_name n.local) (is_xml_text n.space) (left (is_local_name n.local && is_xml_text n.space) (not (bytes_eq n.space xmlns_space)) name))

-- ---- children, one by one

item_first : {A : Type 0} (xs : List A) (i : ℕ) (x : A) → x ≡ get_or xs i x → i < length xs → drop i xs ≡ x ∷ drop (i + 1) xs
item_first xs i x here within = rw (add-one) (drop-cons xs i x within ∙ ap (λ z. z ∷ drop (suc i) xs) (sym here))

pub texts_then : (n : Node) (rest : Nodes) → texts_within (node_then n rest) ≡ texts_within (node_then n NoNode) ++ texts_within rest
texts_then (node.Element e) rest = ap (λ z. z ++ texts_within rest) (sym (append-nil (texts_within e.children)))
texts_then (node.Text t) rest = ap (λ z. z ++ texts_within rest) (sym (append-nil t))
texts_then (node.Qualified n) rest = ap (λ z. z ++ texts_within rest) (sym (append-nil n.local))

first_lawful : (n : Node) (rest : Nodes) → are_lawful (node_then n rest) ≡ true → are_lawful (node_then n NoNode) ≡ true
first_lawful (node.Element e) rest h = both (is_lawful_tag e.name e.attrs e.children && are_lawful e.children) true (left (is_lawful_tag e.name e.attrs e.children && are_lawful e.children) (are_lawful rest) h) refl
first_lawful (node.Text t) rest h = both (is_lawful_text t) true (left (is_lawful_text t) (not (starts_with_text rest) && are_lawful rest) h) refl
first_lawful (node.Qualified n) rest h = both (is_lawful_name n) true (left (is_lawful_name n) (are_lawful rest) h) refl

rest_lawful : (n : Node) (rest : Nodes) → are_lawful (node_then n rest) ≡ true → are_lawful rest ≡ true
rest_lawful (node.Element e) rest h = right (is_lawful_tag e.name e.attrs e.children && are_lawful e.children) (are_lawful rest) h
rest_lawful (node.Text t) rest h = right (not (starts_with_text rest)) (are_lawful rest) (right (is_lawful_text t) (not (starts_with_text rest) && are_lawful rest) h)
rest_lawful (node.Qualified n) rest h = right (is_lawful_name n) (are_lawful rest) h

dropped_lawful : (ns : List Node) (i : ℕ) → are_lawful (nodes_of ns) ≡ true → are_lawful (nodes_of (drop i ns)) ≡ true
dropped_lawful ns zero h = h
dropped_lawful [] (suc i) h = refl
dropped_lawful (n ∷ ns) (suc i) h = dropped_lawful ns i (rest_lawful n (nodes_of ns) h)

pub child_lawful : (ns : List Node) (i : ℕ) (n : Node) (t : Tree) → IsTrue (is_lawful t) → nodes_of ns ≡ t.children → n ≡ get_or ns i n → i < length ns → IsTrue (are_lawful (node_then n NoNode))
child_lawful ns i n t h at here within =
    let children : are_lawful t.children ≡ true = right (is_lawful_tag t.name t.attrs t.children) (are_lawful t.children) (left (is_lawful_tag t.name t.attrs t.children && are_lawful t.children) (nat_le (tree_depth t) 64) h) in
    let all : are_lawful (nodes_of ns) ≡ true = ap are_lawful at ∙ children in
    let tail : are_lawful (nodes_of (drop i ns)) ≡ true = dropped_lawful ns i all in
    first_lawful n (nodes_of (drop (i + 1) ns)) (subst (λ z. are_lawful (nodes_of z) ≡ true) (item_first ns i n here within) tail)

-- ---- a child is smaller than the element that it is in

marks_of_first : (n : Node) (rest : Nodes) → length (marks (node_then n rest)) ≡ length (marks (node_then n NoNode)) + length (marks rest)
marks_of_first (node.Element e) rest = omega (arith, length-append (marks e.children) (None ∷ marks rest), length-append (marks e.children) (None ∷ []))
marks_of_first (node.Text t) rest = omega arith
marks_of_first (node.Qualified n) rest = omega arith

drop_falls : (ns : List Node) (i : ℕ) → length (marks (nodes_of (drop i ns))) ≤ length (marks (nodes_of ns))
drop_falls ns zero = omega arith
drop_falls [] (suc i) = omega arith
drop_falls (n ∷ ns) (suc i) = omega (arith, drop_falls ns i, marks_of_first n (nodes_of ns))

pub child_falls : (ns : List Node) (i : ℕ) (n : Node) (t : Tree) → nodes_of ns ≡ t.children → n ≡ get_or ns i n → i < length ns → length (marks (node_then n NoNode)) < tree_size t
child_falls ns i n t at here within =
    let first : length (marks (nodes_of (drop i ns))) ≡ length (marks (node_then n (nodes_of (drop (i + 1) ns)))) = ap (λ z. length (marks (nodes_of z))) (item_first ns i n here within) in
    let size : length (marks (nodes_of ns)) ≡ length (marks t.children) = ap (λ z. length (marks z)) at in
    omega (arith, first, size, drop_falls ns i, marks_of_first n (nodes_of (drop (i + 1) ns)))

-- Trees that are the same.
use Rattle.std.proofs.Common.{◌≡◌, ℕ, ◌+◌, ◌<◌, ◌≤◌, List, [], ◌∷◌, length, get_or, refl, ap, sym, ◌∙◌, Bool, true, ◌&&◌, IsTrue, arith}
use Rattle.std.specs.List.{list_all}
use Rattle.std.specs.Str.{bytes_eq}
use Rattle.std.specs.Cmp.Lexicographic.{bytes_decides}
use Rattle.std.specs.List.Sorted.{IsPermutation, IsSorted}
use Rattle.std.proofs.lemmas.List.{get_or_default}
use Rattle.pws_tree.specs.Trees.{Tree, Nodes, NoNode, TextThen, QualifiedThen, ElementThen}
use Rattle.pws_tree.specs.Names.{is_lawful_name, is_lawful_attr, ascend}
use Rattle.pws_tree.specs.Lawful.{is_lawful, is_lawful_tag, are_lawful, fits_name, levels}
use Rattle.pws_tree.specs.Made.{IsMadeOf}
use Rattle.pws_tree.specs.Nodes.{nodes_of}
use Rattle.pws_tree.proofs.Joined.{first_true, second_true, both_true}
use Rattle.pws_tree.proofs.Attributes.{attr_cmp, sorted_ascends, lawful_attrs_moved}
use Rattle.pws_tree.proofs.Levels.{lawful_depth, lawful_parts}
use Rattle.pws_tree.specs.declared.texts.Name.{Name}
use Rattle.pws_tree.specs.declared.texts.Attr.{Attr}
use Rattle.pws_tree.specs.declared.trees.Node.{Node}
use Rattle.pws_tree.specs.declared.trees.Node.TheVariants as node

list_of : Nodes → List Node
list_of NoNode = []
list_of (TextThen t rest) = node.Text t ∷ list_of rest
list_of (QualifiedThen n rest) = node.Qualified n ∷ list_of rest
list_of (ElementThen n attrs inner rest) = node.Element (record { name = n; attrs = attrs; children = inner }) ∷ list_of rest

list_of_nodes : (ns : List Node) → list_of (nodes_of ns) ≡ ns
unfolding list_of
list_of_nodes [] = refl
list_of_nodes (node.Element e ∷ ns) = ap (λ z. node.Element e ∷ z) (list_of_nodes ns)
list_of_nodes (node.Text t ∷ ns) = ap (λ z. node.Text t ∷ z) (list_of_nodes ns)
list_of_nodes (node.Qualified n ∷ ns) = ap (λ z. node.Qualified n ∷ z) (list_of_nodes ns)

pub same_nodes : (ns ms : List Node) → nodes_of ns ≡ nodes_of ms → ns ≡ ms
same_nodes ns ms e = sym (list_of_nodes ns) ∙ (ap list_of e ∙ list_of_nodes ms)

-- what a lawful tree of these parts says of the sorted attributes
pub parts_hold : (name : Name) (attrs sorted : List Attr) (children : List Node) (t : Tree) → IsPermutation attrs sorted → IsSorted attr_cmp sorted → IsMadeOf name attrs children t → IsTrue (is_lawful t) → (is_lawful_tag name sorted (nodes_of children) && are_lawful (nodes_of children)) ≡ true
parts_hold name attrs sorted children t p s made lawful =
    let parts = lawful_parts t lawful in
    let tag : is_lawful_tag t.name t.attrs t.children ≡ true = first_true (is_lawful_tag t.name t.attrs t.children) (are_lawful t.children) parts in
    let inner : are_lawful t.children ≡ true = second_true (is_lawful_tag t.name t.attrs t.children) (are_lawful t.children) parts in
    let name_good : is_lawful_name t.name ≡ true = first_true (is_lawful_name t.name) (list_all is_lawful_attr t.attrs && (ascend t.attrs && fits_name t.name t.children)) tag in
    let rest : (list_all is_lawful_attr t.attrs && (ascend t.attrs && fits_name t.name t.children)) ≡ true = second_true (is_lawful_name t.name) (list_all is_lawful_attr t.attrs && (ascend t.attrs && fits_name t.name t.children)) tag in
    let attrs_good : list_all is_lawful_attr t.attrs ≡ true = first_true (list_all is_lawful_attr t.attrs) (ascend t.attrs && fits_name t.name t.children) rest in
    let more : (ascend t.attrs && fits_name t.name t.children) ≡ true = second_true (list_all is_lawful_attr t.attrs) (ascend t.attrs && fits_name t.name t.children) rest in
    let up : ascend t.attrs ≡ true = first_true (ascend t.attrs) (fits_name t.name t.children) more in
    let fits : fits_name t.name t.children ≡ true = second_true (ascend t.attrs) (fits_name t.name t.children) more in
    let name_here : is_lawful_name name ≡ true = ap is_lawful_name (sym made.name_is) ∙ name_good in
    let fits_here : fits_name name (nodes_of children) ≡ true = ap (λ z. fits_name z (nodes_of children)) (sym made.name_is) ∙ (ap (fits_name t.name) (sym made.children_are) ∙ fits) in
    let inner_here : are_lawful (nodes_of children) ≡ true = ap are_lawful (sym made.children_are) ∙ inner in
    both_true (is_lawful_tag name sorted (nodes_of children)) (are_lawful (nodes_of children))
    (both_true (is_lawful_name name) (list_all is_lawful_attr sorted && (ascend sorted && fits_name name (nodes_of children))) name_here
    (both_true (list_all is_lawful_attr sorted) (ascend sorted && fits_name name (nodes_of children)) (lawful_attrs_moved attrs sorted t.attrs p made.attrs_are attrs_good)
    (both_true (ascend sorted) (fits_name name (nodes_of children)) (sorted_ascends attrs sorted t.attrs p s made.attrs_are up) fits_here)))
    inner_here

pub not_deep : (name : Name) (attrs : List Attr) (children : List Node) (t : Tree) → IsMadeOf name attrs children t → IsTrue (is_lawful t) → levels (nodes_of children) + 1 ≤ 64
not_deep name attrs children t made lawful = omega (arith, lawful_depth t lawful, ap levels made.children_are)

abbrev pub attr_eq : Attr → Attr → Bool
attr_eq a b = (bytes_eq a.name.space b.name.space && bytes_eq a.name.local b.name.local) && bytes_eq a.value b.value

attr_of : List ℕ → List ℕ → List ℕ → Attr
attr_of space local value = record { name = record { space = space; local = local }; value = value }

parts : (a b : Attr) → attr_eq a b ≡ true → a ≡ b
unfolding attr_of
parts a b h =
    let names : (bytes_eq a.name.space b.name.space && bytes_eq a.name.local b.name.local) ≡ true = first_true (bytes_eq a.name.space b.name.space && bytes_eq a.name.local b.name.local) (bytes_eq a.value b.value) h in
    let space : a.name.space ≡ b.name.space = (bytes_decides a.name.space b.name.space).0 (first_true (bytes_eq a.name.space b.name.space) (bytes_eq a.name.local b.name.local) names) in
    let local : a.name.local ≡ b.name.local = (bytes_decides a.name.local b.name.local).0 (second_true (bytes_eq a.name.space b.name.space) (bytes_eq a.name.local b.name.local) names) in
    let value : a.value ≡ b.value = (bytes_decides a.value b.value).0 (second_true (bytes_eq a.name.space b.name.space && bytes_eq a.name.local b.name.local) (bytes_eq a.value b.value) h) in
    λ i. attr_of (space i) (local i) (value i)

-- attributes are equal where their three texts are
pub attr_decides : (a b : Attr) → (attr_eq a b ≡ true → a ≡ b) × (a ≡ b → attr_eq a b ≡ true)
attr_decides a b =
    let spaces = bytes_decides a.name.space b.name.space in
    let locals = bytes_decides a.name.local b.name.local in
    let values = bytes_decides a.value b.value in (
      parts a b,
      λ e. both_true (bytes_eq a.name.space b.name.space && bytes_eq a.name.local b.name.local) (bytes_eq a.value b.value)
          (both_true (bytes_eq a.name.space b.name.space) (bytes_eq a.name.local b.name.local) (spaces.1 (ap (λ z. z.name.space) e)) (locals.1 (ap (λ z. z.name.local) e)))
          (values.1 (ap (λ z. z.value) e)),
    )

-- two trees that are the same have the same children, one by one
pub same_children : (ns ms : List Node) (t u : Tree) → nodes_of ns ≡ t.children → nodes_of ms ≡ u.children → t ≡ u → ns ≡ ms
same_children ns ms t u at_t at_u e = same_nodes ns ms (at_t ∙ (ap (λ z. z.children) e ∙ sym at_u))

pub same_length : (ns ms : List Node) (t u : Tree) → nodes_of ns ≡ t.children → nodes_of ms ≡ u.children → t ≡ u → length ns ≡ length ms
same_length ns ms t u at_t at_u e = ap length (same_children ns ms t u at_t at_u e)

pub same_child : (ns ms : List Node) (t u : Tree) (i : ℕ) (n m : Node) → nodes_of ns ≡ t.children → nodes_of ms ≡ u.children → i < length ns → n ≡ get_or ns i n → m ≡ get_or ms i m → t ≡ u → n ≡ m
same_child ns ms t u i n m at_t at_u within here there e =
    here ∙ (get_or_default ns i n m within ∙ (ap (λ z. get_or z i m) (same_children ns ms t u at_t at_u e) ∙ sym there))

tree_of : Name → List Attr → Nodes → Tree
tree_of name attrs children = record { name = name; attrs = attrs; children = children }

pub same_tree : (ns ms : List Node) (t u : Tree) → nodes_of ns ≡ t.children → nodes_of ms ≡ u.children → (t.name ≡ u.name) × (t.attrs ≡ u.attrs) → ns ≡ ms → t ≡ u
unfolding tree_of
same_tree ns ms t u at_t at_u tags e =
    let children : t.children ≡ u.children = sym at_t ∙ (ap nodes_of e ∙ at_u) in
    λ i. tree_of (tags.0 i) (tags.1 i) (children i)

-- How long the canonical text of a tree is at most.
use Rattle.std.proofs.Common.{◌≡◌, ℕ, ◌+◌, ◌*◌, ◌≤◌, Bool, true, false, List, [], ◌∷◌, ◌++◌, length, sym, subst, arith, length-append}
use Rattle.std.specs.Prelude.{◌==◌, if◌then◌else◌}
use Rattle.std.specs.List.{flat_map}
use Rattle.std.specs.Str.{bytes_eq}
use Rattle.pws_tree.specs.Trees.{Tree, Nodes, NoNode, TextThen, QualifiedThen, ElementThen}
use Rattle.pws_tree.specs.declared.texts.Name.{Name}
use Rattle.pws_tree.specs.declared.texts.Attr.{Attr}
use Rattle.pws_mark.specs.Canonical.{text_byte, value_byte, value_text, prefix_text, name_text, attr_text, start_text, end_text, nodes_text, declarations_text, spaces_of, canonical}

-- a name has at most five bytes more than its local part, a byte of a text is written in at most five, and one of a value
-- in at most six
abbrev pub name_weight : Name → ℕ
name_weight n = length n.local + 5

abbrev pub attrs_weight : List Attr → ℕ
attrs_weight [] = 0
attrs_weight (a ∷ attrs) = name_weight a.name + 6 * length a.value + 4 + attrs_weight attrs

abbrev pub weight : Nodes → ℕ
weight NoNode = 0
weight (TextThen t rest) = 5 * length t + weight rest
weight (QualifiedThen n rest) = name_weight n + weight rest
weight (ElementThen n attrs inner rest) = name_weight n + name_weight n + attrs_weight attrs + 5 + weight inner + weight rest

if_short : (b : Bool) (x y : List ℕ) (k : ℕ) → length x ≤ k → length y ≤ k → length (if b then x else y) ≤ k
if_short true x y k hx hy = hx
if_short false x y k hx hy = hy

text_byte_short : (b : ℕ) → length (text_byte b) ≤ 5
unfolding text_byte
text_byte_short b =
    if_short (b == 38) _ _ 5 (omega arith) (if_short (b == 60) _ _ 5 (omega arith) (if_short (b == 62) _ _ 5 (omega arith) (if_short (b == 13) _ _ 5 (omega arith) (omega arith))))

value_byte_short : (b : ℕ) → length (value_byte b) ≤ 6
unfolding value_byte
value_byte_short b =
    if_short (b == 38) _ _ 6 (omega arith) (if_short (b == 60) _ _ 6 (omega arith) (if_short (b == 34) _ _ 6 (omega arith) (if_short (b == 9) _ _ 6 (omega arith) (if_short (b == 10) _ _ 6 (omega arith) (if_short (b == 13) _ _ 6 (omega arith) (omega arith))))))

text_short : (t : List ℕ) → length (flat_map text_byte t) ≤ 5 * length t
text_short [] = omega arith
text_short (b ∷ t) = omega (arith, length-append (text_byte b) (flat_map text_byte t), text_byte_short b, text_short t)

pub value_short : (t : List ℕ) → length (flat_map value_byte t) ≤ 6 * length t
value_short [] = omega arith
value_short (b ∷ t) = omega (arith, length-append (value_byte b) (flat_map value_byte t), value_byte_short b, value_short t)

-- prefixes of at most four bytes
pub record HasShortPrefixes (spaces : List (List ℕ)) : Type 0 where
  pub short : (space : List ℕ) → length (prefix_text spaces space) ≤ 4

name_short : (spaces : List (List ℕ)) → HasShortPrefixes spaces → (n : Name) → length (name_text spaces n) ≤ name_weight n
name_short spaces h n =
    if_short (bytes_eq n.space []) n.local (prefix_text spaces n.space ++ 58 ∷ n.local) (length n.local + 5) (omega arith)
    (omega (arith, length-append (prefix_text spaces n.space) (58 ∷ n.local), h.short n.space))

attr_short : (spaces : List (List ℕ)) → HasShortPrefixes spaces → (a : Attr) → length (attr_text spaces a) ≤ name_weight a.name + 6 * length a.value + 4
attr_short spaces h a =
    omega (arith, length-append (name_text spaces a.name) (value_text a.value), length-append (flat_map value_byte a.value) (34 ∷ []), name_short spaces h a.name, value_short a.value)

attrs_short : (spaces : List (List ℕ)) → HasShortPrefixes spaces → (attrs : List Attr) → length (flat_map (attr_text spaces) attrs) ≤ attrs_weight attrs
attrs_short spaces h [] = omega arith
attrs_short spaces h (a ∷ attrs) = omega (arith, length-append (attr_text spaces a) (flat_map (attr_text spaces) attrs), attr_short spaces h a, attrs_short spaces h attrs)

start_short : (spaces : List (List ℕ)) → HasShortPrefixes spaces → (declared : List ℕ) (n : Name) (attrs : List Attr) → length (start_text spaces declared n attrs) ≤ name_weight n + length declared + attrs_weight attrs + 2
start_short spaces h declared n attrs =
    omega (arith, length-append (name_text spaces n) (declared ++ (flat_map (attr_text spaces) attrs ++ 62 ∷ [])), length-append declared (flat_map (attr_text spaces) attrs ++ 62 ∷ []), length-append (flat_map (attr_text spaces) attrs) (62 ∷ []), name_short spaces h n, attrs_short spaces h attrs)

end_short : (spaces : List (List ℕ)) → HasShortPrefixes spaces → (n : Name) → length (end_text spaces n) ≤ name_weight n + 3
end_short spaces h n = omega (arith, length-append (name_text spaces n) (62 ∷ []), name_short spaces h n)

nodes_short : (spaces : List (List ℕ)) → HasShortPrefixes spaces → (ns : Nodes) → length (nodes_text spaces ns) ≤ weight ns
nodes_short spaces h NoNode = omega arith
nodes_short spaces h (TextThen t rest) = omega (arith, length-append (flat_map text_byte t) (nodes_text spaces rest), text_short t, nodes_short spaces h rest)
nodes_short spaces h (QualifiedThen n rest) = omega (arith, length-append (name_text spaces n) (nodes_text spaces rest), name_short spaces h n, nodes_short spaces h rest)
nodes_short spaces h (ElementThen n attrs inner rest) =
    omega (arith, length-append (start_text spaces [] n attrs) (nodes_text spaces inner ++ (end_text spaces n ++ nodes_text spaces rest)), length-append (nodes_text spaces inner) (end_text spaces n ++ nodes_text spaces rest), length-append (end_text spaces n) (nodes_text spaces rest), start_short spaces h [] n attrs, end_short spaces h n, nodes_short spaces h inner, nodes_short spaces h rest)

abbrev pub tree_weight : Tree → ℕ
tree_weight t = weight (ElementThen t.name t.attrs t.children NoNode)

written_short : (spaces : List (List ℕ)) → HasShortPrefixes spaces → (t : Tree) → length (start_text spaces (declarations_text spaces) t.name t.attrs ++ (nodes_text spaces t.children ++ end_text spaces t.name)) ≤ tree_weight t + length (declarations_text spaces)
written_short spaces h t =
    omega (arith, length-append (start_text spaces (declarations_text spaces) t.name t.attrs) (nodes_text spaces t.children ++ end_text spaces t.name), length-append (nodes_text spaces t.children) (end_text spaces t.name), start_short spaces h (declarations_text spaces) t.name t.attrs, nodes_short spaces h t.children, end_short spaces h t.name)

pub canonical_short : (spaces : List (List ℕ)) (t : Tree) → spaces_of t ≡ spaces → HasShortPrefixes spaces → length (canonical t) ≤ tree_weight t + length (declarations_text spaces)
canonical_short spaces t e h =
    subst (λ (s : List (List ℕ)). length (start_text s (declarations_text s) t.name t.attrs ++ (nodes_text s t.children ++ end_text s t.name)) ≤ tree_weight t + length (declarations_text spaces)) (sym e) (written_short spaces h t)

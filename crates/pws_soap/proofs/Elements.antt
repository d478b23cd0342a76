-- Elements as children, and the elements among children.
use Rattle.std.proofs.Common.{◌≡◌, ℕ, suc, ◌+◌, ◌<◌, length, drop, get_or, drop-cons, add-one, Bool, true, false, ◌&&◌, List, [], ◌∷◌, ◌++◌, refl, ap, sym, ◌∙◌}
use Rattle.pws_tree.specs.Trees.{Tree, Nodes, NoNode}
use Rattle.pws_tree.specs.Nodes.{nodes_of, node_then}
use Rattle.pws_tree.specs.declared.trees.Node.{Node}
use Rattle.pws_tree.specs.declared.trees.Node.TheVariants as node
use Rattle.pws_soap.specs.Envelopes.{nodes_of_trees, element_then, elements, are_texts_white}
use Rattle.pws_soap.specs.White.{is_all_white}

abbrev pub as_nodes : List Tree → List Node
as_nodes [] = []
as_nodes (t ∷ ts) = node.Element t ∷ as_nodes ts

pub as_nodes_are : (ts : List Tree) → nodes_of (as_nodes ts) ≡ nodes_of_trees ts
as_nodes_are [] = refl
as_nodes_are (t ∷ ts) = ap (element_then t) (as_nodes_are ts)

pub as_nodes_push : (ts : List Tree) (t : Tree) → as_nodes (ts ++ t ∷ []) ≡ as_nodes ts ++ node.Element t ∷ []
as_nodes_push [] t = refl
as_nodes_push (u ∷ ts) t = ap (λ z. node.Element u ∷ z) (as_nodes_push ts t)

pub elements_push : (ns : List Node) (n : Node) → elements (nodes_of (ns ++ n ∷ [])) ≡ elements (nodes_of ns) ++ elements (node_then n NoNode)
elements_push [] n = refl
elements_push (node.Element e ∷ ns) n = ap (λ z. e ∷ z) (elements_push ns n)
elements_push (node.Text t ∷ ns) n = elements_push ns n
elements_push (node.Qualified m ∷ ns) n = elements_push ns n

-- whether the texts of a child are white
pub white_of_first : (n : Node) (rest : Nodes) → are_texts_white (node_then n rest) ≡ (are_texts_white (node_then n NoNode) && are_texts_white rest)
white_of_first (node.Element e) rest = refl
white_of_first (node.Text t) rest = by (is_all_white t) (are_texts_white rest)
  where
    by : (a b : Bool) → (a && b) ≡ ((a && true) && b)
    by true b = refl
    by false b = refl
white_of_first (node.Qualified m) rest = refl

item_at : (ns : List Node) (i : ℕ) (n : Node) → n ≡ get_or ns i n → i < length ns → drop i ns ≡ n ∷ drop (i + 1) ns
item_at ns i n here within = rw (add-one) (drop-cons ns i n within ∙ ap (λ z. z ∷ drop (suc i) ns) (sym here))

-- one more child
white_step : (ns : List Node) (i : ℕ) (n : Node) (white : Bool) → n ≡ get_or ns i n → i < length ns → white ≡ are_texts_white (node_then n NoNode) → are_texts_white (nodes_of ns) ≡ are_texts_white (nodes_of (drop i ns)) → are_texts_white (nodes_of ns) ≡ (white && are_texts_white (nodes_of (drop (i + 1) ns)))
white_step ns i n white here within is h =
    h ∙ (ap (λ z. are_texts_white (nodes_of z)) (item_at ns i n here within) ∙ (white_of_first n (nodes_of (drop (i + 1) ns)) ∙ ap (λ z. z && are_texts_white (nodes_of (drop (i + 1) ns))) (sym is)))

pub white_fails : (ns : List Node) (i : ℕ) (n : Node) (white : Bool) → n ≡ get_or ns i n → i < length ns → white ≡ are_texts_white (node_then n NoNode) → are_texts_white (nodes_of ns) ≡ are_texts_white (nodes_of (drop i ns)) → white ≡ false → false ≡ are_texts_white (nodes_of ns)
white_fails ns i n white here within is h f = sym (white_step ns i n white here within is h ∙ ap (λ z. z && are_texts_white (nodes_of (drop (i + 1) ns))) f)

pub white_goes_on : (ns : List Node) (i : ℕ) (n : Node) (white : Bool) → n ≡ get_or ns i n → i < length ns → white ≡ are_texts_white (node_then n NoNode) → are_texts_white (nodes_of ns) ≡ are_texts_white (nodes_of (drop i ns)) → white ≡ true → are_texts_white (nodes_of ns) ≡ are_texts_white (nodes_of (drop (i + 1) ns))
white_goes_on ns i n white here within is h t = white_step ns i n white here within is h ∙ ap (λ z. z && are_texts_white (nodes_of (drop (i + 1) ns))) t

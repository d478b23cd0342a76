-- Children, one by one.
use Rattle.std.proofs.Common.{◌≡◌, ℕ, suc, ◌+◌, ◌<◌, max, Bool, true, false, not, ◌&&◌, List, [], ◌∷◌, length, drop, get_or, refl, ap, sym, ◌∙◌, arith, add-one, drop-cons, IsTrue}
use Rattle.std.specs.Prelude.{◌==◌}
use Rattle.std.proofs.lemmas.Bool.{ne_eqb}
use Rattle.std.specs.List.{list_any}
use Rattle.pws_tree.specs.Names.{is_lawful_name}
use Rattle.pws_tree.specs.Lawful.{is_one_qualified, starts_with_text, has_qualified, levels, is_lawful_text, is_lawful_tag, are_lawful, is_lawful}
use Rattle.pws_tree.specs.Trees.{Tree, Nodes, NoNode}
use Rattle.pws_tree.specs.Nodes.{nodes_of, node_then}
use Rattle.pws_tree.proofs.Levels.{lawful_parts}
use Rattle.pws_tree.specs.declared.trees.Node.{Node}
use Rattle.pws_tree.specs.declared.trees.Node.TheVariants as node

abbrev pub is_text : Node → Bool
is_text (node.Element e) = false
is_text (node.Text t) = true
is_text (node.Qualified n) = false

abbrev pub is_qualified : Node → Bool
is_qualified (node.Element e) = false
is_qualified (node.Text t) = false
is_qualified (node.Qualified n) = true

pub any_qualified : (ns : List Node) → list_any is_qualified ns ≡ has_qualified (nodes_of ns)
any_qualified [] = refl
any_qualified (node.Element e ∷ ns) = any_qualified ns
any_qualified (node.Text t ∷ ns) = any_qualified ns
any_qualified (node.Qualified n ∷ ns) = refl

two : (m : Node) (ns : List Node) (b : Bool) → false ≡ ((suc (suc (length ns)) == 1) && b)
two m ns b = ap (λ z. z && b) (sym (ne_eqb (suc (suc (length ns))) 1 (λ e. absurd (omega (arith, e)))))

pub one_qualified_is : (ns : List Node) → is_one_qualified (nodes_of ns) ≡ ((length ns == 1) && has_qualified (nodes_of ns))
one_qualified_is [] = refl
one_qualified_is (node.Element e ∷ []) = refl
one_qualified_is (node.Text t ∷ []) = refl
one_qualified_is (node.Qualified n ∷ []) = refl
one_qualified_is (node.Element e ∷ m ∷ ns) = two m ns (has_qualified (nodes_of (m ∷ ns)))
one_qualified_is (node.Text t ∷ m ∷ ns) = two m ns (has_qualified (nodes_of (m ∷ ns)))
one_qualified_is (node.Qualified n ∷ node.Element e ∷ ns) = two (node.Element e) ns true
one_qualified_is (node.Qualified n ∷ node.Text t ∷ ns) = two (node.Text t) ns true
one_qualified_is (node.Qualified n ∷ node.Qualified m ∷ ns) = two (node.Qualified m) ns true

pub levels_of_first : (n : Node) (ns : List Node) → levels (nodes_of (n ∷ ns)) ≡ max (levels (node_then n NoNode)) (levels (nodes_of ns))
levels_of_first (node.Element e) ns = omega arith
levels_of_first (node.Text t) ns = omega arith
levels_of_first (node.Qualified n) ns = omega arith

-- the child at an index comes first of what follows
pub drop_from_item : (ns : List Node) (i : ℕ) (n : Node) → n ≡ get_or ns i n → i < length ns → drop i ns ≡ n ∷ drop (i + 1) ns
drop_from_item ns i n here within = rw (add-one) (drop-cons ns i n within ∙ ap (λ z. z ∷ drop (suc i) ns) (sym here))

-- one more child: the most levels so far, and those of the others
pub levels_step : (ns : List Node) (i : ℕ) (n : Node) (most more : ℕ) → n ≡ get_or ns i n → i < length ns → more ≡ levels (node_then n NoNode) → levels (nodes_of ns) ≡ max most (levels (nodes_of (drop i ns))) → levels (nodes_of ns) ≡ max (max most more) (levels (nodes_of (drop (i + 1) ns)))
levels_step ns i n most more here within e h =
    let first : drop i ns ≡ n ∷ drop (i + 1) ns = drop_from_item ns i n here within in
    let split : levels (nodes_of (drop i ns)) ≡ max (levels (node_then n NoNode)) (levels (nodes_of (drop (i + 1) ns))) = ap (λ z. levels (nodes_of z)) first ∙ levels_of_first n (drop (i + 1) ns) in
    omega arith

pub lawful_of_first : (n : Node) (rest : Nodes) → are_lawful (node_then n rest) ≡ (are_lawful (node_then n NoNode) && (not (starts_with_text (node_then n NoNode) && starts_with_text rest) && are_lawful rest))
lawful_of_first (node.Element e) rest = by (is_lawful_tag e.name e.attrs e.children && are_lawful e.children) (are_lawful rest)
  where
    by : (a b : Bool) → (a && b) ≡ ((a && true) && b)
    by true b = refl
    by false b = refl
lawful_of_first (node.Text t) rest = by (is_lawful_text t) (not (starts_with_text rest)) (are_lawful rest)
  where
    by : (a s b : Bool) → (a && (s && b)) ≡ ((a && true) && (s && b))
    by true s b = refl
    by false s b = refl
lawful_of_first (node.Qualified n) rest = by (is_lawful_name n) (are_lawful rest)
  where
    by : (a b : Bool) → (a && b) ≡ ((a && true) && b)
    by true b = refl
    by false b = refl

-- the children are lawful where the others are, behind a text or not
abbrev pub are_lawful_behind : Bool → Nodes → Bool
are_lawful_behind after_text rest = not (after_text && starts_with_text rest) && are_lawful rest

pub starts_of_first : (n : Node) (rest : Nodes) → starts_with_text (node_then n rest) ≡ starts_with_text (node_then n NoNode)
starts_of_first (node.Element e) rest = refl
starts_of_first (node.Text t) rest = refl
starts_of_first (node.Qualified n) rest = refl

regroup : (s l more : Bool) → (not s && (l && more)) ≡ ((not s && l) && more)
regroup true l more = refl
regroup false l more = refl

pub lawful_step : (ns : List Node) (i : ℕ) (n : Node) (after may : Bool) → n ≡ get_or ns i n → i < length ns → may ≡ (not (after && starts_with_text (node_then n NoNode)) && are_lawful (node_then n NoNode)) → are_lawful (nodes_of ns) ≡ are_lawful_behind after (nodes_of (drop i ns)) → are_lawful (nodes_of ns) ≡ (may && are_lawful_behind (starts_with_text (node_then n NoNode)) (nodes_of (drop (i + 1) ns)))
lawful_step ns i n after may here within is_may h =
    let first : nodes_of (drop i ns) ≡ node_then n (nodes_of (drop (i + 1) ns)) = ap nodes_of (drop_from_item ns i n here within) in
    let by : (s l more : Bool) → (not s && (l && more)) ≡ ((not s && l) && more) = regroup in
    h ∙ (ap (are_lawful_behind after) first ∙ (rw (lawful_of_first, starts_of_first) (by (after && starts_with_text (node_then n NoNode)) (are_lawful (node_then n NoNode)) (are_lawful_behind (starts_with_text (node_then n NoNode)) (nodes_of (drop (i + 1) ns))) ∙ ap (λ z. z && are_lawful_behind (starts_with_text (node_then n NoNode)) (nodes_of (drop (i + 1) ns))) (sym is_may))))

pub lawful_fails : (ns : List Node) (i : ℕ) (n : Node) (after may : Bool) → n ≡ get_or ns i n → i < length ns → may ≡ (not (after && starts_with_text (node_then n NoNode)) && are_lawful (node_then n NoNode)) → are_lawful (nodes_of ns) ≡ are_lawful_behind after (nodes_of (drop i ns)) → may ≡ false → false ≡ are_lawful (nodes_of ns)
lawful_fails ns i n after may here within is_may h f = sym (lawful_step ns i n after may here within is_may h ∙ ap (λ z. z && are_lawful_behind (starts_with_text (node_then n NoNode)) (nodes_of (drop (i + 1) ns))) f)

pub lawful_goes_on : (ns : List Node) (i : ℕ) (n : Node) (after may text : Bool) → n ≡ get_or ns i n → i < length ns → may ≡ (not (after && starts_with_text (node_then n NoNode)) && are_lawful (node_then n NoNode)) → are_lawful (nodes_of ns) ≡ are_lawful_behind after (nodes_of (drop i ns)) → may ≡ true → text ≡ starts_with_text (node_then n NoNode) → are_lawful (nodes_of ns) ≡ are_lawful_behind text (nodes_of (drop (i + 1) ns))
lawful_goes_on ns i n after may text here within is_may h t is_text = lawful_step ns i n after may here within is_may h ∙ (ap (λ z. z && are_lawful_behind (starts_with_text (node_then n NoNode)) (nodes_of (drop (i + 1) ns))) t ∙ ap (λ z. are_lawful_behind z (nodes_of (drop (i + 1) ns))) (sym is_text))

pub lawful_element : (e : Tree) → IsTrue (is_lawful e) → are_lawful (node_then (node.Element e) NoNode) ≡ true
lawful_element e h = ap (λ z. z && true) (lawful_parts e h)

-- Children, one by one: the namespaces that they use, their text, and how large they are.
use Rattle.std.proofs.Common.{◌≡◌, ℕ, zero, suc, ◌+◌, ◌<◌, ◌≤◌, List, [], ◌∷◌, ◌++◌, fold, length, drop, get_or, refl, ap, sym, ◌∙◌, arith, add-one, drop-cons, append_assoc, append-nil, length-append, Some, None, slice_get}
use Rattle.std.specs.List.{flat_map, enumerate_from}
use Rattle.pws_tree.specs.Trees.{Tree, Nodes, NoNode, marks}
use Rattle.pws_tree.specs.Nodes.{nodes_of, node_then, tree_size}
use Rattle.pws_tree.specs.declared.trees.Node.{Node}
use Rattle.pws_tree.specs.declared.trees.Node.TheVariants as node
use Rattle.pws_mark.specs.Canonical.{with_space, tag_uses, uses, tree_uses, nodes_text, declaration_text, declarations_text}

-- the item at an index comes first of what follows
pub drop_from_item : {A : Type 0} (xs : List A) (i : ℕ) (x : A) → x ≡ get_or xs i x → i < length xs → drop i xs ≡ x ∷ drop (i + 1) xs
drop_from_item xs i x here within = rw (add-one) (drop-cons xs i x within ∙ ap (λ z. z ∷ drop (suc i) xs) (sym here))

pub marks_of_first : (n : Node) (rest : Nodes) → length (marks (node_then n rest)) ≡ length (marks (node_then n NoNode)) + length (marks rest)
marks_of_first (node.Text t) rest = omega arith
marks_of_first (node.Qualified n) rest = omega arith
marks_of_first (node.Element e) rest = omega (arith, length-append (marks e.children) (None ∷ marks rest), length-append (marks e.children) (None ∷ []))

drop_falls : (ns : List Node) (i : ℕ) → length (marks (nodes_of (drop i ns))) ≤ length (marks (nodes_of ns))
drop_falls [] zero = omega arith
drop_falls [] (suc i) = omega arith
drop_falls (n ∷ ns) zero = omega arith
drop_falls (n ∷ ns) (suc i) = omega (arith, drop_falls ns i, marks_of_first n (nodes_of ns))

-- a child is smaller than the element that it is in
pub child_falls : (ns : List Node) (i : ℕ) (n : Node) (t : Tree) → nodes_of ns ≡ t.children → n ≡ get_or ns i n → i < length ns → length (marks (node_then n NoNode)) < tree_size t
child_falls ns i n t at here within =
    let first : length (marks (nodes_of (drop i ns))) ≡ length (marks (node_then n (nodes_of (drop (i + 1) ns)))) = ap (λ z. length (marks (nodes_of z))) (drop_from_item ns i n here within) in
    let size : length (marks (nodes_of ns)) ≡ length (marks t.children) = ap (λ z. length (marks z)) at in
    omega (arith, first, size, drop_falls ns i, marks_of_first n (nodes_of (drop (i + 1) ns)))

-- an element is smaller than the child that it is
pub element_falls : (e : Tree) → tree_size e < length (marks (node_then (node.Element e) NoNode))
element_falls e = omega (arith, length-append (marks e.children) (None ∷ []))

pub fold_append : (spaces : List (List ℕ)) (xs ys : List (List ℕ)) → fold with_space spaces (xs ++ ys) ≡ fold with_space (fold with_space spaces xs) ys
fold_append spaces [] ys = refl
fold_append spaces (x ∷ xs) ys = fold_append (with_space spaces x) xs ys

pub uses_of_first : (n : Node) (rest : Nodes) → uses (node_then n rest) ≡ uses (node_then n NoNode) ++ uses rest
uses_of_first (node.Text t) rest = refl
uses_of_first (node.Qualified n) rest = refl
uses_of_first (node.Element e) rest =
    sym (append_assoc (tag_uses e.name e.attrs) (uses e.children ++ []) (uses rest) ∙ ap (λ z. tag_uses e.name e.attrs ++ (z ++ uses rest)) (append-nil (uses e.children)))

-- a child's namespaces are noted, and then those of the others
pub note_step : (ns : List Node) (i : ℕ) (n : Node) (now after total : List (List ℕ)) → n ≡ get_or ns i n → i < length ns → after ≡ fold with_space now (uses (node_then n NoNode)) → fold with_space now (uses (nodes_of (drop i ns))) ≡ total → fold with_space after (uses (nodes_of (drop (i + 1) ns))) ≡ total
note_step ns i n now after total here within noted h =
    let split : uses (nodes_of (drop i ns)) ≡ uses (node_then n NoNode) ++ uses (nodes_of (drop (i + 1) ns)) = ap (λ z. uses (nodes_of z)) (drop_from_item ns i n here within) ∙ uses_of_first n (nodes_of (drop (i + 1) ns)) in
    ap (λ z. fold with_space z (uses (nodes_of (drop (i + 1) ns)))) noted ∙ (sym (fold_append now (uses (node_then n NoNode)) (uses (nodes_of (drop (i + 1) ns)))) ∙ (ap (fold with_space now) (sym split) ∙ h))

pub drop_all : {A : Type 0} (xs : List A) (i : ℕ) → length xs ≤ i → drop i xs ≡ []
drop_all [] zero h = refl
drop_all [] (suc i) h = refl
drop_all (x ∷ xs) zero h = absurd (omega arith)
drop_all (x ∷ xs) (suc i) h = drop_all xs i (omega arith)

-- all are noted
pub noted_all : (ns : List Node) (i : ℕ) (t : Tree) (old tag now : List (List ℕ)) → length ns ≤ i → nodes_of ns ≡ t.children → tag ≡ fold with_space old (tag_uses t.name t.attrs) → fold with_space now (uses (nodes_of (drop i ns))) ≡ fold with_space tag (uses (nodes_of ns)) → now ≡ fold with_space old (tree_uses t)
noted_all ns i t old tag now end at tagged h =
    let none : uses (nodes_of (drop i ns)) ≡ [] = ap (λ z. uses (nodes_of z)) (drop_all ns i end) in
    ap (fold with_space now) (sym none) ∙ (h ∙ (ap (λ z. fold with_space tag (uses z)) at ∙ (ap (λ z. fold with_space z (uses t.children)) tagged ∙ sym (fold_append old (tag_uses t.name t.attrs) (uses t.children)))))

pub text_of_first : (spaces : List (List ℕ)) (n : Node) (rest : Nodes) → nodes_text spaces (node_then n rest) ≡ nodes_text spaces (node_then n NoNode) ++ nodes_text spaces rest
text_of_first spaces (node.Text t) rest = simp append-nil
text_of_first spaces (node.Qualified n) rest = simp append-nil
text_of_first spaces (node.Element e) rest = simp (append_assoc, append-nil)

-- a child's text is written, and then that of the others
pub put_step : (spaces : List (List ℕ)) (ns : List Node) (i : ℕ) (n : Node) (now after total : List ℕ) → n ≡ get_or ns i n → i < length ns → after ≡ now ++ nodes_text spaces (node_then n NoNode) → now ++ nodes_text spaces (nodes_of (drop i ns)) ≡ total → after ++ nodes_text spaces (nodes_of (drop (i + 1) ns)) ≡ total
put_step spaces ns i n now after total here within put h =
    let split : nodes_text spaces (nodes_of (drop i ns)) ≡ nodes_text spaces (node_then n NoNode) ++ nodes_text spaces (nodes_of (drop (i + 1) ns)) = ap (λ z. nodes_text spaces (nodes_of z)) (drop_from_item ns i n here within) ∙ text_of_first spaces n (nodes_of (drop (i + 1) ns)) in
    ap (λ z. z ++ nodes_text spaces (nodes_of (drop (i + 1) ns))) put ∙ (append_assoc now (nodes_text spaces (node_then n NoNode)) (nodes_text spaces (nodes_of (drop (i + 1) ns))) ∙ (ap (λ z. now ++ z) (sym split) ∙ h))

pub put_all : (spaces : List (List ℕ)) (ns : List Node) (i : ℕ) (t : Tree) (old now : List ℕ) → length ns ≤ i → nodes_of ns ≡ t.children → now ++ nodes_text spaces (nodes_of (drop i ns)) ≡ old ++ nodes_text spaces (nodes_of ns) → now ≡ old ++ nodes_text spaces t.children
put_all spaces ns i t old now end at h =
    let none : nodes_text spaces (nodes_of (drop i ns)) ≡ [] = ap (λ z. nodes_text spaces (nodes_of z)) (drop_all ns i end) in
    sym (append-nil now) ∙ (ap (λ z. now ++ z) (sym none) ∙ (h ∙ ap (λ z. old ++ nodes_text spaces z) at))

-- The declarations, from a place on.
abbrev pub declared_from : ℕ → List (List ℕ) → List ℕ
declared_from i spaces = flat_map declaration_text (enumerate_from i spaces)

drop_from_some : (spaces : List (List ℕ)) (i : ℕ) (s : List ℕ) → Some s ≡ slice_get spaces i → drop i spaces ≡ s ∷ drop (suc i) spaces
drop_from_some [] zero s h = cc
drop_from_some [] (suc i) s h = cc
drop_from_some (x ∷ spaces) zero s h = let e : s ≡ x = cc in ap (λ z. z ∷ spaces) (sym e)
drop_from_some (x ∷ spaces) (suc i) s h = drop_from_some spaces i s h

pub declare_step : (spaces : List (List ℕ)) (i : ℕ) (s now after total : List ℕ) → Some s ≡ slice_get spaces i → after ≡ now ++ declaration_text (i, s) → now ++ declared_from i (drop i spaces) ≡ total → after ++ declared_from (i + 1) (drop (i + 1) spaces) ≡ total
declare_step spaces i s now after total here put h =
    let next : drop i spaces ≡ s ∷ drop (i + 1) spaces = rw add-one (drop_from_some spaces i s here) in
    let split : declared_from i (drop i spaces) ≡ declaration_text (i, s) ++ declared_from (i + 1) (drop (i + 1) spaces) = rw add-one (rw add-one at (ap (declared_from i) next)) in
    ap (λ z. z ++ declared_from (i + 1) (drop (i + 1) spaces)) put ∙ (append_assoc now (declaration_text (i, s)) (declared_from (i + 1) (drop (i + 1) spaces)) ∙ (ap (λ z. now ++ z) (sym split) ∙ h))

drop_past : {A : Type 0} (xs : List A) (i : ℕ) → drop i xs ≡ [] → drop (suc i) xs ≡ []
drop_past [] zero h = refl
drop_past [] (suc i) h = refl
drop_past (x ∷ xs) zero h = cc
drop_past (x ∷ xs) (suc i) h = drop_past xs i h

drop_from_none : (spaces : List (List ℕ)) (i : ℕ) → None ≡ slice_get spaces i → drop i spaces ≡ []
drop_from_none [] zero h = refl
drop_from_none [] (suc i) h = refl
drop_from_none (x ∷ spaces) zero h = absurd cc
drop_from_none (x ∷ spaces) (suc i) h = drop_from_none spaces i h

pub declare_none : (spaces : List (List ℕ)) (i : ℕ) (now after total : List ℕ) → None ≡ slice_get spaces i → after ≡ now → now ++ declared_from i (drop i spaces) ≡ total → after ++ declared_from (i + 1) (drop (i + 1) spaces) ≡ total
declare_none spaces i now after total here same h =
    let none : drop i spaces ≡ [] = drop_from_none spaces i here in
    let more : drop (i + 1) spaces ≡ [] = rw add-one (drop_past spaces i none) in
    ap (λ z. after ++ declared_from (i + 1) z) more ∙ (ap (λ z. z ++ []) same ∙ (ap (λ z. now ++ declared_from i z) (sym none) ∙ h))

pub declared_all : (spaces : List (List ℕ)) (i : ℕ) (old now : List ℕ) → length spaces ≤ i → now ++ declared_from i (drop i spaces) ≡ old ++ declarations_text spaces → now ≡ old ++ declarations_text spaces
declared_all spaces i old now end h = sym (append-nil now) ∙ (ap (λ z. now ++ declared_from i z) (sym (drop_all spaces i end)) ∙ h)

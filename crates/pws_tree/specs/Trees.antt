-- A tree as contracts see it; its shape is this project's own, after the information items of XML 1.0 that envelopes have.
use Rattle.std.specs.Prelude.{◌≡◌, ◌⊎◌, ℕ, List, [], ◌∷◌, ◌++◌, Option, Some, None, refl}
use Rattle.std.proofs.Common.{inl, inr, sym, ◌∙◌, ap, append_assoc, append-nil}
use Rattle.std.specs.Coded.{Coded, code_by, coded×, coded⊎, coded_ℕ, coded_list, coded_option}
use Rattle.pws_tree.specs.declared.texts.Name.{Name}
use Rattle.pws_tree.specs.declared.texts.Attr.{Attr}

-- the children of an element: none, or a text, a qualified name or an element, and then the others
pub data Nodes : Type 0 where
  NoNode : Nodes
  TextThen : List ℕ → Nodes → Nodes
  QualifiedThen : Name → Nodes → Nodes
  ElementThen : Name → List Attr → Nodes → Nodes → Nodes

-- an element; its attributes are a set, which is kept in the order of their names
pub record Tree : Type 0 where
  pub name : Name
  pub attrs : List Attr
  pub children : Nodes

-- Nodes as a list, by which trees are told apart: what begins, and nothing where an element ends.
abbrev pub Mark : Type 0
Mark = Option (List ℕ ⊎ (Name ⊎ (Name × List Attr)))

abbrev pub marks : Nodes → List Mark
marks NoNode = []
marks (TextThen t rest) = Some (inl t) ∷ marks rest
marks (QualifiedThen n rest) = Some (inr (inl n)) ∷ marks rest
marks (ElementThen n attrs inner rest) = Some (inr (inr (n, attrs))) ∷ (marks inner ++ None ∷ marks rest)

abbrev pub add_text : List ℕ → List Nodes → List Nodes
add_text t [] = []
add_text t (x ∷ stack) = TextThen t x ∷ stack

abbrev pub add_qualified : Name → List Nodes → List Nodes
add_qualified n [] = []
add_qualified n (x ∷ stack) = QualifiedThen n x ∷ stack

abbrev pub add_element : Name → List Attr → List Nodes → List Nodes
add_element n attrs [] = []
add_element n attrs (x ∷ []) = []
add_element n attrs (x ∷ y ∷ stack) = ElementThen n attrs x y ∷ stack

-- read from the right
abbrev pub read_mark : Mark → List Nodes → List Nodes
read_mark None stack = NoNode ∷ stack
read_mark (Some (inl t)) stack = add_text t stack
read_mark (Some (inr (inl n))) stack = add_qualified n stack
read_mark (Some (inr (inr e))) stack = add_element e.0 e.1 stack

abbrev pub read_marks : List Mark → List Nodes
read_marks [] = NoNode ∷ []
read_marks (m ∷ ms) = read_mark m (read_marks ms)

abbrev pub top : List Nodes → Nodes
top [] = NoNode
top (x ∷ stack) = x

pub read_back : (x : Nodes) (ms : List Mark) (stack : List Nodes) → read_marks ms ≡ NoNode ∷ stack → read_marks (marks x ++ ms) ≡ x ∷ stack
read_back NoNode ms stack h = h
read_back (TextThen t rest) ms stack h = ap (add_text t) (read_back rest ms stack h)
read_back (QualifiedThen n rest) ms stack h = ap (add_qualified n) (read_back rest ms stack h)
read_back (ElementThen n attrs inner rest) ms stack h =
    ap (λ z. add_element n attrs (read_marks z)) (append_assoc (marks inner) (None ∷ marks rest) ms)
    ∙ ap (add_element n attrs) (read_back inner (None ∷ (marks rest ++ ms)) (rest ∷ stack) (ap (λ z. NoNode ∷ z) (read_back rest ms stack h)))

abbrev pub coded_text : Coded (List ℕ)
coded_text = coded_list coded_ℕ

abbrev pub coded_name : Coded Name
coded_name =
    code_by (List ℕ × List ℕ) (coded× coded_text coded_text) (λ n. (n.space, n.local)) (λ p. record { space = p.0; local = p.1 }) (λ _. refl)

abbrev pub coded_attr : Coded Attr
coded_attr =
    code_by (Name × List ℕ) (coded× coded_name coded_text) (λ a. (a.name, a.value)) (λ p. record { name = p.0; value = p.1 }) (λ _. refl)

abbrev pub coded_tree : Coded Tree
coded_tree =
    let coded_mark : Coded Mark = coded_option (coded⊎ coded_text (coded⊎ coded_name (coded× coded_name (coded_list coded_attr)))) in
    let read_again : (x : Nodes) → top (read_marks (marks x)) ≡ x = λ x. ap (λ z. top (read_marks z)) (sym (append-nil (marks x))) ∙ ap top (read_back x [] [] refl) in
    let coded_nodes : Coded Nodes = code_by (List Mark) (coded_list coded_mark) marks (λ ms. top (read_marks ms)) read_again in
    code_by (Name × (List Attr × Nodes)) (coded× coded_name (coded× (coded_list coded_attr) coded_nodes)) (λ t. (t.name, (t.attrs, t.children)))
    (λ p. record { name = p.0; attrs = p.1.0; children = p.1.1 }) (λ _. refl)

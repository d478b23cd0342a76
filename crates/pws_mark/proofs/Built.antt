-- The tree that is built of events is the one that they stand for.
use Rattle.std.proofs.Common.{◌≡◌, ℕ, suc, ◌+◌, ◌-◌, ◌<◌, ◌≤◌, Bool, true, false, not, ◌&&◌, nat_le, cond, List, [], ◌∷◌, ◌++◌, take, drop, length, refl, ap, sym, ◌∙◌, subst, rules, arith, Some, None, inl, inr, IsTrue, slice_set, slice_index_or}
use Rattle.std.specs.Prelude.{◌⊎◌, ◌==◌}
use Rattle.std.specs.Cmp.{IsTotalOrder}
use Rattle.std.specs.Cmp.Rules.{comparing}
use Rattle.std.specs.List.{Contains}
use Rattle.std.specs.List.Sorted.{IsPermutation}
use Rattle.std.specs.Ordering.{is_lt, ordering_reverse}
use Rattle.std.specs.declared.cmp.Ordering.{Ordering}
use Rattle.std.specs.declared.cmp.Ordering.TheVariants.{Less, Equal, Greater}
use Rattle.std.proofs.lemmas.Bool.{and_parts, and_from, leb-true, le-leb, eqb-true}
use Rattle.std.proofs.lemmas.List.{set_split, take_more, take_all, drop_all}
use Rattle.std.proofs.lemmas.List.Elements.{Contains-append_left, Contains-append_right, Contains-push, Contains-push_cases, Contains-append_cases}
use Rattle.std.proofs.lemmas.List.Sorted.{IsPermutation-refl, IsPermutation-cons, IsPermutation-trans, IsPermutation-sym, IsPermutation-middle, Contains-permutation}
use Rattle.pws_tree.specs.Lawful.{is_lawful, is_lawful_tag, is_lawful_text, are_lawful, starts_with_text, levels, tree_depth}
use Rattle.pws_tree.specs.Made.{IsMadeOf, CanMake}
use Rattle.pws_tree.specs.Names.{name_cmp, ascend, is_lawful_name}
use Rattle.pws_tree.specs.Nodes.{node_then, nodes_of}
use Rattle.pws_tree.specs.Trees.{Tree, Nodes, NoNode, ElementThen, top, add_element, add_text, add_qualified}
use Rattle.pws_tree.specs.declared.texts.Name.{Name}
use Rattle.pws_tree.specs.declared.texts.Attr.{Attr}
use Rattle.pws_tree.specs.declared.trees.Node.{Node}
use Rattle.pws_tree.specs.declared.trees.Node.TheVariants as node
use Rattle.pws_mark.specs.Frames.{nodes_before, frame_tree, add_nodes, opened, around, IsTree, IsWhole, MayTake, Takes, Adds, MayBuild}
use Rattle.pws_mark.specs.Meaning.{insert_attr, in_order, first_tree}
use Rattle.pws_mark.specs.ReaderLaws.{read_event, read_events, Builds}
use Rattle.pws_mark.specs.declared.building.Frame.{Frame}
use Rattle.pws_mark.specs.declared.modes.Event.{Event}
use Rattle.pws_mark.specs.declared.modes.Event.TheVariants as event
use Rattle.pws_mark.proofs.GoodNodes.{tag_parts}

-- attributes in order are the same attributes
insert_moves : (a : Attr) (xs : List Attr) → IsPermutation (a ∷ xs) (insert_attr a xs)
insert_moves a [] = IsPermutation-refl (a ∷ [])
insert_moves a (b ∷ xs) = by (is_lt (name_cmp b.name a.name)) (insert_moves a xs)
  where
    by : (t : Bool) → IsPermutation (a ∷ xs) (insert_attr a xs) → IsPermutation (a ∷ b ∷ xs) (cond t (b ∷ insert_attr a xs) (a ∷ b ∷ xs))
    by true h = IsPermutation-trans (a ∷ b ∷ xs) (b ∷ a ∷ xs) (b ∷ insert_attr a xs) (IsPermutation-middle (a ∷ []) b xs) (IsPermutation-cons b (a ∷ xs) (insert_attr a xs) h)
    by false h = IsPermutation-refl (a ∷ b ∷ xs)

pub order_moves : (xs : List Attr) → IsPermutation xs (in_order xs)
order_moves [] = IsPermutation-refl []
order_moves (a ∷ xs) = IsPermutation-trans (a ∷ xs) (a ∷ in_order xs) (in_order (a ∷ xs)) (IsPermutation-cons a xs (in_order xs) (order_moves xs)) (insert_moves a (in_order xs))

-- rising attributes that are the same ones stand in one order
name_total : IsTotalOrder name_cmp
name_total = search (comparing, rules)

is_less : (o : Ordering) → is_lt o ≡ true → o ≡ Less
is_less Less h = refl
is_less Equal h = cc
is_less Greater h = cc

not_both : (x y : Ordering) → x ≡ ordering_reverse y → x ≡ Less → y ≡ Less → ⊥
not_both Less Less e f g = cc
not_both Less Equal e f g = cc
not_both Less Greater e f g = cc
not_both Equal y e f g = cc
not_both Greater y e f g = cc

here : (a : Attr) (xs : List Attr) → Contains (a ∷ xs) a
here a xs = Contains-append_left (a ∷ []) xs a (Contains-push [] a)

later : (a z : Attr) (xs : List Attr) → Contains xs z → Contains (a ∷ xs) z
later a z xs h = Contains-append_right (a ∷ []) xs z h

none : (z : Attr) → Contains {X = Attr} [] z → ⊥
none z h = omega (arith, h.1)

first_or : (a z : Attr) (xs : List Attr) → Contains (a ∷ xs) z → (a ≡ z) ⊎ Contains xs z
first_or a z xs h = by (Contains-append_cases (a ∷ []) xs z h)
  where
    alone : Contains {X = Attr} [] z ⊎ (a ≡ z) → a ≡ z
    alone (inl e) = absurd (none z e)
    alone (inr e) = e

    by : Contains (a ∷ []) z ⊎ Contains xs z → (a ≡ z) ⊎ Contains xs z
    by (inl e) = inl (alone (Contains-push_cases [] a z e))
    by (inr m) = inr m

ascend_rest : (a : Attr) (xs : List Attr) → ascend (a ∷ xs) ≡ true → ascend xs ≡ true
ascend_rest a [] up = refl
ascend_rest a (b ∷ xs) up = (and_parts (is_lt (name_cmp a.name b.name)) (ascend (b ∷ xs)) up).1

below : (a z : Attr) (xs : List Attr) → ascend (a ∷ xs) ≡ true → Contains xs z → name_cmp a.name z.name ≡ Less
below a z [] up h = absurd (none z h)
below a z (b ∷ xs) up h =
    let parts = and_parts (is_lt (name_cmp a.name b.name)) (ascend (b ∷ xs)) up in
    by (is_less (name_cmp a.name b.name) parts.0) (λ m. below b z xs parts.1 m) (first_or b z xs h)
  where
    by : name_cmp a.name b.name ≡ Less → (Contains xs z → name_cmp b.name z.name ≡ Less) → (b ≡ z) ⊎ Contains xs z → name_cmp a.name z.name ≡ Less
    by next more (inl e) = ap (λ y. name_cmp a.name y.name) (sym e) ∙ next
    by next more (inr m) = name_total.trans a.name b.name z.name next (more m)

never : (a z : Attr) → name_cmp a.name z.name ≡ Less → name_cmp z.name a.name ≡ Less → ⊥
never a z h g = not_both (name_cmp a.name z.name) (name_cmp z.name a.name) (name_total.antisymm a.name z.name) h g

firsts : (a b : Attr) (xs ys : List Attr) → ascend (a ∷ xs) ≡ true → ascend (b ∷ ys) ≡ true → Contains (b ∷ ys) a → Contains (a ∷ xs) b → a ≡ b
firsts a b xs ys up vp f g = by (first_or b a ys f) (first_or a b xs g)
  where
    by : (b ≡ a) ⊎ Contains ys a → (a ≡ b) ⊎ Contains xs b → a ≡ b
    by (inl e) n = sym e
    by (inr m) (inl e) = e
    by (inr m) (inr n) = absurd (never a b (below a b xs up n) (below b a ys vp m))

-- what stands behind the first in one list doesn't in front of the other
behind : (a b z : Attr) (xs ys : List Attr) → a ≡ b → ascend (a ∷ xs) ≡ true → Contains xs z → Contains (b ∷ ys) z → Contains ys z
behind a b z xs ys e up m h = by (first_or b z ys h)
  where
    by : (b ≡ z) ⊎ Contains ys z → Contains ys z
    by (inl f) =
        let itself : name_cmp a.name a.name ≡ Less = ap (λ y. name_cmp a.name y.name) (e ∙ f) ∙ below a z xs up m in
        absurd (never a a itself itself)
    by (inr n) = n

risen_same : (xs ys : List Attr) → ascend xs ≡ true → ascend ys ≡ true → ((z : Attr) → Contains xs z → Contains ys z) → ((z : Attr) → Contains ys z → Contains xs z) → xs ≡ ys
risen_same [] [] up vp f g = refl
risen_same [] (b ∷ ys) up vp f g = absurd (none b (g b (here b ys)))
risen_same (a ∷ xs) [] up vp f g = absurd (none a (f a (here a xs)))
risen_same (a ∷ xs) (b ∷ ys) up vp f g =
    let first : a ≡ b = firsts a b xs ys up vp (f a (here a xs)) (g b (here b ys)) in
    let rest : xs ≡ ys = risen_same xs ys (ascend_rest a xs up) (ascend_rest b ys vp) (λ z m. behind a b z xs ys first up m (f z (later a z xs m))) (λ z m. behind b a z ys xs (sym first) vp m (g z (later b z ys m))) in
    ap (λ y. y ∷ xs) first ∙ ap (λ ws. b ∷ ws) rest

-- of the lawful elements of these parts there is one
tree_with : Name → List Attr → Nodes → Tree
tree_with n attrs children = record { name = n; attrs = attrs; children = children }

rising : (t : Tree) → IsTrue (is_lawful t) → ascend t.attrs ≡ true
rising t h =
    let whole = and_parts (is_lawful_tag t.name t.attrs t.children && are_lawful t.children) (nat_le (tree_depth t) 64) h in
    (tag_parts t.name t.attrs t.children (and_parts (is_lawful_tag t.name t.attrs t.children) (are_lawful t.children) whole.0).0).rising

pub can_make : (f : Frame) (attrs : List Attr) (children : List Node) → attrs ≡ f.attrs → children ≡ f.children → IsTrue (is_lawful (frame_tree f)) → CanMake f.name attrs children
can_make f attrs children e g lawful = record {
  tree = frame_tree f;
  made = record { name_is = refl; attrs_are = subst (λ xs. IsPermutation xs (in_order f.attrs)) (sym e) (order_moves f.attrs); children_are = ap nodes_of (sym g) };
  lawful = lawful;
}

pub made_is : (f : Frame) (attrs : List Attr) (children : List Node) (t : Tree) → attrs ≡ f.attrs → children ≡ f.children → IsTrue (is_lawful (frame_tree f)) → IsMadeOf f.name attrs children t → IsTrue (is_lawful t) → t ≡ frame_tree f
unfolding tree_with
made_is f attrs children t e g wanted made lawful =
    let moved : IsPermutation f.attrs t.attrs = subst (λ xs. IsPermutation xs t.attrs) e made.attrs_are in
    let back : IsPermutation t.attrs f.attrs = IsPermutation-sym f.attrs t.attrs moved in
    let away : IsPermutation (in_order f.attrs) f.attrs = IsPermutation-sym f.attrs (in_order f.attrs) (order_moves f.attrs) in
    let same : t.attrs ≡ in_order f.attrs =
    risen_same t.attrs (in_order f.attrs) (rising t lawful) (rising (frame_tree f) wanted)
    (λ z h. Contains-permutation f.attrs (in_order f.attrs) z (order_moves f.attrs) (Contains-permutation t.attrs f.attrs z back h))
    (λ z h. Contains-permutation f.attrs t.attrs z moved (Contains-permutation (in_order f.attrs) f.attrs z away h)) in
    let inside : t.children ≡ nodes_of f.children = made.children_are ∙ ap nodes_of g in
    λ i. tree_with (made.name_is i) (same i) (inside i)

-- the parts of lawful nodes are lawful
record IsGood (x : Nodes) : Type 0 where
  lawful : are_lawful x ≡ true
  few : levels x ≤ 64

good_inner : (n : Name) (attrs : List Attr) (x y : Nodes) → IsGood (ElementThen n attrs x y) → IsGood x
good_inner n attrs x y h =
    let whole = and_parts (is_lawful_tag n attrs x && are_lawful x) (are_lawful y) h.lawful in
    record { lawful = (and_parts (is_lawful_tag n attrs x) (are_lawful x) whole.0).1; few = omega (arith, h.few) }

good_rest : (n : Node) (x : Nodes) → IsGood (node_then n x) → IsGood x
good_rest (node.Text t) x h = record { lawful = (and_parts (not (starts_with_text x)) (are_lawful x) (and_parts (is_lawful_text t) (not (starts_with_text x) && are_lawful x) h.lawful).1).1; few = h.few }
good_rest (node.Qualified n) x h = record { lawful = (and_parts (is_lawful_name n) (are_lawful x) h.lawful).1; few = h.few }
good_rest (node.Element e) x h = record { lawful = (and_parts (is_lawful_tag e.name e.attrs e.children && are_lawful e.children) (are_lawful x) h.lawful).1; few = omega (arith, h.few) }

good_behind : (ns : List Node) (x : Nodes) → IsGood (nodes_before ns x) → IsGood x
good_behind [] x h = h
good_behind (n ∷ ns) x h = good_behind ns x (good_rest n (nodes_before ns x) h)

abbrev IsTopGood : List Nodes → Type 0
IsTopGood [] = ⊥
IsTopGood (x ∷ stack) = IsGood x

good_opened : (f : Frame) (stack : List Nodes) → IsTopGood (opened f stack) → IsTopGood stack
good_opened f [] h = h
good_opened f (x ∷ []) h = absurd h
good_opened f (x ∷ y ∷ stack) h = good_behind f.children x (good_inner f.name (in_order f.attrs) (nodes_before f.children x) y h)

good_around : (fs : List Frame) (stack : List Nodes) → IsTopGood (around fs stack) → IsTopGood stack
good_around [] stack h = h
good_around (f ∷ fs) stack h = good_around fs stack (good_opened f (around fs stack) h)

good_tree : (t : Tree) → IsTrue (is_lawful t) → IsGood (ElementThen t.name t.attrs t.children NoNode)
good_tree t h =
    let whole = and_parts (is_lawful_tag t.name t.attrs t.children && are_lawful t.children) (nat_le (tree_depth t) 64) h in
    let few : tree_depth t ≤ 64 = leb-true (tree_depth t) 64 whole.1 in
    record { lawful = and_from (is_lawful_tag t.name t.attrs t.children && are_lawful t.children) true whole.0 refl; few = omega (arith, few) }

good_whole : (stack : List Nodes) → IsWhole stack → IsTopGood stack
good_whole stack h = subst IsTopGood (sym h.is.is) (good_tree h.tree h.lawful)

element_lawful : (n : Name) (attrs : List Attr) (x y : Nodes) → IsGood (ElementThen n attrs x y) → IsTrue (is_lawful (record { name = n; attrs = attrs; children = x }))
element_lawful n attrs x y h =
    let whole = and_parts (is_lawful_tag n attrs x && are_lawful x) (are_lawful y) h.lawful in
    let few : levels x + 1 ≤ 64 = omega (arith, h.few) in
    and_from (is_lawful_tag n attrs x && are_lawful x) (nat_le (levels x + 1) 64) whole.0 (le-leb (levels x + 1) 64 few)

-- frames one by one
nodes_alone : (ns : List Node) → nodes_before ns NoNode ≡ nodes_of ns
nodes_alone [] = refl
nodes_alone (n ∷ ns) = ap (node_then n) (nodes_alone ns)

nodes_more : (ns : List Node) (n : Node) (x : Nodes) → nodes_before (ns ++ n ∷ []) x ≡ nodes_before ns (node_then n x)
nodes_more [] n x = refl
nodes_more (m ∷ ns) n x = ap (node_then m) (nodes_more ns n x)

around_more : (fs : List Frame) (f : Frame) (stack : List Nodes) → around (fs ++ f ∷ []) stack ≡ around fs (opened f stack)
around_more [] f stack = refl
around_more (g ∷ fs) f stack = ap (opened g) (around_more fs f stack)

frame_with : Name → List Attr → List Node → Frame
frame_with n attrs children = record { name = n; attrs = attrs; children = children }

-- the end of the innermost element
closes : (f : Frame) (stack : List Nodes) → opened f (NoNode ∷ stack) ≡ add_nodes (node.Element (frame_tree f) ∷ []) stack
closes f [] = refl
closes f (y ∷ stack) = ap (λ x. ElementThen f.name (in_order f.attrs) x y ∷ stack) (nodes_alone f.children)

good_closed : (f : Frame) (stack : List Nodes) → IsTopGood (add_nodes (node.Element (frame_tree f) ∷ []) stack) → IsTrue (is_lawful (frame_tree f))
good_closed f [] h = absurd h
good_closed f (y ∷ stack) h = element_lawful f.name (in_order f.attrs) (nodes_of f.children) y h

pub close_lawful : (old fs : List Frame) (f : Frame) → old ≡ fs ++ f ∷ [] → MayTake old event.Close → IsTrue (is_lawful (frame_tree f))
close_lawful old fs f e may =
    let is : around old (NoNode ∷ may.stack) ≡ around fs (add_nodes (node.Element (frame_tree f) ∷ []) may.stack) =
    ap (λ os. around os (NoNode ∷ may.stack)) e ∙ (around_more fs f (NoNode ∷ may.stack) ∙ ap (around fs) (closes f may.stack)) in
    good_closed f may.stack (good_around fs (add_nodes (node.Element (frame_tree f) ∷ []) may.stack) (subst IsTopGood is (good_whole (around old (NoNode ∷ may.stack)) may.whole)))

whole_closed : (f : Frame) (stack : List Nodes) (t : Tree) → IsTree (add_nodes (node.Element (frame_tree f) ∷ []) stack) t → frame_tree f ≡ t
whole_closed f [] t h = absurd (nothing h.is)
  where
    nothing : ◌≡◌ {A = List Nodes} [] (ElementThen t.name t.attrs t.children NoNode ∷ []) → ⊥
    nothing e = cc
whole_closed f (y ∷ stack) t h = ap (λ s. first_tree (top s)) h.is

is_nothing : (n : ℕ) (fs : List Frame) → n ≡ length fs → (n == 0) ≡ true → fs ≡ []
is_nothing n [] e h = refl
is_nothing n (f ∷ fs) e h = let zero_is : n ≡ 0 = eqb-true n 0 h in absurd (omega (arith, e, zero_is))

pub closed_whole : (old fs after : List Frame) (f : Frame) (u : Tree) (n : ℕ) → old ≡ fs ++ f ∷ [] → n ≡ length fs → (n == 0) ≡ true → u ≡ frame_tree f → Takes old event.Close (Some u) after
closed_whole old fs after f u n old_is long few is = λ stack t h.
    let e : old ≡ f ∷ [] = old_is ∙ ap (λ os. os ++ f ∷ []) (is_nothing n fs long few) in
    let same : around old (NoNode ∷ stack) ≡ add_nodes (node.Element (frame_tree f) ∷ []) stack = ap (λ os. around os (NoNode ∷ stack)) e ∙ closes f stack in
    is ∙ whole_closed f stack t (record { is = sym same ∙ h.is })

pub closed_more : (old fs after : List Frame) (f : Frame) (u : Tree) → old ≡ fs ++ f ∷ [] → u ≡ frame_tree f → Adds fs (node.Element u) after → Takes old event.Close None after
closed_more old fs after f u e is adds = λ stack.
    adds stack
    ∙ (ap (λ t. around fs (add_nodes (node.Element t ∷ []) stack)) is
    ∙ sym (ap (λ os. around os (NoNode ∷ stack)) e ∙ (around_more fs f (NoNode ∷ stack) ∙ ap (around fs) (closes f stack))))

-- a node more
adds_one : (f : Frame) (n : Node) (stack : List Nodes) → opened (record { name = f.name; attrs = f.attrs; children = f.children ++ n ∷ [] }) stack ≡ opened f (add_nodes (n ∷ []) stack)
adds_one f n [] = refl
adds_one f n (x ∷ stack) = ap (λ y. add_element f.name (in_order f.attrs) (y ∷ stack)) (nodes_more f.children n x)

pub added : (old : List Frame) (f : Frame) (n : Node) (children : List Node) (long : ℕ) → 0 < length old → long ≡ length old → f ≡ slice_index_or old (long - 1) f → children ≡ f.children ++ n ∷ [] → Adds old n (slice_set old (long - 1) (record { name = f.name; attrs = f.attrs; children = children }))
unfolding frame_with
added old f n children long some is_long last e = λ stack.
    let i : ℕ = long - 1 in
    let more : Frame = frame_with f.name f.attrs children in
    let within : i < length old = omega (arith, some, is_long) in
    let past : drop (suc i) old ≡ [] = drop_all (suc i) old (omega (arith, some, is_long)) in
    let set : slice_set old i more ≡ take i old ++ more ∷ [] = set_split old i more within ∙ ap (λ xs. take i old ++ more ∷ xs) past in
    let whole : old ≡ take i old ++ f ∷ [] = sym (take_all (i + 1) old (omega (arith, some, is_long))) ∙ (take_more old i f within ∙ ap (λ g. take i old ++ g ∷ []) (sym last)) in
    ap (λ os. around os stack) set
    ∙ (around_more (take i old) more stack
    ∙ (ap (λ cs. around (take i old) (opened (frame_with f.name f.attrs cs) stack)) e
    ∙ (ap (around (take i old)) (adds_one f n stack)
    ∙ sym (ap (λ os. around os (add_nodes (n ∷ []) stack)) whole ∙ around_more (take i old) f (add_nodes (n ∷ []) stack)))))

text_added : (t : List ℕ) (stack : List Nodes) → add_nodes (node.Text t ∷ []) stack ≡ add_text t stack
text_added t [] = refl
text_added t (x ∷ stack) = refl

qualified_added : (n : Name) (stack : List Nodes) → add_nodes (node.Qualified n ∷ []) stack ≡ add_qualified n stack
qualified_added n [] = refl
qualified_added n (x ∷ stack) = refl

pub took_text : (old after : List Frame) (e : Event) (t : List ℕ) → e ≡ event.Text t → Adds old (node.Text t) after → Takes old e None after
took_text old after e t is h = λ stack. h stack ∙ (ap (around old) (text_added t stack) ∙ ap (λ z. around old (read_event z stack)) (sym is))

pub took_qualified : (old after : List Frame) (e : Event) (n : Name) → e ≡ event.Qualified n → Adds old (node.Qualified n) after → Takes old e None after
took_qualified old after e n is h = λ stack. h stack ∙ (ap (around old) (qualified_added n stack) ∙ ap (λ z. around old (read_event z stack)) (sym is))

nothing_added : (stack : List Nodes) → add_nodes [] stack ≡ stack
nothing_added [] = refl
nothing_added (x ∷ stack) = refl

pub took_open : (old after : List Frame) (e : Event) (n : Name) (attrs : List Attr) (children : List Node) → e ≡ event.Open n attrs → children ≡ [] → after ≡ old ++ record { name = n; attrs = attrs; children = children } ∷ [] → Takes old e None after
unfolding frame_with
took_open old after e n attrs children is nothing grown = λ stack.
    ap (λ os. around os stack) (grown ∙ ap (λ cs. old ++ frame_with n attrs cs ∷ []) nothing)
    ∙ (around_more old (frame_with n attrs []) stack
    ∙ (ap (λ s. around old (add_element n (in_order attrs) s)) (nothing_added stack)
    ∙ ap (λ z. around old (read_event z stack)) (sym is)))

-- all events
pub may_begin : (events items : List Event) (e : Event) (rest : List Event) (frames : List Frame) → MayBuild events → around frames (read_events items) ≡ read_events events → items ≡ e ∷ rest → MayTake frames e
unfolding read_events
may_begin events items e rest frames may is more =
    let same : read_events events ≡ around frames (read_event e (read_events rest)) = sym is ∙ ap (λ es. around frames (read_events es)) more in
    record { stack = read_events rest; whole = subst IsWhole same may.whole }

pub goes_on : (events items : List Event) (e : Event) (rest : List Event) (frames after : List Frame) → around frames (read_events items) ≡ read_events events → items ≡ e ∷ rest → Takes frames e None after → around after (read_events rest) ≡ read_events events
unfolding read_events
goes_on events items e rest frames after is more took = took (read_events rest) ∙ (ap (λ es. around frames (read_events es)) (sym more) ∙ is)

pub ends : (events items : List Event) (e : Event) (rest : List Event) (frames after : List Frame) (u : Tree) → MayBuild events → around frames (read_events items) ≡ read_events events → items ≡ e ∷ rest → Takes frames e (Some u) after → Builds events u
unfolding read_events
ends events items e rest frames after u may is more took =
    let same : around frames (read_event e (read_events rest)) ≡ read_events events = ap (λ es. around frames (read_events es)) (sym more) ∙ is in
    let built : u ≡ may.whole.tree = took (read_events rest) may.whole.tree (record { is = same ∙ may.whole.is.is }) in
    may.whole.is.is ∙ ap (λ t. ElementThen t.name t.attrs t.children NoNode ∷ []) (sym built)

shut : (f : Frame) (fs : List Frame) → around (f ∷ fs) (NoNode ∷ []) ≡ []
shut f [] = refl
shut f (g ∷ fs) = ap (opened f) (shut g fs)

no_events : (n : ℕ) (es : List Event) → n ≡ length es → n ≡ 0 → es ≡ []
no_events n [] e h = refl
no_events n (x ∷ es) e h = absurd (omega (arith, e, h))

pub not_over : (events items : List Event) (frames : List Frame) (n : ℕ) → MayBuild events → around frames (read_events items) ≡ read_events events → n ≡ length items → n ≡ 0 → ⊥
unfolding read_events
not_over events items frames n may is long few =
    let over : items ≡ [] = no_events n items long few in
    by frames (ap (λ es. around frames (read_events es)) (sym over) ∙ (is ∙ may.whole.is.is))
  where
    by : (fs : List Frame) → around fs (NoNode ∷ []) ≡ ElementThen may.whole.tree.name may.whole.tree.attrs may.whole.tree.children NoNode ∷ [] → ⊥
    by [] e = cc
    by (f ∷ fs) e = let g : ◌≡◌ {A = List Nodes} [] (ElementThen may.whole.tree.name may.whole.tree.attrs may.whole.tree.children NoNode ∷ []) = sym (shut f fs) ∙ e in cc

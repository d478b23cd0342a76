-- What the tests of actions tell.
use Rattle.std.proofs.Common.{◌≡◌, ℕ, ◌+◌, ◌*◌, ◌<◌, ◌≤◌, Bool, true, false, cond, List, [], ◌∷◌, length, Option, Some, None, Contains, refl, ◌∙◌, ap, subst, arith, ◌&&◌, not, nat_lt, nat_le, ◌==◌}
use Rattle.std.specs.List.{fold, find, list_any, filter_map, cons_option}
use Rattle.std.specs.Option.{option_map_or, option_and_then}
use Rattle.std.specs.FinMap.{get, len}
use Rattle.std.proofs.lemmas.Bool.{and_parts, eqb-true, eqb-false, not-true, ltb-true, leb-true}
use Rattle.pws_base.specs.Counts.{count_below}
use Rattle.pws_base.specs.Limits.{max_number}
use Rattle.pws_base.specs.Places.{is_in_window}
use Rattle.pws_base.specs.Shapes.{quorum_of, weak_of, size_of_group}
use Rattle.pws_base.proofs.Members.{nowhere}
use Rattle.pws_event.specs.declared.events.Event.{Event}
use Rattle.pws_event.specs.Events.{digest_of}
use Rattle.pws_event.specs.Counters.{Counters}
use Rattle.pws_msg.specs.declared.changes.NewView.{NewView}
use Rattle.pws_change.specs.declared.heard.Heard.{Heard}
use Rattle.pws_change.specs.Agreements.{agrees_by}
use Rattle.pws_change.specs.Sets.{is_full, row_at}
use Rattle.pws_votes.specs.declared.kinds.VoteKind.TheVariants as kind
use Rattle.pws_votes.specs.Votes.{matching_of}
use Rattle.pws_protocol.specs.Alike.{is_for_same, same_event}
use Rattle.pws_protocol.specs.Support.{supports}
use Rattle.pws_protocol.specs.Candidates.{candidates}
use Rattle.pws_protocol.specs.States.{State, Slot, HeldChange, primary, is_primary, members, text_of}
use Rattle.pws_protocol.specs.Gathered.{all_had}
use Rattle.pws_protocol.specs.Actions.{lesser_view, next_join, can_ack, next_ack, later_views, next_enter, next_place, open_events, next_propose, can_accept, next_accept, can_prepare, next_prepare, next_digest, next_execute, next_adopt, can_commit, next_commit, can_stable, next_stable}
use Rattle.pws_refine.proofs.Finding.{found, found_idle, find_has, passing, not_true, either}

-- views that are later than one
abbrev IsLater : ℕ → Option ℕ → Type 0
IsLater v None = Unit {0}
IsLater v (Some w) = v < w

abbrev later_of : State → ℕ → Option ℕ
later_of s j =
    cond (j == s.me.index) None
    (option_and_then (λ (x : HeldChange). cond (nat_lt s.view x.change.view) (Some x.change.view) None) (get s.heard j))

one_later : (s : State) (j : ℕ) → IsLater s.view (later_of s j)
one_later s j = own (j == s.me.index)
  where
    by_view : (v : ℕ) (b : Bool) → nat_lt s.view v ≡ b → IsLater s.view (cond b (Some v) None)
    by_view v true e = ltb-true s.view v e
    by_view v false e = tt

    held : (o : Option HeldChange) → IsLater s.view (option_and_then (λ (x : HeldChange). cond (nat_lt s.view x.change.view) (Some x.change.view) None) o)
    held None = tt
    held (Some x) = by_view x.change.view (nat_lt s.view x.change.view) refl

    own : (b : Bool) → IsLater s.view (cond b None (option_and_then (λ (x : HeldChange). cond (nat_lt s.view x.change.view) (Some x.change.view) None) (get s.heard j)))
    own true = tt
    own false = held (get s.heard j)

lesser_later : (v : ℕ) (o : Option ℕ) (w : ℕ) → IsLater v o → v < w → IsLater v (lesser_view o w)
lesser_later v None w h k = k
lesser_later v (Some u) w h k = omega (arith, h, k)

fold_by : (s : State) (js : List ℕ) (o x : Option ℕ) → ((p : Option ℕ) → IsLater s.view p → IsLater s.view (fold lesser_view p (filter_map (later_of s) js))) → IsLater s.view o → IsLater s.view x
    → IsLater s.view (fold lesser_view o (cons_option x (filter_map (later_of s) js)))
fold_by s js o None more h k = more o h
fold_by s js o (Some w) more h k = more (lesser_view o w) (lesser_later s.view o w h k)

fold_later : (s : State) (js : List ℕ) (o : Option ℕ) → IsLater s.view o → IsLater s.view (fold lesser_view o (filter_map (later_of s) js))
fold_later s [] o h = h
fold_later s (j ∷ js) o h = fold_by s js o (later_of s j) (λ p k. fold_later s js p k) h (one_later s j)

pub join_later : (s : State) (w : ℕ) → next_join s ≡ Some w → s.view < w
unfolding next_join later_views
join_later s w h = go (nat_le (weak_of s.me.f) (length (later_views s))) h
  where
    is : (o : Option ℕ) → IsLater s.view o → o ≡ Some w → s.view < w
    is None k e = absurd (let i : ◌≡◌ {A = Option ℕ} None (Some w) = e in cc)
    is (Some u) k e = let same : u ≡ w = let i : ◌≡◌ {A = Option ℕ} (Some u) (Some w) = e in cc in subst (λ x. s.view < x) same k

    go : (b : Bool) → cond b (fold lesser_view None (later_views s)) None ≡ Some w → s.view < w
    go true e = is (fold lesser_view None (later_views s)) (fold_later s (members s) None tt) e
    go false e = absurd (let i : ◌≡◌ {A = Option ℕ} None (Some w) = e in cc)

pub next_later : (v : ℕ) → v < v + 1
next_later v = omega arith

pub ack_tells : (s : State) (j : ℕ) → next_ack s ≡ Some j → (s.active ≡ false) × ((x : HeldChange) × (get s.heard j ≡ Some x) × (x.change.view ≡ s.view) × (j ≡ s.me.index → ⊥))
unfolding next_ack can_ack
ack_tells s j h =
    let f = found_idle s.active (can_ack s) 0 (size_of_group s.me.f) j h in
    let a = and_parts (not (j == s.me.index)) _ f.1 in
    let b = and_parts (option_map_or (λ (x : HeldChange). x.change.view == s.view) (get s.heard j) false) _ a.1 in
    let x = passing (λ (x : HeldChange). x.change.view == s.view) (get s.heard j) b.0 in
    (f.0, (x.0, x.1, eqb-true x.0.change.view s.view x.2, eqb-false j s.me.index (not-true (j == s.me.index) a.0)))

pub enter_tells : (s : State) (v : NewView) → next_enter s ≡ Some v → (s.active ≡ false) × (s.new_view ≡ Some v) × ((heard : List Heard) × (all_had s v.named ≡ Some heard) × (agrees_by s.me.f v heard ≡ true))
unfolding next_enter
enter_tells s v h = idle s.active refl h
  where
    agreed : (w : NewView) (b : Bool) → option_map_or (agrees_by s.me.f w) (all_had s w.named) false ≡ b → cond b (Some w) None ≡ Some v → (w ≡ v) × (option_map_or (agrees_by s.me.f w) (all_had s w.named) false ≡ true)
    agreed w true e k = (let i : ◌≡◌ {A = Option NewView} (Some w) (Some v) = k in cc, e)
    agreed w false e k = absurd (let i : ◌≡◌ {A = Option NewView} None (Some v) = k in cc)

    held : (o : Option NewView) → s.new_view ≡ o → option_and_then (λ (w : NewView). cond (option_map_or (agrees_by s.me.f w) (all_had s w.named) false) (Some w) None) o ≡ Some v
        → (s.new_view ≡ Some v) × ((heard : List Heard) × (all_had s v.named ≡ Some heard) × (agrees_by s.me.f v heard ≡ true))
    held None e k = absurd (let i : ◌≡◌ {A = Option NewView} None (Some v) = k in cc)
    held (Some w) e k =
        let a = agreed w (option_map_or (agrees_by s.me.f w) (all_had s w.named) false) refl k in
        (e ∙ ap Some a.0, passing (agrees_by s.me.f v) (all_had s v.named) (subst (λ (x : NewView). option_map_or (agrees_by s.me.f x) (all_had s x.named) false ≡ true) a.0 a.1))

    idle : (b : Bool) → s.active ≡ b → cond b None (option_and_then (λ (w : NewView). cond (option_map_or (agrees_by s.me.f w) (all_had s w.named) false) (Some w) None) s.new_view) ≡ Some v
        → (s.active ≡ false) × (s.new_view ≡ Some v) × ((heard : List Heard) × (all_had s v.named ≡ Some heard) × (agrees_by s.me.f v heard ≡ true))
    idle true e k = absurd (let i : ◌≡◌ {A = Option NewView} None (Some v) = k in cc)
    idle false e k = let x = held s.new_view refl k in (e, x.0, x.1)

abbrev may_propose : State → Bool
may_propose s = s.active && (is_primary s && (is_in_window s.low (next_place s) && (nat_le (next_place s) max_number && nat_lt (len (row_at s.pre_prepared (next_place s))) 16)))

pub propose_tells : (s : State) (asked : Counters) (e : Event) → next_propose s asked ≡ Some e → (s.active ≡ true) × (s.me.index ≡ primary s) × (s.low < next_place s) × (next_place s ≤ s.low + 32) × Contains (candidates s.evidence asked) e
unfolding next_propose
propose_tells s asked e h = go (may_propose s) refl h
  where
    go : (b : Bool) → may_propose s ≡ b → cond b (find (λ x. not (list_any (is_for_same x) (open_events s))) (candidates s.evidence asked)) None ≡ Some e → (s.active ≡ true) × (s.me.index ≡ primary s) × (s.low < next_place s) × (next_place s ≤ s.low + 32) × Contains (candidates s.evidence asked) e
    go true t k =
        let a = and_parts s.active _ t in
        let b = and_parts (s.me.index == primary s) _ a.1 in
        let d = and_parts (is_in_window s.low (next_place s)) _ b.1 in
        let w = and_parts (nat_lt s.low (next_place s)) (nat_le (next_place s) (s.low + 32)) d.0 in
        (a.0, eqb-true s.me.index (primary s) b.0, ltb-true s.low (next_place s) w.0, leb-true (next_place s) (s.low + 32) w.1, (find_has (λ x. not (list_any (is_for_same x) (open_events s))) (candidates s.evidence asked) e k).0)
    go false t k = absurd (let i : ◌≡◌ {A = Option Event} None (Some e) = k in cc)

pub accept_tells : (s : State) (p : ℕ) → next_accept s ≡ Some p → (s.active ≡ true) × ((e : Event) × (get s.pending p ≡ Some e) × (supports s.evidence e ≡ true))
unfolding next_accept can_accept
accept_tells s p h =
    let f = found s.active (can_accept s) s.low p h in
    let x = passing (λ e. supports s.evidence e && not (is_full s.pre_prepared p (digest_of e))) (get s.pending p) f.2 in
    (f.0, (x.0, x.1, (and_parts (supports s.evidence x.0) _ x.2).0))

pub prepare_tells : (s : State) (p : ℕ) → next_prepare s ≡ Some p → (s.active ≡ true) × ((t : Slot) × (get s.slots p ≡ Some t) × (t.is_prepared ≡ false) × (2 * s.me.f ≤ matching_of s.book kind.Prepare p t.digest))
unfolding next_prepare can_prepare
prepare_tells s p h =
    let f = found s.active (can_prepare s) s.low p h in
    let x = passing (λ (t : Slot). not t.is_prepared && nat_le (2 * s.me.f) (matching_of s.book kind.Prepare p t.digest)) (get s.slots p) f.2 in
    let n = not_true x.0.is_prepared _ x.2 in
    (f.0, (x.0, x.1, n.0, leb-true _ _ n.1))

pub commit_tells : (s : State) (p : ℕ) → next_commit s ≡ Some p → (s.active ≡ true) × ((t : Slot) × (get s.slots p ≡ Some t) × (t.is_prepared ≡ true) × (t.is_committed ≡ false) × (quorum_of s.me.f ≤ matching_of s.book kind.Commit p t.digest))
unfolding next_commit can_commit
commit_tells s p h =
    let f = found s.active (can_commit s) s.low p h in
    let x = passing (λ (t : Slot). t.is_prepared && (not t.is_committed && nat_le (quorum_of s.me.f) (matching_of s.book kind.Commit p t.digest))) (get s.slots p) f.2 in
    let a = and_parts x.0.is_prepared _ x.2 in
    let n = not_true x.0.is_committed _ a.1 in
    (f.0, (x.0, x.1, a.0, n.0, leb-true _ _ n.1))

-- what is executed is the event of the slot of the next place, which is committed
pub execute_tells : (s : State) (e : Event) → next_execute s ≡ Some e → (t : Slot) × (get s.slots (s.done + 1) ≡ Some t) × (t.is_committed ≡ true) × (text_of s t.digest ≡ Some e)
unfolding next_execute next_digest
execute_tells s e h = go (get s.slots (s.done + 1)) refl h
  where
    test : (t : Slot) (b : Bool) → t.is_committed ≡ b → option_and_then (text_of s) (cond b (Some t.digest) None) ≡ Some e → (t.is_committed ≡ true) × (text_of s t.digest ≡ Some e)
    test t true k x = (k, x)
    test t false k x = absurd (let i : ◌≡◌ {A = Option Event} None (Some e) = x in cc)

    go : (o : Option Slot) → get s.slots (s.done + 1) ≡ o → option_and_then (text_of s) (option_and_then (λ (t : Slot). cond t.is_committed (Some t.digest) None) o) ≡ Some e
        → (t : Slot) × (get s.slots (s.done + 1) ≡ Some t) × (t.is_committed ≡ true) × (text_of s t.digest ≡ Some e)
    go None k x = absurd (let i : ◌≡◌ {A = Option Event} None (Some e) = x in cc)
    go (Some t) k x = let y = test t t.is_committed refl x in (t, k, y.0, y.1)

abbrev pub is_adoptable : State → Event → Bool
is_adoptable s e = nat_le (weak_of s.me.f) (count_below (size_of_group s.me.f) (λ j. option_map_or (same_event e) (get s.dones j) false))

held_by : (s : State) (e : Event) (j : ℕ) (o : Option Event) (xs : List Event) → get s.dones j ≡ o → (Contains xs e → (k : ℕ) × (x : Event) × (get s.dones k ≡ Some x)) → Contains (cons_option o xs) e → (k : ℕ) × (x : Event) × (get s.dones k ≡ Some x)
held_by s e j None xs h more m = more m
held_by s e j (Some x) xs h more m = (j, x, h)

held_in : (s : State) (e : Event) (js : List ℕ) → Contains (filter_map (λ j. get s.dones j) js) e → (k : ℕ) × (x : Event) × (get s.dones k ≡ Some x)
held_in s e [] m = absurd (nowhere e m)
held_in s e (j ∷ js) m = held_by s e j (get s.dones j) (filter_map (λ j. get s.dones j) js) refl (held_in s e js) m

-- something is held where something is adopted
pub adopt_tells : (s : State) (e : Event) → next_adopt s ≡ Some e → (k : ℕ) × (x : Event) × (get s.dones k ≡ Some x)
unfolding next_adopt
adopt_tells s e h = go (s.me.f == 0) h
  where
    go : (b : Bool) → cond b None (find (is_adoptable s) (filter_map (λ j. get s.dones j) (members s))) ≡ Some e → (k : ℕ) × (x : Event) × (get s.dones k ≡ Some x)
    go true k = absurd (let i : ◌≡◌ {A = Option Event} None (Some e) = k in cc)
    go false k = held_in s e (members s) (find_has (is_adoptable s) (filter_map (λ j. get s.dones j) (members s)) e k).0

-- and enough replicas say that they executed it
pub adopt_enough : (s : State) (e : Event) → next_adopt s ≡ Some e → is_adoptable s e ≡ true
unfolding next_adopt
adopt_enough s e h = go (s.me.f == 0) h
  where
    go : (b : Bool) → cond b None (find (is_adoptable s) (filter_map (λ j. get s.dones j) (members s))) ≡ Some e → is_adoptable s e ≡ true
    go true k = absurd (let i : ◌≡◌ {A = Option Event} None (Some e) = k in cc)
    go false k = (find_has (is_adoptable s) (filter_map (λ j. get s.dones j) (members s)) e k).1

pub stable_tells : (s : State) (p : ℕ) → next_stable s ≡ Some p → (s.low < p) × (p ≤ s.done) × ((d : List ℕ) × (get s.chains p ≡ Some d))
unfolding next_stable can_stable
stable_tells s p h = by_test (either (can_stable s) (s.low + 32) p (s.low + 16) (can_stable s (s.low + 32)) (can_stable s (s.low + 16)) refl refl h)
  where
    by_test : can_stable s p ≡ true → (s.low < p) × (p ≤ s.done) × ((d : List ℕ) × (get s.chains p ≡ Some d))
    by_test k =
        let a = and_parts (nat_lt s.low p) _ k in
        let b = and_parts (nat_le p s.done) _ a.1 in
        let x = passing (λ d. nat_le (quorum_of s.me.f) (matching_of s.book kind.Checkpoint p d)) (get s.chains p) b.1 in
        (ltb-true s.low p a.0, leb-true p s.done b.0, (x.0, x.1))

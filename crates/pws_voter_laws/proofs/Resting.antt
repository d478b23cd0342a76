-- How much is left to do after each action but the last: less.
use Rattle.std.proofs.Common.{◌≡◌, ℕ, ◌+◌, ◌-◌, ◌*◌, ◌<◌, ◌≤◌, ◌||◌, max, is_some, nat_lt, nat_le, Bool, true, false, cond, List, length, Option, Some, None, refl, sym, ◌∙◌, ap, subst, arith}
use Rattle.std.specs.List.{Contains, range_with_len}
use Rattle.std.specs.Option.{option_map_or}
use Rattle.std.specs.Ordering.{nat_cmp, is_eq, eq_by_cmp}
use Rattle.std.specs.Cmp.{nat_cmp_total, tied_itself}
use Rattle.std.specs.Cmp.Lexicographic.{slice_cmp}
use Rattle.std.specs.FinMap.{FinMap, empty, get, insert, get-insert, get-remove, nat_cmp-IsAntisymmetric}
use Rattle.std.specs.FinSet as set
use Rattle.std.proofs.lemmas.Bool.{false≢true, and_from, lt-ltb, le-leb}
use Rattle.std.proofs.lemmas.Bool.Decides.{nat_tests}
use Rattle.std.proofs.lemmas.Cmp.{nat_list_cmp_total}
use Rattle.std.proofs.lemmas.List.FromFn.{length-range_with_len}
use Rattle.std.proofs.lemmas.Map.Views.{tells_apart}
use Rattle.pws_base.specs.Limits.{max_number}
use Rattle.pws_base.specs.Places.{is_in_window}
use Rattle.pws_base.specs.Shapes.{size_of_group}
use Rattle.pws_base.proofs.Maps.{put_here}
use Rattle.pws_event.specs.declared.events.Event.{Event}
use Rattle.pws_event.specs.Events.{digest_of}
use Rattle.pws_event.specs.Counters.{Counters}
use Rattle.pws_msg.specs.declared.changes.Choice.{Choice}
use Rattle.pws_msg.specs.declared.changes.NewView.{NewView}
use Rattle.pws_change.specs.declared.decisions.Decision.{Decision}
use Rattle.pws_change.specs.declared.decisions.Decision.TheVariants.{Chosen, Undecided}
use Rattle.pws_change.specs.Choices.{IsChoice, GivesChoice}
use Rattle.pws_change.specs.Decisions.{decision_of, choice_in}
use Rattle.pws_change.proofs.Deciding.{decision_is_choice}
use Rattle.pws_votes.specs.declared.kinds.VoteKind.TheVariants as kind
use Rattle.pws_votes.specs.Votes.{Book, key, has_vote, can_vote, after_vote}
use Rattle.pws_votes.proofs.VoteLemmas.{votes_after_a_vote}
use Rattle.pws_protocol.specs.States.{State, Slot, members, window, new_slot}
use Rattle.pws_protocol.specs.Gathered.{acks_of, ack_at, possible_choice, counted, acks_for}
use Rattle.pws_protocol.specs.Actions.{Action, next_place, next_join, can_refuse, can_impatience}
use Rattle.pws_protocol.specs.Actions as act
use Rattle.pws_protocol.specs.Doing.{did, did_move, did_need, did_offer, did_enter, did_checkpoint, did_stable, reported, with_change, left_view, noted, entered, taken, with_offer, voted}
use Rattle.pws_protocol.specs.Reactions.{is_last}
use Rattle.pws_voter_laws.specs.Enabled.{IsEnabled}
use Rattle.pws_voter_laws.specs.Rest.{total, missing, slot_left, place_left, places_left, acks_left, vote_left, unasked, texts_left, left_in_view, left, most_left}
use Rattle.pws_voter_laws.proofs.Found.{nothing, same, range_has}
use Rattle.pws_voter_laws.proofs.Parts.{Whole}
use Rattle.pws_voter_laws.proofs.Tests.{join_is, refuse_is, impatience_is, ack_is_open, choice_is, need_chosen_is, need_text_is, offer_is, enter_is, propose_is_open, accept_is_open, prepare_is_open, commit_is_open, checkpoint_is_open, stable_is_open}
use Rattle.pws_voter_laws.proofs.Totals.{total_le, total_less, total_most, missing_most, missing_less}
use Rattle.pws_voter_laws.proofs.Updates.{accepted_with, propose_is, accept_is, prepare_is, commit_is, ack_is, votes_are, book_with}

-- bounds of what is left
up_to : (b : Bool) (k : ℕ) → cond b k 0 ≤ k
up_to true k = omega arith
up_to false k = omega arith

slot_two : (o : Option Slot) → slot_left o ≤ 2
slot_two None = omega arith
slot_two (Some t) = omega (arith, missing_most t.is_prepared, missing_most t.is_committed)

place_nine : (s : State) (p : ℕ) → place_left s p ≤ 9
place_nine s p = omega (arith, up_to (nat_lt (max s.floor s.last) p) 3, up_to (is_some (get s.pending p)) 4, slot_two (get s.slots p))

places_few : (s : State) → places_left s ≤ 288
unfolding places_left window
places_few s =
    let t = total_most (place_left s) 9 (place_nine s) (range_with_len (s.low + 1) 32) in
    let u : total (place_left s) (range_with_len (s.low + 1) 32) ≤ 32 * 9 = subst (λ n. total (place_left s) (range_with_len (s.low + 1) 32) ≤ n * 9) (length-range_with_len (s.low + 1) 32) t in
    omega (arith, u)

acks_few : (s : State) → acks_left s ≤ size_of_group s.me.f
unfolding acks_left
acks_few s =
    let t = total_most (λ j. missing (is_some (ack_at s s.me.index j))) 1 (λ j. missing_most (is_some (ack_at s s.me.index j))) (members s) in
    let u : total (λ j. missing (is_some (ack_at s s.me.index j))) (members s) ≤ size_of_group s.me.f * 1 = subst (λ n. total (λ j. missing (is_some (ack_at s s.me.index j))) (members s) ≤ n * 1) (length-range_with_len 0 (size_of_group s.me.f)) t in
    omega (arith, u)

vote_few : (s : State) → vote_left s ≤ 1
unfolding vote_left
vote_few s = missing_most (has_vote s.book (key kind.Checkpoint s.done s.me.index))

pub chosen_by : (d : Decision) (c : Choice) → choice_in d ≡ Some c → d ≡ Chosen c
chosen_by (Chosen x) c h = ap Chosen (same x c h)
chosen_by (Undecided p) c h = absurd (nothing c h)

-- a choice names at most 32 digests
pub chosen_few : (s : State) (c : Choice) → possible_choice s ≡ Some c → length c.chosen ≤ 32
chosen_few s c h =
    let d : decision_of s.me.f (counted s) ≡ Chosen c = chosen_by (decision_of s.me.f (counted s)) c (choice_is s c h).3 in
    let g : GivesChoice s.me.f (counted s) c = subst (λ (x : Decision). IsChoice s.me.f (counted s) x) d (decision_is_choice s.me.f (counted s)) in
    let l = g.last in
    omega (arith, l)

choice_few : (s : State) (o : Option Choice) → ((c : Choice) → o ≡ Some c → length c.chosen ≤ 32) → option_map_or (λ (c : Choice). total (unasked s) c.chosen) o 0 ≤ 32
choice_few s None h = omega arith
choice_few s (Some c) h =
    let t = total_most (unasked s) 1 (λ d. missing_most (set.contains s.needed d)) c.chosen in
    let l = h c refl in
    omega (arith, t, l)

slot_few : (s : State) (o : Option Slot) → option_map_or (λ (t : Slot). unasked s t.digest) o 0 ≤ 1
slot_few s None = omega arith
slot_few s (Some t) = missing_most (set.contains s.needed t.digest)

texts_few : (s : State) → texts_left s ≤ 33
unfolding texts_left
texts_few s = omega (arith, choice_few s (possible_choice s) (chosen_few s), slot_few s (get s.slots (s.done + 1)))

-- what is left as a sum
abbrev sum_of : ℕ → ℕ → ℕ → ℕ → ℕ → ℕ → ℕ → ℕ
sum_of v d b k p w x = 1000000 * v + (20000 * d + 20000 * b + 20000 * k + 68 * p + 34 * w + x)

left_is : (s : State) → left s ≡ sum_of (max_number - s.view) (s.done - s.low) (missing s.active) (acks_left s) (places_left s) (vote_left s) (texts_left s)
unfolding left left_in_view
left_is s = refl

as_sums : (a b c d : ℕ) → a ≡ c → b ≡ d → c < d → a < b
as_sums a b c d e h l = omega arith

less_texts : (v d b k p w x y : ℕ) → x < y → sum_of v d b k p w x < sum_of v d b k p w y
less_texts v d b k p w x y h = omega arith

less_vote : (v d b k p w q x y : ℕ) → w < q → x ≤ 33 → sum_of v d b k p w x < sum_of v d b k p q y
less_vote v d b k p w q x y h i = omega arith

less_places : (v d b k p q w z x y : ℕ) → p < q → w ≤ 1 → x ≤ 33 → sum_of v d b k p w x < sum_of v d b k q z y
less_places v d b k p q w z x y h i j = omega arith

less_acks : (v d b k l p q w z x y : ℕ) → k < l → p ≤ 288 → w ≤ 1 → x ≤ 33 → sum_of v d b k p w x < sum_of v d b l q z y
less_acks v d b k l p q w z x y h i j m = omega arith

less_active : (v d b c k p q w z x y : ℕ) → b < c → p ≤ 288 → w ≤ 1 → x ≤ 33 → sum_of v d b k p w x < sum_of v d c k q z y
less_active v d b c k p q w z x y h i j m = omega arith

less_low : (v d e b k p q w z x y : ℕ) → d < e → p ≤ 288 → w ≤ 1 → x ≤ 33 → sum_of v d b k p w x < sum_of v e b k q z y
less_low v d e b k p q w z x y h i j m = omega arith

less_view : (u v d e b c k l p q w z x y : ℕ) → u < v → d ≤ 32 → b ≤ 1 → k ≤ 10 → p ≤ 288 → w ≤ 1 → x ≤ 33 → sum_of u d b k p w x < sum_of v e c l q z y
less_view u v d e b c k l p q w z x y h i j m n r t = omega arith

acks_ten : (s : State) → s.me.f ≤ 3 → acks_left s ≤ 10
acks_ten s h = omega (arith, acks_few s)

sum_most : (v d b k p w x : ℕ) → v ≤ 1000000 → d ≤ 32 → b ≤ 1 → k ≤ 10 → p ≤ 288 → w ≤ 1 → x ≤ 33 → sum_of v d b k p w x < 1000001000000
sum_most v d b k p w x a c e f g h i = omega arith

pub left_few : (s : State) → Whole s → left s < most_left
left_few s y =
    let l = y.low in
    let m = sum_most (max_number - s.view) (s.done - s.low) (missing s.active) (acks_left s) (places_left s) (vote_left s) (texts_left s) (omega arith) (omega (arith, l.1)) (missing_most s.active) (acks_ten s y.who.1) (places_few s) (vote_few s) (texts_few s) in
    subst (λ n. n < most_left) (sym (left_is s)) m

-- places: less at one of the window, and nowhere more
same_place : (q p : ℕ) → eq_by_cmp nat_cmp q p ≡ true → q ≡ p
same_place q p h = tells_apart nat_cmp-IsAntisymmetric q p h

at_itself : (p : ℕ) → eq_by_cmp nat_cmp p p ≡ true
at_itself p = grind (arith, nat_tests)

less_at : (f g : ℕ → ℕ) (p k : ℕ) (xs : List ℕ) → ((q : ℕ) → g q ≤ cond (eq_by_cmp nat_cmp q p) k (f q)) → k < f p → Contains xs p → total g xs < total f xs
less_at f g p k xs h l i = total_less f g (λ q. go q (eq_by_cmp nat_cmp q p) refl) xs p i (at_p (h p))
  where
    at_p : g p ≤ cond (eq_by_cmp nat_cmp p p) k (f p) → g p < f p
    at_p h = let e : g p ≤ k = subst (λ b. g p ≤ cond b k (f p)) (at_itself p) h in omega (arith, e, l)

    go_case : (q : ℕ) (b : Bool) → eq_by_cmp nat_cmp q p ≡ b → g q ≤ cond b k (f q) → g q ≤ f q
    go_case q true e h = let s : f q ≡ f p = ap f (same_place q p e) in omega (arith, s, l, h)
    go_case q false e h = h

    go : (q : ℕ) (b : Bool) → eq_by_cmp nat_cmp q p ≡ b → g q ≤ f q
    go q b e = go_case q b e (subst (λ b. g q ≤ cond b k (f q)) e (h q))

abbrev room : ℕ → ℕ → ℕ
room b q = cond (nat_lt b q) 3 0

room_cases : (b c q : ℕ) (x y : Bool) → nat_lt c q ≡ x → nat_lt b q ≡ y → b ≤ c → cond x 3 0 ≤ cond y 3 0
room_cases b c q true true h k l = omega arith
room_cases b c q true false h k l = absurd (grind (arith, nat_tests))
room_cases b c q false true h k l = omega arith
room_cases b c q false false h k l = omega arith

room_less : (floor last p q : ℕ) → room (max floor (max last p)) q ≤ room (max floor last) q
room_less floor last p q = room_cases (max floor last) (max floor (max last p)) q (nat_lt (max floor (max last p)) q) (nat_lt (max floor last) q) refl refl (omega arith)

room_zero : (c q : ℕ) (x : Bool) → nat_lt c q ≡ x → q ≤ c → cond x 3 0 ≤ 0
room_zero c q true h k = absurd (grind (arith, nat_tests))
room_zero c q false h k = omega arith

room_none : (floor last p q : ℕ) → q ≡ p → room (max floor (max last p)) q ≤ 0
room_none floor last p q e = room_zero (max floor (max last p)) q (nat_lt (max floor (max last p)) q) refl (omega arith)

three : (a b c d : ℕ) → a ≤ b → a + c + d ≤ b + c + d
three a b c d h = omega arith

accepted_go : (s : State) (p q : ℕ) (e : Event) (b : Bool) → eq_by_cmp nat_cmp q p ≡ b
    → room (max s.floor (max s.last p)) q + cond (is_some (cond b None (get s.pending q))) 4 0 + slot_left (cond b (Some (new_slot (digest_of e))) (get s.slots q)) ≤ cond b 2 (place_left s q)
accepted_go s p q e true h = let r = room_none s.floor s.last p q (same_place q p h) in omega (arith, r)
accepted_go s p q e false h = three (room (max s.floor (max s.last p)) q) (room (max s.floor s.last) q) (cond (is_some (get s.pending q)) 4 0) (slot_left (get s.slots q)) (room_less s.floor s.last p q)

accepted_place : (s : State) (p q : ℕ) (e : Event) → place_left (accepted_with s p e) q ≤ cond (eq_by_cmp nat_cmp q p) 2 (place_left s q)
accepted_place s p q e = rw (get-remove nat_cmp_total s.pending p q, get-insert nat_cmp_total s.slots p (new_slot (digest_of e)) q) (accepted_go s p q e (eq_by_cmp nat_cmp q p) refl)

-- accepted at a place, with whatever book
abbrev pub accepted_book : State → ℕ → Event → Book → State
accepted_book s p e b = record (accepted_with s p e) { book = b }

accepted_sum : (s : State) (p : ℕ) (e : Event) (b : Book)
    → left (accepted_book s p e b) ≡ sum_of (max_number - s.view) (s.done - s.low) (missing s.active) (acks_left s) (places_left (accepted_book s p e b)) (vote_left (accepted_book s p e b)) (texts_left (accepted_book s p e b))
unfolding left left_in_view acks_left ack_at
accepted_sum s p e b = refl

accepted_places : (s : State) (p : ℕ) (e : Event) (b : Book) → 2 < place_left s p → Contains (window s.low) p → places_left (accepted_book s p e b) < places_left s
unfolding places_left
accepted_places s p e b h c = less_at (place_left s) (place_left (accepted_with s p e)) p 2 (window s.low) (λ q. accepted_place s p q e) h c

accepted_less : (s : State) (p : ℕ) (e : Event) (b : Book) → 2 < place_left s p → Contains (window s.low) p → left (accepted_book s p e b) < left s
accepted_less s p e b h c =
    let t : State = accepted_book s p e b in
    as_sums (left t) (left s) _ _ (accepted_sum s p e b) (left_is s)
    (less_places (max_number - s.view) (s.done - s.low) (missing s.active) (acks_left s) (places_left t) (places_left s) (vote_left t) (vote_left s) (texts_left t) (texts_left s) (accepted_places s p e b h c) (vote_few t) (texts_few t))

-- 9
room_open : (b q : ℕ) → b < q → room b q ≡ 3
room_open b q h = grind (arith, nat_tests)

next_place_left : (s : State) → 2 < place_left s (next_place s)
next_place_left s = let r : room (max s.floor s.last) (next_place s) ≡ 3 = room_open (max s.floor s.last) (next_place s) (omega arith) in omega (arith, r)

window_has : (low p : ℕ) → low < p → p ≤ low + 32 → Contains (window low) p
unfolding window
window_has low p h k = range_has 32 (low + 1) p (omega arith) (omega arith)

propose_less : (s : State) (asked : Counters) (e : Event) → IsEnabled s asked (act.Propose e) → left (did s (act.Propose e)).state < left s
propose_less s asked e h =
    let o = propose_is_open s asked e h in
    subst (λ (t : State). left t < left s) (sym (propose_is s e)) (accepted_less s (next_place s) e s.book (next_place_left s) (window_has s.low (next_place s) o.2.0 o.2.1))

-- 10
pending_left : (s : State) (p : ℕ) (e : Event) → get s.pending p ≡ Some e → 2 < place_left s p
pending_left s p e h = let four : ℕ = 4 in let r : cond (is_some (get s.pending p)) 4 0 ≡ four = rw h refl in omega (arith, r)

accept_less : (s : State) (asked : Counters) (p : ℕ) → IsEnabled s asked (act.Accept p) → left (did s (act.Accept p)).state < left s
accept_less s asked p h =
    let o = accept_is_open s p h in
    let e = o.2.0 in
    subst (λ (t : State). left t < left s) (sym (accept_is s p e o.2.1)) (accepted_less s p e (after_vote s.book (key kind.Prepare p s.me.index) (digest_of e)) (pending_left s p e o.2.1) o.1)

-- 11, 14: another slot at a place, with whatever book
abbrev pub slot_book : State → ℕ → Slot → Book → State
slot_book s p t b = record s { slots = insert s.slots p t; book = b }

slot_sum : (s : State) (p : ℕ) (t : Slot) (b : Book)
    → left (slot_book s p t b) ≡ sum_of (max_number - s.view) (s.done - s.low) (missing s.active) (acks_left s) (places_left (slot_book s p t b)) (vote_left (slot_book s p t b)) (texts_left (slot_book s p t b))
unfolding left left_in_view acks_left ack_at
slot_sum s p t b = refl

slot_go : (s : State) (p q : ℕ) (t : Slot) (b : Bool) → eq_by_cmp nat_cmp q p ≡ b
    → room (max s.floor s.last) q + cond (is_some (get s.pending q)) 4 0 + slot_left (cond b (Some t) (get s.slots q)) ≤ cond b (room (max s.floor s.last) p + cond (is_some (get s.pending p)) 4 0 + slot_left (Some t)) (place_left s q)
slot_go s p q t true h = let e = same_place q p h in subst (λ n. room (max s.floor s.last) n + cond (is_some (get s.pending n)) 4 0 + slot_left (Some t) ≤ room (max s.floor s.last) p + cond (is_some (get s.pending p)) 4 0 + slot_left (Some t)) (sym e) (omega arith)
slot_go s p q t false h = omega arith

slot_place : (s : State) (p q : ℕ) (t : Slot) (b : Book)
    → place_left (slot_book s p t b) q ≤ cond (eq_by_cmp nat_cmp q p) (room (max s.floor s.last) p + cond (is_some (get s.pending p)) 4 0 + slot_left (Some t)) (place_left s q)
slot_place s p q t b = rw (get-insert nat_cmp_total s.slots p t q) (slot_go s p q t (eq_by_cmp nat_cmp q p) refl)

slot_places : (s : State) (p : ℕ) (old new : Slot) (b : Book) → get s.slots p ≡ Some old → slot_left (Some new) < slot_left (Some old) → Contains (window s.low) p → places_left (slot_book s p new b) < places_left s
unfolding places_left
slot_places s p old new b h l c =
    let k : slot_left (get s.slots p) ≡ slot_left (Some old) = ap slot_left h in
    less_at (place_left s) (place_left (slot_book s p new b)) p (room (max s.floor s.last) p + cond (is_some (get s.pending p)) 4 0 + slot_left (Some new)) (window s.low) (λ q. slot_place s p q new b) (omega (arith, k, l)) c

slot_less : (s : State) (p : ℕ) (old new : Slot) (b : Book) → get s.slots p ≡ Some old → slot_left (Some new) < slot_left (Some old) → Contains (window s.low) p → left (slot_book s p new b) < left s
slot_less s p old new b h l c =
    let t : State = slot_book s p new b in
    as_sums (left t) (left s) _ _ (slot_sum s p new b) (left_is s)
    (less_places (max_number - s.view) (s.done - s.low) (missing s.active) (acks_left s) (places_left t) (places_left s) (vote_left t) (vote_left s) (texts_left t) (texts_left s) (slot_places s p old new b h l c) (vote_few t) (texts_few t))

missing_false : (b : Bool) → b ≡ false → missing b ≡ 1
missing_false true h = absurd cc
missing_false false h = refl

prepare_less : (s : State) (asked : Counters) (p : ℕ) → IsEnabled s asked (act.Prepare p) → left (did s (act.Prepare p)).state < left s
prepare_less s asked p h =
    let o = prepare_is_open s p h in
    let t = o.2.0 in
    let m = missing_false t.is_prepared o.2.2 in
    let new : Slot = record t { is_prepared = true } in
    subst (λ (u : State). left u < left s) (sym (prepare_is s p t o.2.1)) (slot_less s p t new (after_vote s.book (key kind.Commit p s.me.index) t.digest) o.2.1 (omega (arith, m)) o.1)

commit_less : (s : State) (asked : Counters) (p : ℕ) → IsEnabled s asked (act.Commit p) → left (did s (act.Commit p)).state < left s
commit_less s asked p h =
    let o = commit_is_open s p h in
    let t = o.2.0 in
    let m = missing_false t.is_committed o.2.3 in
    let new : Slot = record t { is_committed = true } in
    subst (λ (u : State). left u < left s) (sym (commit_is s p t o.2.1)) (slot_less s p t new s.book o.2.1 (omega (arith, m)) o.1)

-- 15
abbrev pub with_book : State → Book → State
with_book s b = record s { book = b }

vote_sum : (s : State) (b : Book)
    → left (with_book s b) ≡ sum_of (max_number - s.view) (s.done - s.low) (missing s.active) (acks_left s) (places_left s) (vote_left (with_book s b)) (texts_left (with_book s b))
unfolding left left_in_view acks_left ack_at places_left
vote_sum s b = refl

vote_less : (s : State) → Whole s → can_vote s.book (key kind.Checkpoint s.done s.me.index) ≡ true → has_vote s.book (key kind.Checkpoint s.done s.me.index) ≡ false
    → vote_left (with_book s (after_vote s.book (key kind.Checkpoint s.done s.me.index) s.chain)) < vote_left s
unfolding vote_left
vote_less s y c h =
    let k = key kind.Checkpoint s.done s.me.index in
    let n : has_vote (after_vote s.book k s.chain) k ≡ true = votes_after_a_vote.has s.book k s.chain c in
    rw (n, h) (omega arith)

can_check : (s : State) → Whole s → s.low < s.done → can_vote s.book (key kind.Checkpoint s.done s.me.index) ≡ true
can_check s y l =
    let u = y.low.1 in
    and_from (nat_lt s.me.index (size_of_group s.book.f)) (is_in_window s.book.low s.done)
    (subst (λ n. nat_lt s.me.index (size_of_group n) ≡ true) (sym y.book.0) (lt-ltb s.me.index (size_of_group s.me.f) y.who.0))
    (subst (λ n. is_in_window n s.done ≡ true) (sym y.book.1) (and_from (nat_lt s.low s.done) (nat_le s.done (s.low + 32)) (lt-ltb s.low s.done l) (le-leb s.done (s.low + 32) u)))

pub checkpoint_is : (s : State) → (did s act.Checkpoint).state ≡ with_book s (after_vote s.book (key kind.Checkpoint s.done s.me.index) s.chain)
unfolding did did_checkpoint voted
checkpoint_is s = refl

checkpoint_less : (s : State) (asked : Counters) → Whole s → IsEnabled s asked act.Checkpoint → left (did s act.Checkpoint).state < left s
checkpoint_less s asked y h =
    let o = checkpoint_is_open s h in
    let b = after_vote s.book (key kind.Checkpoint s.done s.me.index) s.chain in
    let t : State = with_book s b in
    subst (λ (u : State). left u < left s) (sym (checkpoint_is s))
    (as_sums (left t) (left s) _ _ (vote_sum s b) (left_is s)
    (less_vote (max_number - s.view) (s.done - s.low) (missing s.active) (acks_left s) (places_left s) (vote_left t) (vote_left s) (texts_left t) (texts_left s) (vote_less s y (can_check s y o.0) o.2) (texts_few t)))

-- 5, 6: a text is asked for
abbrev pub with_need : State → List ℕ → State
with_need s d = record s { needed = set.insert s.needed d }

need_sum : (s : State) (d : List ℕ)
    → left (with_need s d) ≡ sum_of (max_number - s.view) (s.done - s.low) (missing s.active) (acks_left s) (places_left s) (vote_left s) (texts_left (with_need s d))
unfolding left left_in_view acks_left ack_at places_left vote_left
need_sum s d = refl

asked_by : (b c : Bool) → (b ≡ true → c ≡ true) → missing c ≤ missing b
asked_by b c h = missing_less b c h

or_true : (a b : Bool) → b ≡ true → (a || b) ≡ true
or_true true b h = refl
or_true false b h = h

unasked_less : (s : State) (d x : List ℕ) → unasked (with_need s d) x ≤ unasked s x
unasked_less s d x = asked_by (set.contains s.needed x) (set.contains (set.insert s.needed d) x) (λ h. set.contains-insert nat_list_cmp_total s.needed d x ∙ or_true (eq_by_cmp (slice_cmp nat_cmp) x d) (set.contains s.needed x) h)

unasked_none : (s : State) (d : List ℕ) → unasked (with_need s d) d ≡ 0
unasked_none s d = ap missing (set.contains-insert nat_list_cmp_total s.needed d d ∙ ap (λ r. is_eq r || set.contains s.needed d) (tied_itself nat_list_cmp_total d))

-- those of a choice, and that of a slot
abbrev of_choice : State → Option Choice → ℕ
of_choice s o = option_map_or (λ (c : Choice). total (unasked s) c.chosen) o 0

abbrev of_slot : State → Option Slot → ℕ
of_slot s o = option_map_or (λ (t : Slot). unasked s t.digest) o 0

choice_le : (s : State) (d : List ℕ) (o : Option Choice) → of_choice (with_need s d) o ≤ of_choice s o
choice_le s d None = omega arith
choice_le s d (Some c) = total_le (unasked s) (unasked (with_need s d)) (unasked_less s d) c.chosen

slot_le : (s : State) (d : List ℕ) (o : Option Slot) → of_slot (with_need s d) o ≤ of_slot s o
slot_le s d None = omega arith
slot_le s d (Some t) = unasked_less s d t.digest

texts_are : (s : State) (d : List ℕ) → texts_left (with_need s d) ≡ of_choice (with_need s d) (possible_choice s) + of_slot (with_need s d) (get s.slots (s.done + 1))
unfolding texts_left possible_choice counted acks_for ack_at
texts_are s d = refl

texts_were : (s : State) → texts_left s ≡ of_choice s (possible_choice s) + of_slot s (get s.slots (s.done + 1))
unfolding texts_left
texts_were s = refl

unasked_one : (s : State) (d : List ℕ) → set.contains s.needed d ≡ false → unasked (with_need s d) d < unasked s d
unasked_one s d h = let z = unasked_none s d in let o = missing_false (set.contains s.needed d) h in omega (arith, z, o)

chosen_less : (s : State) (d : List ℕ) (c : Choice) → possible_choice s ≡ Some c → Contains c.chosen d → set.contains s.needed d ≡ false → texts_left (with_need s d) < texts_left s
chosen_less s d c e i n =
    let l : of_choice (with_need s d) (possible_choice s) < of_choice s (possible_choice s) =
    subst (λ o. of_choice (with_need s d) o < of_choice s o) (sym e) (total_less (unasked s) (unasked (with_need s d)) (unasked_less s d) c.chosen d i (unasked_one s d n)) in
    let m = slot_le s d (get s.slots (s.done + 1)) in
    as_sums _ _ _ _ (texts_are s d) (texts_were s) (omega (arith, l, m))

text_less : (s : State) (d : List ℕ) (t : Slot) → get s.slots (s.done + 1) ≡ Some t → t.digest ≡ d → set.contains s.needed d ≡ false → texts_left (with_need s d) < texts_left s
text_less s d t e i n =
    let l : of_slot (with_need s d) (get s.slots (s.done + 1)) < of_slot s (get s.slots (s.done + 1)) =
    subst (λ o. of_slot (with_need s d) o < of_slot s o) (sym e) (subst (λ x. unasked (with_need s d) x < unasked s x) (sym i) (unasked_one s d n)) in
    let m = choice_le s d (possible_choice s) in
    as_sums _ _ _ _ (texts_are s d) (texts_were s) (omega (arith, l, m))

need_less : (s : State) (d : List ℕ) → texts_left (with_need s d) < texts_left s → left (did_need s d).state < left s
unfolding did_need
need_less s d h =
    let t : State = with_need s d in
    as_sums (left t) (left s) _ _ (need_sum s d) (left_is s)
    (less_texts (max_number - s.view) (s.done - s.low) (missing s.active) (acks_left s) (places_left s) (vote_left s) (texts_left t) (texts_left s) h)

need_chosen_less : (s : State) (asked : Counters) (d : List ℕ) → IsEnabled s asked (act.NeedChosen d) → left (did s (act.NeedChosen d)).state < left s
unfolding did
need_chosen_less s asked d h = let n = need_chosen_is s d h.1 in need_less s d (chosen_less s d n.0 n.1 n.2 n.3)

need_text_less : (s : State) (asked : Counters) (d : List ℕ) → IsEnabled s asked (act.NeedText d) → left (did s (act.NeedText d)).state < left s
unfolding did
need_text_less s asked d h = let n = need_text_is s d h.1 in need_less s d (text_less s d n.0 n.1 n.2 n.3)

-- 4
abbrev ack_row : State → ℕ → List ℕ → FinMap nat_cmp (List ℕ)
ack_row s j d = insert (acks_of s s.me.index) j d

abbrev pub with_row : State → ℕ → List ℕ → State
with_row s j d = record s { acks = insert s.acks s.me.index (ack_row s j d) }

row_at_me : (s : State) (j q : ℕ) (d : List ℕ) → ack_at (with_row s j d) s.me.index q ≡ get (ack_row s j d) q
unfolding ack_at
row_at_me s j q d = ap (λ (o : Option (FinMap nat_cmp (List ℕ))). get (option_map_or (λ row. row) o empty) q) (put_here nat_cmp_total s.acks s.me.index (ack_row s j d))

row_before : (s : State) (q : ℕ) → ack_at s s.me.index q ≡ get (acks_of s s.me.index) q
unfolding ack_at
row_before s q = refl

some_by : (b : Bool) (d : List ℕ) (o : Option (List ℕ)) → is_some o ≡ true → is_some (cond b (Some d) o) ≡ true
some_by true d o h = refl
some_by false d o h = h

ack_stays : (s : State) (j q : ℕ) (d : List ℕ) → is_some (ack_at s s.me.index q) ≡ true → is_some (ack_at (with_row s j d) s.me.index q) ≡ true
ack_stays s j q d h =
    let g : is_some (get (acks_of s s.me.index) q) ≡ true = ap is_some (sym (row_before s q)) ∙ h in
    ap is_some (row_at_me s j q d) ∙ (ap is_some (get-insert nat_cmp_total (acks_of s s.me.index) j d q) ∙ some_by (eq_by_cmp nat_cmp q j) d (get (acks_of s s.me.index) q) g)

acks_less : (s : State) (j : ℕ) (d : List ℕ) → Contains (members s) j → is_some (ack_at s s.me.index j) ≡ false → acks_left (with_row s j d) < acks_left s
unfolding acks_left
acks_less s j d c h =
    let now : is_some (ack_at (with_row s j d) s.me.index j) ≡ true = ap is_some (row_at_me s j j d) ∙ ap is_some (put_here nat_cmp_total (acks_of s s.me.index) j d) in
    let one = missing_false (is_some (ack_at s s.me.index j)) h in
    let zero : missing (is_some (ack_at (with_row s j d) s.me.index j)) ≡ 0 = ap missing now in
    total_less (λ q. missing (is_some (ack_at s s.me.index q))) (λ q. missing (is_some (ack_at (with_row s j d) s.me.index q)))
    (λ q. missing_less (is_some (ack_at s s.me.index q)) (is_some (ack_at (with_row s j d) s.me.index q)) (ack_stays s j q d)) (members s) j c (omega (arith, one, zero))

ack_sum : (s : State) (j : ℕ) (d : List ℕ)
    → left (with_row s j d) ≡ sum_of (max_number - s.view) (s.done - s.low) (missing s.active) (acks_left (with_row s j d)) (places_left (with_row s j d)) (vote_left (with_row s j d)) (texts_left (with_row s j d))
unfolding left left_in_view
ack_sum s j d = refl

ack_less : (s : State) (asked : Counters) (j : ℕ) → IsEnabled s asked (act.Ack j) → left (did s (act.Ack j)).state < left s
ack_less s asked j h =
    let o = ack_is_open s j h.1 in
    let c = o.2.0 in
    let t : State = with_row s j c.digest in
    subst (λ (u : State). left u < left s) (sym (ack_is s j c o.2.1))
    (as_sums (left t) (left s) _ _ (ack_sum s j c.digest) (left_is s)
    (less_acks (max_number - s.view) (s.done - s.low) (missing s.active) (acks_left t) (acks_left s) (places_left t) (places_left s) (vote_left t) (vote_left s) (texts_left t) (texts_left s)
    (acks_less s j c.digest (range_has (size_of_group s.me.f) 0 j (omega arith) (let l = o.1 in omega (arith, l))) o.3) (places_few t) (vote_few t) (texts_few t)))

-- 7, 8: the view is entered
entered_sum : (s t : State) → t.view ≡ s.view → t.done ≡ s.done → t.low ≡ s.low → t.active ≡ true → acks_left t ≡ acks_left s
    → left t ≡ sum_of (max_number - s.view) (s.done - s.low) 0 (acks_left s) (places_left t) (vote_left t) (texts_left t)
entered_sum s t v d l a k = left_is t ∙ (λ i. sum_of (max_number - v i) (d i - l i) (missing (a i)) (k i) (places_left t) (vote_left t) (texts_left t))

entered_less : (s t : State) → s.active ≡ false → t.view ≡ s.view → t.done ≡ s.done → t.low ≡ s.low → t.active ≡ true → acks_left t ≡ acks_left s → left t < left s
entered_less s t n v d l a k =
    let one = missing_false s.active n in
    as_sums (left t) (left s) _ _ (entered_sum s t v d l a k) (left_is s)
    (less_active (max_number - s.view) (s.done - s.low) 0 (missing s.active) (acks_left s) (places_left t) (places_left s) (vote_left t) (vote_left s) (texts_left t) (texts_left s) (omega (arith, one)) (places_few t) (vote_few t) (texts_few t))

offer_less : (s : State) (asked : Counters) (c : Choice) → IsEnabled s asked (act.Offer c) → left (did s (act.Offer c)).state < left s
unfolding did did_offer entered with_offer acks_left ack_at
offer_less s asked c h = entered_less s _ (choice_is s c (offer_is s c h.1)).0 refl refl refl refl refl

pub enter_state : (s : State) (v : NewView) → (did s (act.Enter v)).state ≡ with_book (entered s v.choice) (book_with s.me.index s.book (taken s v.choice))
unfolding did did_enter entered
enter_state s v = votes_are (entered s v.choice) (taken s v.choice)

enter_less : (s : State) (asked : Counters) (v : NewView) → IsEnabled s asked (act.Enter v) → left (did s (act.Enter v)).state < left s
unfolding entered acks_left ack_at
enter_less s asked v h = subst (λ (u : State). left u < left s) (sym (enter_state s v)) (entered_less s _ (enter_is s v h).0 refl refl refl refl refl)

-- 16
lowered : (s : State) (p : ℕ) → left (did s (act.Stable p)).state ≡ sum_of (max_number - s.view) (s.done - p) (missing s.active) (acks_left s) (places_left (did s (act.Stable p)).state) (vote_left (did s (act.Stable p)).state) (texts_left (did s (act.Stable p)).state)
unfolding left left_in_view did did_stable acks_left ack_at
lowered s p = refl

stable_less : (s : State) (asked : Counters) (p : ℕ) → IsEnabled s asked (act.Stable p) → left (did s (act.Stable p)).state < left s
stable_less s asked p h =
    let o = stable_is_open s p h in
    let t : State = (did s (act.Stable p)).state in
    let a = o.0 in
    let b = o.1 in
    as_sums (left t) (left s) _ _ (lowered s p) (left_is s)
    (less_low (max_number - s.view) (s.done - p) (s.done - s.low) (missing s.active) (acks_left s) (places_left t) (places_left s) (vote_left t) (vote_left s) (texts_left t) (texts_left s) (omega (arith, a, b)) (places_few t) (vote_few t) (texts_few t))

-- 1 to 3
moved : (s : State) (w : ℕ) → left (did_move s w).state ≡ sum_of (max_number - w) (s.done - s.low) (missing false) (acks_left (did_move s w).state) (places_left (did_move s w).state) (vote_left (did_move s w).state) (texts_left (did_move s w).state)
unfolding left left_in_view did_move reported with_change left_view noted
moved s w = refl

me_is : (s : State) (w : ℕ) → s.me.f ≤ 3 → (did_move s w).state.me.f ≤ 3
unfolding did_move reported with_change left_view noted
me_is s w h = h

move_less : (s : State) (w : ℕ) → Whole s → s.view < w → w ≤ 1000000 → left (did_move s w).state < left s
move_less s w y l m =
    let t : State = (did_move s w).state in
    let u = y.low in
    let k : acks_left t ≤ 10 = acks_ten t (me_is s w y.who.1) in
    as_sums (left t) (left s) _ _ (moved s w) (left_is s)
    (less_view (max_number - w) (max_number - s.view) (s.done - s.low) (s.done - s.low) (missing false) (missing s.active) (acks_left t) (acks_left s) (places_left t) (places_left s) (vote_left t) (vote_left s) (texts_left t) (texts_left s)
    (omega (arith, l, m)) (omega (arith, u.1)) (omega arith) k (places_few t) (vote_few t) (texts_few t))

refuse_less : (s : State) → Whole s → can_refuse s ≡ true → left (did s act.Refuse).state < left s
unfolding did
refuse_less s y h = let v = (refuse_is s h).1 in move_less s (s.view + 1) y (omega arith) (omega (arith, v))

impatience_less : (s : State) → Whole s → can_impatience s ≡ true → left (did s act.Impatience).state < left s
unfolding did
impatience_less s y h = let v = impatience_is s h in move_less s (s.view + 1) y (omega arith) (omega (arith, v))

join_less : (s : State) (w : ℕ) → Whole s → next_join s ≡ Some w → left (did s (act.Join w)).state < left s
unfolding did
join_less s w y h = let x = join_is s w h in let m = (y.heard x.0 x.1 x.2).2.view in move_less s w y x.4 (subst (λ n. n ≤ 1000000) x.3 m)

-- each action but the last leaves less
pub falls : (s : State) (asked : Counters) (a : Action) → Whole s → is_last a ≡ false → IsEnabled s asked a → left (did s a).state < left s
falls s asked (act.Join w) y l h = join_less s w y h.1
falls s asked act.Refuse y l h = refuse_less s y h.1
falls s asked act.Impatience y l h = impatience_less s y h.1
falls s asked (act.Ack j) y l h = ack_less s asked j h
falls s asked (act.NeedChosen d) y l h = need_chosen_less s asked d h
falls s asked (act.NeedText d) y l h = need_text_less s asked d h
falls s asked (act.Offer c) y l h = offer_less s asked c h
falls s asked (act.Enter v) y l h = enter_less s asked v h
falls s asked (act.Propose e) y l h = propose_less s asked e h
falls s asked (act.Accept p) y l h = accept_less s asked p h
falls s asked (act.Prepare p) y l h = prepare_less s asked p h
falls s asked (act.Execute e) y l h = absurd (false≢true (sym l))
falls s asked (act.Adopt e) y l h = absurd (false≢true (sym l))
falls s asked (act.Commit p) y l h = commit_less s asked p h
falls s asked act.Checkpoint y l h = checkpoint_less s asked y h
falls s asked (act.Stable p) y l h = stable_less s asked p h

-- What the test of each action says.
use Rattle.std.proofs.Common.{◌≡◌, ◌⊎◌, inl, inr, ℕ, ◌+◌, ◌*◌, ◌%◌, ◌<◌, ◌≤◌, ◌==◌, ◌&&◌, not, min, is_some, nat_lt, nat_le, Bool, true, false, if◌then◌else◌, List, [], ◌∷◌, length, Option, Some, None, refl, sym, ◌∙◌, subst, arith}
use Rattle.std.specs.List.{Contains, find, fold, filter_map, list_any, list_all}
use Rattle.std.specs.Option.{option_map_or, option_or, option_and_then}
use Rattle.std.specs.FinMap.{get, len}
use Rattle.std.specs.FinSet as set
use Rattle.std.proofs.lemmas.Bool.{and_parts, ltb-true, leb-true, eqb-true}
use Rattle.pws_base.specs.Limits.{max_number, place_window, checkpoint_distance}
use Rattle.pws_base.specs.Places.{is_in_window}
use Rattle.pws_base.specs.Shapes.{size_of_group, quorum_of}
use Rattle.pws_base.proofs.Members.{here, there}
use Rattle.pws_event.specs.declared.events.Event.{Event}
use Rattle.pws_event.specs.Events.{digest_of}
use Rattle.pws_event.specs.Counters.{Counters}
use Rattle.pws_msg.specs.declared.changes.Choice.{Choice}
use Rattle.pws_msg.specs.declared.changes.NewView.{NewView}
use Rattle.pws_change.specs.declared.heard.Heard.{Heard}
use Rattle.pws_change.specs.Agreements.{agrees_by}
use Rattle.pws_change.specs.Decisions.{decision_of, choice_in}
use Rattle.pws_change.specs.Sets.{is_full, row_at}
use Rattle.pws_votes.specs.declared.kinds.VoteKind.TheVariants as kind
use Rattle.pws_votes.specs.Votes.{key, has_vote, matching_of}
use Rattle.pws_protocol.specs.Alike.{is_for_same}
use Rattle.pws_protocol.specs.Support.{supports}
use Rattle.pws_protocol.specs.Candidates.{candidates}
use Rattle.pws_protocol.specs.States.{State, Slot, HeldChange, members, window, is_primary, is_alone, text_of, is_held, is_wanted}
use Rattle.pws_protocol.specs.Gathered.{ack_at, possible_choice, counted, all_had}
use Rattle.pws_protocol.specs.Actions.{lesser_view, later_views, next_join, can_refuse, can_impatience, can_ack, next_ack, next_need_chosen, next_digest, next_need_text, next_offer, next_enter, next_place, open_events, next_propose, can_accept, next_accept, can_prepare, next_prepare, next_execute, next_adopt, can_commit, next_commit, can_checkpoint, can_stable, if_stable, next_stable}
use Rattle.pws_voter_laws.proofs.Found.{nothing, same, guarded, unguarded, passing, then_is, found, mapped, in_range}
use Rattle.pws_voter_laws.proofs.Parts.{in_window}

pub not_true : (b : Bool) → not b ≡ true → b ≡ false
not_true true h = absurd cc
not_true false h = refl

pub eq_is : (a b : ℕ) → (a == b) ≡ true → a ≡ b
eq_is a b h = eqb-true a b h

pub ne_is : (a b : ℕ) → (a == b) ≡ false → a ≡ b → ⊥
ne_is a b h e = grind (arith, h, e)

pub member_in : (s : State) (j : ℕ) → Contains (members s) j → j < size_of_group s.me.f
member_in s j c = let r = in_range (size_of_group s.me.f) 0 j c in omega (arith, r.1)

-- 1: the view is that of a change that was heard, and later
module _ (s : State) where
  -- the view of another's change, later than the voter's
  IsLater : ℕ → Type 0
  IsLater w = (j : ℕ) × (c : HeldChange) × (get s.heard j ≡ Some c) × (c.change.view ≡ w) × (s.view < w)

  of_heard : (j w : ℕ) (o : Option HeldChange) → get s.heard j ≡ o → option_and_then (λ (c : HeldChange). if nat_lt s.view c.change.view then Some c.change.view else None) o ≡ Some w → IsLater w
  unfolding IsLater
  of_heard j w None e h = absurd (nothing w h)
  of_heard j w (Some c) e h =
      let g = guarded (nat_lt s.view c.change.view) (Some c.change.view) w h in
      let v = same c.change.view w g.1 in
      (j, c, e, v, subst (λ n. s.view < n) v (ltb-true s.view c.change.view g.0))

  later : (w : ℕ) → Contains (later_views s) w → IsLater w
  unfolding later_views
  later w c =
      let m = mapped _ (members s) w c in
      let u = unguarded (m.0 == s.me.index) (option_and_then (λ (c : HeldChange). if nat_lt s.view c.change.view then Some c.change.view else None) (get s.heard m.0)) w m.2 in
      of_heard m.0 w (get s.heard m.0) refl u.1

  -- the least of several is one of them
  least : (P : ℕ → Type 0) (xs : List ℕ) (o : Option ℕ) (w : ℕ) → ((x : ℕ) → o ≡ Some x → P x) → ((x : ℕ) → Contains xs x → P x) → fold lesser_view o xs ≡ Some w → P w
  least P [] o w h k e = h w e
  least P (x ∷ xs) o w h k e = least P xs (lesser_view o x) w (by o h) (λ y c. k y (there x y xs c)) e
    where
      either_min : (v y : ℕ) → (min v x ≡ v) ⊎ (min v x ≡ x)
      either_min v y = by_le (nat_le v x) refl
        where
          by_le : (b : Bool) → nat_le v x ≡ b → (min v x ≡ v) ⊎ (min v x ≡ x)
          by_le true e = let l = leb-true v x e in inl (omega (arith, l))
          by_le false e = inr (grind (arith, e))

      by : (o : Option ℕ) → ((y : ℕ) → o ≡ Some y → P y) → (y : ℕ) → lesser_view o x ≡ Some y → P y
      by None h y e = subst P (same x y e) (k x (here x xs))
      by (Some v) h y e = let m = same (min v x) y e in elim (either_min v y) [
        | inl a ↦ subst P (sym a ∙ m) (h v refl)
        | inr a ↦ subst P (sym a ∙ m) (k x (here x xs))
      ]

  pub join_is : (w : ℕ) → next_join s ≡ Some w → (j : ℕ) × (c : HeldChange) × (get s.heard j ≡ Some c) × (c.change.view ≡ w) × (s.view < w)
  unfolding next_join IsLater
  join_is w h =
      let g = guarded _ (fold lesser_view None (later_views s)) w h in
      least IsLater (later_views s) None w (λ x e. absurd (nothing x e)) later g.1

  -- 2, 3: there is a later view
  pub refuse_is : can_refuse s ≡ true → (s.active ≡ false) × (s.view < 1000000)
  unfolding can_refuse
  refuse_is h =
      let a = and_parts (not s.active) _ h in
      let b = and_parts (nat_lt s.view max_number) _ a.1 in
      (not_true s.active a.0, ltb-true s.view 1000000 b.0)

  pub impatience_is : can_impatience s ≡ true → s.view < 1000000
  unfolding can_impatience
  impatience_is h = let a = and_parts _ (nat_lt s.view max_number) h in ltb-true s.view 1000000 a.1

  -- 4
  pub ack_is_open : (j : ℕ) → next_ack s ≡ Some j → (s.active ≡ false) × (j < size_of_group s.me.f) × ((c : HeldChange) × (get s.heard j ≡ Some c) × (c.change.view ≡ s.view)) × (is_some (ack_at s s.me.index j) ≡ false)
  unfolding next_ack can_ack
  ack_is_open j h =
      let u = unguarded s.active (find (can_ack s) (members s)) j h in
      let f = found (can_ack s) (members s) j u.1 in
      let a = and_parts (not (j == s.me.index)) _ f.1 in
      let b = and_parts _ (not (is_some (ack_at s s.me.index j))) a.1 in
      let p = passing (λ (c : HeldChange). c.change.view == s.view) (get s.heard j) b.0 in
      (u.0, member_in s j f.0, (p.0, p.1, eq_is p.0.change.view s.view p.2), not_true _ b.1)

  -- 5 to 7
  pub choice_is : (c : Choice) → possible_choice s ≡ Some c → (s.active ≡ false) × (is_primary s ≡ true) × (quorum_of s.me.f ≤ length (counted s)) × (choice_in (decision_of s.me.f (counted s)) ≡ Some c)
  unfolding possible_choice
  choice_is c h =
      let g = guarded (not s.active && (is_primary s && nat_le (quorum_of s.me.f) (length (counted s)))) _ c h in
      let a = and_parts (not s.active) _ g.0 in
      let b = and_parts (is_primary s) _ a.1 in
      (not_true s.active a.0, b.0, leb-true (quorum_of s.me.f) (length (counted s)) b.1, g.1)

  wanted : (d : List ℕ) → is_wanted s d ≡ true → set.contains s.needed d ≡ false
  wanted d h = let a = and_parts (not (is_held s d)) _ h in let b = and_parts (not (set.contains s.needed d)) _ a.1 in not_true _ b.0

  pub need_chosen_is : (d : List ℕ) → next_need_chosen s ≡ Some d → (c : Choice) × (possible_choice s ≡ Some c) × Contains c.chosen d × (set.contains s.needed d ≡ false)
  unfolding next_need_chosen
  need_chosen_is d h =
      let t = then_is (λ (c : Choice). find (is_wanted s) c.chosen) (possible_choice s) d h in
      let f = found (is_wanted s) t.0.chosen d t.2 in
      (t.0, t.1, f.0, wanted d f.1)

  pub next_digest_is : (d : List ℕ) → next_digest s ≡ Some d → (t : Slot) × (get s.slots (s.done + 1) ≡ Some t) × (t.is_committed ≡ true) × (t.digest ≡ d)
  unfolding next_digest
  next_digest_is d h =
      let t = then_is (λ (t : Slot). if t.is_committed then Some t.digest else None) (get s.slots (s.done + 1)) d h in
      let g = guarded t.0.is_committed (Some t.0.digest) d t.2 in
      (t.0, t.1, g.0, same t.0.digest d g.1)

  pub need_text_is : (d : List ℕ) → next_need_text s ≡ Some d → (t : Slot) × (get s.slots (s.done + 1) ≡ Some t) × (t.digest ≡ d) × (set.contains s.needed d ≡ false)
  unfolding next_need_text
  need_text_is d h =
      let t = then_is (λ (d : List ℕ). if is_wanted s d then Some d else None) (next_digest s) d h in
      let g = guarded (is_wanted s t.0) (Some t.0) d t.2 in
      let e = same t.0 d g.1 in
      let n = next_digest_is t.0 t.1 in
      (n.0, n.1, n.3 ∙ e, subst (λ x. set.contains s.needed x ≡ false) e (wanted t.0 g.0))

  pub offer_is : (c : Choice) → next_offer s ≡ Some c → possible_choice s ≡ Some c
  unfolding next_offer
  offer_is c h =
      let t = then_is (λ (c : Choice). if list_all (is_held s) c.chosen then Some c else None) (possible_choice s) c h in
      let g = guarded (list_all (is_held s) t.0.chosen) (Some t.0) c t.2 in
      t.1 ∙ g.1

  -- 8
  pub enter_is : (v : NewView) → next_enter s ≡ Some v → (s.active ≡ false) × (s.new_view ≡ Some v) × ((hs : List Heard) × (all_had s v.named ≡ Some hs) × (agrees_by s.me.f v hs ≡ true))
  unfolding next_enter
  enter_is v h =
      let u = unguarded s.active _ v h in
      let t = then_is (λ (v : NewView). if option_map_or (agrees_by s.me.f v) (all_had s v.named) false then Some v else None) s.new_view v u.1 in
      let g = guarded (option_map_or (agrees_by s.me.f t.0) (all_had s t.0.named) false) (Some t.0) v t.2 in
      let e = same t.0 v g.1 in
      let p = passing (agrees_by s.me.f v) (all_had s v.named) (subst (λ (x : NewView). option_map_or (agrees_by s.me.f x) (all_had s x.named) false ≡ true) e g.0) in
      (u.0, t.1 ∙ g.1, p)

  -- 9
  pub propose_is_open : (asked : Counters) (e : Event) → next_propose s asked ≡ Some e → (s.active ≡ true) × (is_primary s ≡ true) × ((s.low < next_place s) × (next_place s ≤ s.low + 32)) × (next_place s ≤ 1000000) × (len (row_at s.pre_prepared (next_place s)) < 16) × Contains (candidates s.evidence asked) e
  unfolding next_propose
  propose_is_open asked e h =
      let g = guarded _ (find (λ e. not (list_any (is_for_same e) (open_events s))) (candidates s.evidence asked)) e h in
      let a = and_parts s.active _ g.0 in
      let b = and_parts (is_primary s) _ a.1 in
      let c = and_parts (is_in_window s.low (next_place s)) _ b.1 in
      let d = and_parts (nat_le (next_place s) max_number) _ c.1 in
      let f = found (λ e. not (list_any (is_for_same e) (open_events s))) (candidates s.evidence asked) e g.1 in
      (a.0, b.0, in_window s.low (next_place s) c.0, leb-true (next_place s) 1000000 d.0, ltb-true _ 16 d.1, f.0)

  -- 10, 11, 14
  at_window : (t : ℕ → Bool) (p : ℕ) → (if s.active then find t (window s.low) else None) ≡ Some p → (s.active ≡ true) × Contains (window s.low) p × (t p ≡ true)
  at_window t p h = let g = guarded s.active (find t (window s.low)) p h in let f = found t (window s.low) p g.1 in (g.0, f.0, f.1)

  pub accept_is_open : (p : ℕ) → next_accept s ≡ Some p → (s.active ≡ true) × Contains (window s.low) p × ((e : Event) × (get s.pending p ≡ Some e) × (is_full s.pre_prepared p (digest_of e) ≡ false))
  unfolding next_accept can_accept
  accept_is_open p h =
      let w = at_window (can_accept s) p h in
      let x = passing (λ (e : Event). supports s.evidence e && not (is_full s.pre_prepared p (digest_of e))) (get s.pending p) w.2 in
      (w.0, w.1, (x.0, x.1, not_true _ (and_parts (supports s.evidence x.0) _ x.2).1))

  pub prepare_is_open : (p : ℕ) → next_prepare s ≡ Some p → (s.active ≡ true) × Contains (window s.low) p × ((t : Slot) × (get s.slots p ≡ Some t) × (t.is_prepared ≡ false))
  unfolding next_prepare can_prepare
  prepare_is_open p h =
      let w = at_window (can_prepare s) p h in
      let x = passing (λ (t : Slot). not t.is_prepared && nat_le (2 * s.me.f) (matching_of s.book kind.Prepare p t.digest)) (get s.slots p) w.2 in
      (w.0, w.1, (x.0, x.1, not_true _ (and_parts (not x.0.is_prepared) _ x.2).0))

  pub commit_is_open : (p : ℕ) → next_commit s ≡ Some p → (s.active ≡ true) × Contains (window s.low) p × ((t : Slot) × (get s.slots p ≡ Some t) × (t.is_prepared ≡ true) × (t.is_committed ≡ false))
  unfolding next_commit can_commit
  commit_is_open p h =
      let w = at_window (can_commit s) p h in
      let x = passing (λ (t : Slot). t.is_prepared && (not t.is_committed && nat_le (quorum_of s.me.f) (matching_of s.book kind.Commit p t.digest))) (get s.slots p) w.2 in
      let a = and_parts x.0.is_prepared _ x.2 in
      (w.0, w.1, (x.0, x.1, a.0, not_true _ (and_parts (not x.0.is_committed) _ a.1).0))

  -- 12, 13
  pub execute_is_open : (e : Event) → next_execute s ≡ Some e → (t : Slot) × (get s.slots (s.done + 1) ≡ Some t) × (text_of s t.digest ≡ Some e)
  unfolding next_execute
  execute_is_open e h =
      let t = then_is (text_of s) (next_digest s) e h in
      let n = next_digest_is t.0 t.1 in
      (n.0, n.1, subst (λ d. text_of s d ≡ Some e) (sym n.3) t.2)

  pub adopt_is_open : (e : Event) → next_adopt s ≡ Some e → (is_alone s ≡ false) × ((j : ℕ) × (get s.dones j ≡ Some e))
  unfolding next_adopt
  adopt_is_open e h =
      let u = unguarded (is_alone s) _ e h in
      let f = found _ (filter_map (λ j. get s.dones j) (members s)) e u.1 in
      let m = mapped (λ j. get s.dones j) (members s) e f.0 in
      (u.0, (m.0, m.2))

  -- 15
  pub checkpoint_is_open : can_checkpoint s ≡ true → (s.low < s.done) × (s.done % 16 ≡ 0) × (has_vote s.book (key kind.Checkpoint s.done s.me.index) ≡ false)
  unfolding can_checkpoint
  checkpoint_is_open h =
      let a = and_parts (s.done % checkpoint_distance == 0) _ h in
      let b = and_parts (nat_lt s.low s.done) _ a.1 in
      (ltb-true s.low s.done b.0, eq_is (s.done % 16) 0 a.0, not_true _ b.1)

  -- 16
  stable_says : (p q : ℕ) → can_stable s q ≡ true → q ≡ p → (s.low < p) × (p ≤ s.done) × ((d : List ℕ) × (get s.chains p ≡ Some d))
  unfolding can_stable
  stable_says p q h e =
      let k = subst (λ x. can_stable s x ≡ true) e h in
      let a = and_parts (nat_lt s.low p) _ k in
      let b = and_parts (nat_le p s.done) _ a.1 in
      let x = passing (λ d. nat_le (quorum_of s.me.f) (matching_of s.book kind.Checkpoint p d)) (get s.chains p) b.1 in
      (ltb-true s.low p a.0, leb-true p s.done b.0, (x.0, x.1))

  pub stable_is_open : (p : ℕ) → next_stable s ≡ Some p → (s.low < p) × (p ≤ s.done) × ((p ≡ s.low + 16) ⊎ (p ≡ s.low + 32)) × ((d : List ℕ) × (get s.chains p ≡ Some d))
  unfolding next_stable
  stable_is_open p h = by (can_stable s (s.low + place_window)) refl h
    where
      by : (b : Bool) → can_stable s (s.low + place_window) ≡ b → option_or (if b then Some (s.low + place_window) else None) (if_stable s (s.low + checkpoint_distance)) ≡ Some p → (s.low < p) × (p ≤ s.done) × ((p ≡ s.low + 16) ⊎ (p ≡ s.low + 32)) × ((d : List ℕ) × (get s.chains p ≡ Some d))
      by true e k = let q = same (s.low + place_window) p k in let r = stable_says p (s.low + place_window) e q in (r.0, r.1, inr (sym q), r.2)
      by false e k =
          let g = guarded (can_stable s (s.low + checkpoint_distance)) (Some (s.low + checkpoint_distance)) p k in
          let q = same (s.low + checkpoint_distance) p g.1 in
          let r = stable_says p (s.low + checkpoint_distance) g.0 q in
          (r.0, r.1, inl (sym q), r.2)

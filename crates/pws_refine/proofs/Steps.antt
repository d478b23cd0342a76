-- Each action is a step of the core, or none.
use Rattle.std.proofs.Common.{◌≡◌, inl, inr, ℕ, ◌+◌, ◌*◌, ◌<◌, ◌≤◌, Bool, true, false, List, [], ◌∷◌, ◌++◌, map, Option, Some, None, refl, sym, ◌∙◌, ap, subst, arith}
use Rattle.std.specs.Option.{option_map, option_map_or}
use Rattle.std.specs.Str.{bytes_eq}
use Rattle.std.specs.FinMap.{get, entries}
use Rattle.std.proofs.lemmas.Bool.{true≢false}
use Rattle.pws_base.specs.Counts.{count_below}
use Rattle.pws_base.specs.Shapes.{quorum_of, size_of_group}
use Rattle.pws_base.proofs.Members.{here}
use Rattle.pws_event.specs.declared.events.Event.{Event}
use Rattle.pws_event.specs.Events.{digest_of}
use Rattle.pws_event.specs.Counters.{Counters}
use Rattle.pws_msg.specs.declared.changes.Choice.{Choice}
use Rattle.pws_msg.specs.declared.changes.NewView.{NewView}
use Rattle.pws_msg.specs.declared.changes.PRow.{PRow}
use Rattle.pws_change.specs.declared.heard.Heard.{Heard}
use Rattle.pws_change.specs.Agreements.{Agrees, agrees_by}
use Rattle.pws_change.specs.Sets.{p_rows, q_rows, trimmed}
use Rattle.pws_change.proofs.Agreeing.{agrees_is_tested}
use Rattle.pws_change.proofs.RowLemmas.{p_row_get, get_p_row, q_seen_get, get_q_seen, trimmed_rows}
use Rattle.pws_votes.specs.declared.kinds.VoteKind.{VoteKind}
use Rattle.pws_votes.specs.declared.kinds.VoteKind.TheVariants as kind
use Rattle.pws_votes.specs.Votes.{Book, key, is_vote_for, matching_of}
use Rattle.pws_safety.specs.Replicas.{AtLeast}
use Rattle.pws_safety.specs.Statement.{Statement, PrePrepare, Prepare, Commit, Ack}
use Rattle.pws_safety.specs.Statement as say
use Rattle.pws_safety.specs.Statements.{Sent, Told, primary}
use Rattle.pws_safety.specs.Voters.{Core, Step, after_accept, after_prepare, after_commit, after_lower, after_move, after_enter, IsNoted, IsTrimmed, IsPreparedBy, IsSeenBy, IsHeard}
use Rattle.pws_safety.specs.Voters as safe
use Rattle.pws_protocol.specs.States.{State, Slot, Relayed, is_alone, window, new_slot}
use Rattle.pws_protocol.specs.Gathered.{counted}
use Rattle.pws_protocol.specs.Actions.{Action, next_action, next_place}
use Rattle.pws_protocol.specs.Actions as act
use Rattle.pws_protocol.specs.Doing.{Reaction, voted, accepted, noted, noted_p, noted_q, left_view, own_change, with_change, did_move, did_need, taken, slots_of, highest_of, entered, with_offer, start_outs, relay_out, prepare_out, with_slot, executed, did_execute, did_stable, did}
use Rattle.pws_refine.specs.Cores.{slot_of, core_of, statements_in}
use Rattle.pws_refine.specs.Contexts.{Context, IsLawful, IsOf, IsInRun}
use Rattle.pws_refine.specs.Links.{Links}
use Rattle.pws_refine.specs.Ready.{IsReady}
use Rattle.pws_refine.specs.Laws.{IsStep, ActionsRefine}
use Rattle.pws_refine.proofs.Done.{moved_to, offered, entered_by, proposed, accepting, preparing, lowered, move_is, ack_is, need_is, offer_is, enter_is, propose_is, accept_is, prepare_is, checkpoint_is, execute_is, commit_is, stable_is}
use Rattle.pws_refine.proofs.Enabled.{Enabled, enabled}
use Rattle.pws_refine.proofs.Enabled as on
use Rattle.pws_refine.proofs.Entering.{accepts_chosen, prepares_chosen, had_all}
use Rattle.pws_refine.proofs.Finding.{window_has}
use Rattle.pws_refine.proofs.Noting.{p_noted, p_noted_at, q_noted}
use Rattle.pws_refine.proofs.Offering.{offer_of, offer_agrees, counted_heard}
use Rattle.pws_refine.proofs.Offering as offering
use Rattle.pws_refine.proofs.Places.{size_is, book_is, own_primary, has_others, same_bytes}
use Rattle.pws_refine.proofs.Slots.{seen_by, slot_put, slots_above, slots_none}
use Rattle.pws_refine.proofs.Supported.{supported_is_backed, candidate_supported}
use Rattle.pws_refine.proofs.Tests.{join_later, next_later, ack_tells, enter_tells, propose_tells, accept_tells, prepare_tells, commit_tells, stable_tells}

-- what is seen of a slot that is held
seen_slot : (s : State) (p : ℕ) (t : Slot) → get s.slots p ≡ Some t → seen_by s.slots p ≡ Some (slot_of t)
seen_slot s p t h = ap (option_map slot_of) h

-- accepting
accept_core : (s : State) (p : ℕ) (e : Event) (said : List Statement) (x : Statement) → core_of (accepting s p e) (x ∷ said) ≡ after_accept (core_of s said) p (digest_of e) x
unfolding accepted voted
accept_core s p e said x = ap (λ slots. record (after_accept (core_of s said) p (digest_of e) x) { slot = slots }) (slot_put s.slots p (new_slot (digest_of e)))

propose_core : (s : State) (e : Event) (said : List Statement) (x : Statement) → core_of (proposed s e) (x ∷ said) ≡ after_accept (core_of s said) (next_place s) (digest_of e) x
unfolding accepted
propose_core s e said x = ap (λ slots. record (after_accept (core_of s said) (next_place s) (digest_of e) x) { slot = slots }) (slot_put s.slots (next_place s) (new_slot (digest_of e)))

-- preparing
prepare_core : (s : State) (p : ℕ) (t : Slot) (said : List Statement) → t.is_committed ≡ false → core_of (preparing s p t) (Commit s.view p t.digest ∷ said) ≡ after_prepare (core_of s said) p t.digest
unfolding with_slot voted
prepare_core s p t said k =
    ap (λ slots. record (after_prepare (core_of s said) p t.digest) { slot = slots })
    (slot_put s.slots p (record t { is_prepared = true }) ∙ ap (λ b. safe.with_slot (seen_by s.slots) p (record { digest = t.digest; prepared = true; committed = b })) k)

unprepared : (s : State) (p : ℕ) (t : Slot) → get s.slots p ≡ Some t → t.is_prepared ≡ false → t.is_committed ≡ false → seen_by s.slots p ≡ Some (safe.accepted t.digest)
unprepared s p t h n k = seen_slot s p t h ∙ (λ i. Some (record { digest = t.digest; prepared = n i; committed = k i }))

not_committed : (s : State) (p : ℕ) (t : Slot) → IsReady s → get s.slots p ≡ Some t → t.is_prepared ≡ false → t.is_committed ≡ false
not_committed s p t ready h n = go t.is_committed refl
  where
    go : (b : Bool) → t.is_committed ≡ b → t.is_committed ≡ false
    go false e = e
    go true e = absurd (true≢false (sym (ready.committed p t h e) ∙ n))

-- committing
commit_core : (s : State) (p : ℕ) (t : Slot) (said : List Statement) → t.is_prepared ≡ true → core_of (with_slot s p (record t { is_committed = true })) said ≡ after_commit (core_of s said) p t.digest
unfolding with_slot
commit_core s p t said k =
    ap (λ slots. record (after_commit (core_of s said) p t.digest) { slot = slots })
    (slot_put s.slots p (record t { is_committed = true }) ∙ ap (λ b. safe.with_slot (seen_by s.slots) p (record { digest = t.digest; prepared = b; committed = true })) k)

uncommitted : (s : State) (p : ℕ) (t : Slot) → get s.slots p ≡ Some t → t.is_prepared ≡ true → t.is_committed ≡ false → seen_by s.slots p ≡ Some (safe.prepared_slot t.digest)
uncommitted s p t h n k = seen_slot s p t h ∙ (λ i. Some (record { digest = t.digest; prepared = n i; committed = k i }))

-- votes
vote_is : (o : Option (List ℕ)) (d : List ℕ) → option_map_or (λ said. bytes_eq said d) o false ≡ true → o ≡ Some d
vote_is None d h = absurd (cc)
vote_is (Some e) d h = ap Some (same_bytes e d h)

-- enough votes of a kind are enough replicas that cast them
enough : (b : Book) (k : VoteKind) (p : ℕ) (d : List ℕ) (f least : ℕ) (P : ℕ → Type 0) → b.f ≡ f → least ≤ matching_of b k p d → ((i : ℕ) → get b.votes (key k p i) ≡ Some d → P i) → AtLeast (size_of_group f) least P
unfolding matching_of
enough b k p d f least P e l each = (is_vote_for b k p d, subst (λ x. least ≤ count_below (size_of_group x) (is_vote_for b k p d)) e l, λ i m t. each i (vote_is (get b.votes (key k p i)) d t))

-- moving
move_core : (s : State) (w : ℕ) (said : List Statement) → core_of (moved_to s w) (say.ViewChange (own_change (left_view (noted s) w)) ∷ said)
    ≡ after_move (core_of s said) w (own_change (left_view (noted s) w)).checkpoints (p_rows (noted s).prepared) (q_rows (noted s).pre_prepared)
unfolding with_change own_change left_view noted
move_core s w said =
    ap (λ slots. record (after_move (core_of s said) w (own_change (left_view (noted s) w)).checkpoints (p_rows (noted_p s.view s.slots (window s.low) s.prepared)) (q_rows (noted_q s.view s.slots (window s.low) s.pre_prepared))) { slot = slots }) slots_none

slot_prepared : (s : State) (p : ℕ) (t : Slot) (r : PRow) → get s.slots p ≡ Some t → t.is_prepared ≡ true → r.place ≡ p → ◌≡◌ {A = Option (List ℕ × ℕ)} (Some (r.digest, r.view)) (Some (t.digest, s.view)) → (said : List Statement) → IsPreparedBy (core_of s said) r
slot_prepared s p t r h e at is said =
    let both : ◌≡◌ {A = List ℕ × ℕ} (r.digest, r.view) (t.digest, s.view) = cc in
    (slot_of t, subst (λ x. seen_by s.slots x ≡ Some (slot_of t)) (sym at) (seen_slot s p t h), e, ap (λ x. x.0) both, ap (λ x. x.1) both)

is_noted : (s : State) (said : List Statement) → IsReady s → IsNoted (core_of s said) (p_rows (noted s).prepared) (q_rows (noted s).pre_prepared)
unfolding noted
is_noted s said ready =
    let P = noted_p s.view s.slots (window s.low) s.prepared in
    let Q = noted_q s.view s.slots (window s.low) s.pre_prepared in
    record {
      from = λ r m.
          let at = p_row_get P r m in
          elim (p_noted s.view s.slots (window s.low) r.place s.prepared) [
            | inl x ↦ inl (get_p_row s.prepared r.place r.digest r.view (sym x ∙ at))
            | inr x ↦ inr (slot_prepared s r.place x.0 r x.1 x.2 refl (sym at ∙ x.3) said)
          ];
      slots = λ place slot h e.
          let t = held place slot h in
          let within = ready.slots place t.0 t.1 in (
            record { place = place; digest = t.0.digest; view = s.view },
            get_p_row P place t.0.digest s.view (p_noted_at s.view s.slots (window s.low) place s.prepared t.0 (window_has s.low place within.0 within.1) t.1 (ap (λ (x : safe.Slot). x.prepared) t.2 ∙ e)),
            refl,
            refl,
          );
      no_earlier = λ r m.
          let old = p_row_get s.prepared r m in
          elim (p_noted s.view s.slots (window s.low) r.place s.prepared) [
            | inl x ↦ (r, get_p_row P r.place r.digest r.view (x ∙ old), refl, inl refl)
            | inr x ↦ (record { place = r.place; digest = x.0.digest; view = s.view }, get_p_row P r.place x.0.digest s.view x.3, refl, inr refl)
          ];
      seen = λ row m e k.
          elim (q_noted s.view s.slots (window s.low) row.place s.pre_prepared e.digest e.view (q_seen_get Q row m e k)) [
            | inl x ↦ inl (get_q_seen s.pre_prepared row.place e.digest e.view x)
            | inr x ↦ inr (slot_of x.0, seen_slot s row.place x.0 x.1, x.2, x.3)
          ];
    }
  where
    held_by : (place : ℕ) (slot : safe.Slot) (o : Option Slot) → get s.slots place ≡ o → option_map slot_of o ≡ Some slot → (t : Slot) × (get s.slots place ≡ Some t) × (slot_of t ≡ slot)
    held_by place slot None e h = absurd (let i : ◌≡◌ {A = Option safe.Slot} None (Some slot) = h in cc)
    held_by place slot (Some t) e h = (t, e, let i : ◌≡◌ {A = Option safe.Slot} (Some (slot_of t)) (Some slot) = h in cc)

    held : (place : ℕ) (slot : safe.Slot) → seen_by s.slots place ≡ Some slot → (t : Slot) × (get s.slots place ≡ Some t) × (slot_of t ≡ slot)
    held place slot h = held_by place slot (get s.slots place) refl h

-- the low mark rises
stable_core : (s : State) (p : ℕ) (said : List Statement) → core_of (lowered s p) said ≡ after_lower (core_of s said) p (p_rows (trimmed p s.prepared)) (q_rows (trimmed p s.pre_prepared))
unfolding did_stable
stable_core s p said = ap (λ slots. record (after_lower (core_of s said) p (p_rows (trimmed p s.prepared)) (q_rows (trimmed p s.pre_prepared))) { slot = slots }) (slots_above s.slots p)

is_trimmed : (s : State) (said : List Statement) (p : ℕ) → IsTrimmed (core_of s said) p (p_rows (trimmed p s.prepared)) (q_rows (trimmed p s.pre_prepared))
is_trimmed s said p = record {
  prepared_old = λ r m. ((trimmed_rows.prepared s.prepared p r).0 m).1;
  prepared_kept = λ r m l. (trimmed_rows.prepared s.prepared p r).1 (l, m);
  pre_prepared_old = λ q m. ((trimmed_rows.pre_prepared s.pre_prepared p q).0 m).1;
}

-- entering
enter_core : (s : State) (v : NewView) (said xs : List Statement) → s.new_view ≡ Some v → core_of (entered_by s v) (xs ++ said)
    ≡ after_enter (core_of s said) v (seen_by (slots_of (taken s v.choice))) (highest_of (taken s v.choice)) xs
unfolding entered
enter_core s v said xs h = ap (λ o. record (after_enter (core_of s said) v (seen_by (slots_of (taken s v.choice))) (highest_of (taken s v.choice)) xs) { new_view = o }) h

-- starting a view
relays_say_nothing : (s : State) (xs : List (ℕ × Relayed)) → statements_in (map (relay_out s) xs) ≡ []
relays_say_nothing s [] = refl
relays_say_nothing s (x ∷ xs) = relays_say_nothing s xs

pub offer_says : (s : State) (v : Choice) → statements_in (start_outs (with_offer s v)) ≡ say.NewView (offer_of s v) ∷ []
unfolding start_outs with_offer
offer_says s v = ap (λ xs. say.NewView (offer_of s v) ∷ xs) (relays_say_nothing (with_offer s v) (entries (with_offer s v).relayed))

offer_core : (s : State) (v : Choice) (said : List Statement) → core_of (offered s v) (statements_in (start_outs (with_offer s v)) ++ said)
    ≡ after_enter (core_of s said) (offer_of s v) (seen_by (slots_of (taken s v))) (highest_of (taken s v)) (say.NewView (offer_of s v) ∷ [])
unfolding entered with_offer taken
offer_core s v said = ap (λ xs. after_enter (core_of s said) (offer_of s v) (seen_by (slots_of (taken s v))) (highest_of (taken s v)) xs) (offer_says s v)

-- what leaves the core as it is
execute_core : (s : State) (e : Event) (said : List Statement) → core_of (executed s e) said ≡ core_of s said
unfolding executed
execute_core s e said = refl

checkpoint_core : (s : State) (said : List Statement) → core_of (voted s kind.Checkpoint s.done s.chain) said ≡ core_of s said
unfolding voted
checkpoint_core s said = refl

module _ (c : Context) (sent : Sent) (s : State) (said : List Statement) where
  -- a reaction that is a step, or none
  abbrev Goes : Reaction → Type 0
  Goes r = IsStep c sent s said r.state (statements_in r.outs)

  step : (r u : Reaction) (k : Core) → r ≡ u → core_of u.state (statements_in u.outs ++ said) ≡ k → Step c.group sent c.me.index (core_of s said) k → Goes r
  step r u k e f x = subst Goes (sym e) (inl (subst (Step c.group sent c.me.index (core_of s said)) (sym f) x))

  none : (r u : Reaction) → r ≡ u → statements_in u.outs ≡ [] → core_of u.state said ≡ core_of s said → Goes r
  none r u e n f = subst Goes (sym e) (inr (n, f))

module _ (c : Context) (sent : Sent) (s : State) (said : List Statement) (law : IsLawful c) (is : IsOf c s) (ready : IsReady s) (l : Links c sent s) where
  apart : is_alone s ≡ false
  apart = has_others c s law is

  moves : (w : ℕ) → s.view < w → Goes c sent s said (did_move s w)
  moves w later =
      step c sent s said (did_move s w) _ _ (move_is s apart w) (move_core s w said)
      (safe.move (core_of s said) w _ (p_rows (noted s).prepared) (q_rows (noted s).pre_prepared) later (is_noted s said ready))

  needs : (digest : List ℕ) → Goes c sent s said (did_need s digest)
  needs digest = none c sent s said (did_need s digest) _ (need_is s apart digest) refl refl

  executes : (e : Event) → Goes c sent s said (did_execute s e)
  executes e = none c sent s said (did_execute s e) _ (execute_is s e) refl (execute_core s e said)

  agreed : (v : NewView) (heard : List Heard) → agrees_by s.me.f v heard ≡ true → Agrees c.group.f v heard
  agreed v heard h = (agrees_is_tested c.group.f v heard).0 (subst (λ f. agrees_by f v heard ≡ true) (size_is c s law is) h)

  prepares_of : (p : ℕ) (d : List ℕ) → 2 * s.me.f ≤ matching_of s.book kind.Prepare p d → AtLeast (size_of_group c.group.f) (2 * c.group.f) (λ k. (k ≡ primary c.group s.view → ⊥) × Told c.group sent k (Prepare s.view p d))
  prepares_of p d h = enough s.book kind.Prepare p d c.group.f (2 * c.group.f) _ (book_is c s law is) (subst (λ f. 2 * f ≤ matching_of s.book kind.Prepare p d) (size_is c s law is) h) (λ i v. l.prepares p i d v)

  commits_of : (p : ℕ) (d : List ℕ) → quorum_of s.me.f ≤ matching_of s.book kind.Commit p d → AtLeast (size_of_group c.group.f) (quorum_of c.group.f) (λ k. Told c.group sent k (Commit s.view p d))
  commits_of p d h = enough s.book kind.Commit p d c.group.f (quorum_of c.group.f) _ (book_is c s law is) (subst (λ f. quorum_of f ≤ matching_of s.book kind.Commit p d) (size_is c s law is) h) (λ i v. l.commits p i d v)

  goes : (asked : Counters) (a : Action) → Enabled s asked a → IsInRun c (did s a).outs → Goes c sent s said (did s a)
  unfolding did
  goes asked a (on.join w e) b = moves w (join_later s w e)
  goes asked a (on.refuse e) b = moves (s.view + 1) (next_later s.view)
  goes asked a (on.impatience e) b = moves (s.view + 1) (next_later s.view)
  goes asked a (on.ack j e) b =
      let x = ack_tells s j e in
      let k = l.heard j x.1.0 x.1.1 in
      step c sent s said (did s (act.Ack j)) _ _ (ack_is s apart j x.1.0 x.1.1) (ap (λ d. record (core_of s said) { said = Ack s.view j d ∷ said }) (sym k.1))
      (safe.ack (core_of s said) j x.1.0.change x.0 (subst (λ v. IsHeard c.group sent v j x.1.0.change) x.1.2 k.0))
  goes asked a (on.need_chosen d) b = needs d
  goes asked a (on.need_text d) b = needs d
  goes asked a (on.offer v e) b =
      let x = offering.offer_is s v e in
      step c sent s said (did s (act.Offer v)) _ _ (offer_is s apart v) (offer_core s v said)
      (safe.offer (core_of s said) (offer_of s v) (counted s) (seen_by (slots_of (taken s v))) (highest_of (taken s v)) x.0 (own_primary c s law is x.1) refl
      (offer_agrees c sent s law is v x.2 x.3) (counted_heard c sent s law is l) (accepts_chosen s said (offer_of s v)))
  goes asked a (on.enter v e) b =
      let x = enter_tells s v e in
      let k = l.new_view v x.1 in
      let xs = statements_in (map (prepare_out s.view) (taken s v.choice)) in
      step c sent s said (did s (act.Enter v)) _ _ (enter_is s apart v) (enter_core s v said xs x.1)
      (safe.enter (core_of s said) v x.2.0 (seen_by (slots_of (taken s v.choice))) (highest_of (taken s v.choice)) xs x.0 (k.2 x.0) k.0 k.1
      (agreed v x.2.0 x.2.2) (had_all c sent s law is l v.named x.2.0 x.2.1) (accepts_chosen s said v) (prepares_chosen s said v))
  goes asked a (on.propose e k) b =
      let x = propose_tells s asked e k in
      let outs = propose_is s apart e in
      let occurs = (subst (λ (r : Reaction). IsInRun c r.outs) outs b _ [] (here _ [])).1 in
      step c sent s said (did s (act.Propose e)) _ _ outs (propose_core s e said (PrePrepare s.view (next_place s) (digest_of e)))
      (safe.propose (core_of s said) (next_place s) (digest_of e) x.0 (own_primary c s law is x.1) refl x.2
      (supported_is_backed c s law is l.evidence e (candidate_supported s.evidence asked ready.evidence e x.4) occurs))
  goes asked a (on.accept p e) b =
      let x = accept_tells s p e in
      let k = l.pending p x.1.0 x.1.1 in
      step c sent s said (did s (act.Accept p)) _ _ (accept_is s apart p x.1.0 x.1.1) (accept_core s p x.1.0 said (Prepare s.view p (digest_of x.1.0)))
      (safe.accept (core_of s said) p (digest_of x.1.0) x.0 k.1 k.2 k.3 (ap (option_map slot_of) k.5) (supported_is_backed c s law is l.evidence x.1.0 x.1.2 k.7) k.6)
  goes asked a (on.prepare p e) b =
      let x = prepare_tells s p e in
      let n = not_committed s p x.1.0 ready x.1.1 x.1.2 in
      step c sent s said (did s (act.Prepare p)) _ _ (prepare_is s apart p x.1.0 x.1.1) (prepare_core s p x.1.0 said n)
      (safe.prepare (core_of s said) p x.1.0.digest x.0 (unprepared s p x.1.0 x.1.1 x.1.2 n) (prepares_of p x.1.0.digest x.1.3))
  goes asked a (on.execute e h) b = executes e
  goes asked a (on.adopt e h) b = executes e
  goes asked a (on.commit p e) b =
      let x = commit_tells s p e in
      step c sent s said (did s (act.Commit p)) _ _ (commit_is s p x.1.0 x.1.1) (commit_core s p x.1.0 said x.1.2)
      (safe.commit (core_of s said) p x.1.0.digest x.0 (uncommitted s p x.1.0 x.1.1 x.1.2 x.1.3) (commits_of p x.1.0.digest x.1.4))
  goes asked a (on.checkpoint e) b = none c sent s said (did s act.Checkpoint) _ (checkpoint_is s apart) refl (checkpoint_core s said)
  goes asked a (on.stable p e) b =
      let x = stable_tells s p e in
      let above = x.0 in
      step c sent s said (did s (act.Stable p)) _ _ (stable_is s p) (stable_core s p said)
      (safe.lower (core_of s said) p (p_rows (trimmed p s.prepared)) (q_rows (trimmed p s.pre_prepared)) (omega (arith, above)) (is_trimmed s said p))

pub actions_refine : ActionsRefine
actions_refine c sent s said asked a law st h b = goes c sent s said law st.is_of st.ready st.links asked a (enabled s asked a h) b

-- A reaction executes at most one event, at the next place.
use Rattle.std.proofs.Common.{◌≡◌, ◌⊎◌, inl, inr, ℕ, zero, suc, ◌+◌, ◌++◌, Bool, true, false, if◌then◌else◌, List, [], ◌∷◌, Option, Some, None, refl, sym, ◌∙◌, ap, subst}
use Rattle.std.specs.List.{fold}
use Rattle.std.specs.Prelude.{map}
use Rattle.std.specs.Option.{option_map_or}
use Rattle.std.specs.FinMap.{get, entries}
use Rattle.std.proofs.lemmas.Bool.{false≢true}
use Rattle.sha2.specs.Sha256.{sha256}
use Rattle.pws_event.specs.declared.events.Event.{Event}
use Rattle.pws_event.specs.Events.{digest_of}
use Rattle.pws_event.specs.Counters.{Counters}
use Rattle.pws_msg.specs.declared.changes.Choice.{Choice}
use Rattle.pws_msg.specs.declared.changes.NewView.{NewView}
use Rattle.pws_protocol.specs.States.{State}
use Rattle.pws_protocol.specs.Actions.{Action, next_action, next_place}
use Rattle.pws_protocol.specs.Actions as act
use Rattle.pws_protocol.specs.Doing.{Reaction, did, did_move, did_ack, did_need, did_offer, did_enter, did_propose, did_accept, did_prepare, did_execute, did_commit, did_checkpoint, did_stable, reported, with_change, left_view, noted, ack_change, entered, with_offer, start_outs, relay_out, new_view_out, taken, vote_for, prepare_out, accepted, with_text, voted, accept_event, with_slot, prepare_slot, commit_slot, executed}
use Rattle.pws_protocol.specs.Reactions.{is_last, then_did, acts, turn, more_unless, tidied}
use Rattle.pws_protocol.specs.Executed.{Placed, executed_in, Advances, stays, executes}
use Rattle.pws_protocol.specs.Fits.{FitsEvidence}
use Rattle.pws_protocol.proofs.Calm.{Calm, same, said_calm, on_calm, quiet_both, quiet_map, executed_both, text_same, votes_same}

-- what starts a view executes nothing
pub start_quiet : (t : State) → executed_in (start_outs t) ≡ []
unfolding start_outs
start_quiet t = quiet_both (option_map_or (λ v. new_view_out v ∷ []) t.new_view []) (map (relay_out t) (entries t.relayed)) (by_view t.new_view) (quiet_map (relay_out t) (entries t.relayed) (λ x. refl))
  where
    by_view : (o : Option NewView) → executed_in (option_map_or (λ v. new_view_out v ∷ []) o []) ≡ []
    by_view None = refl
    by_view (Some v) = refl

-- each action but the two that execute
module _ {P : Type 0} (s : State) where
  move_calm : (w : ℕ) → Calm P s (did_move s w)
  unfolding did_move reported with_change left_view noted
  move_calm w = said_calm s _ _ refl refl refl refl

  ack_calm : (j : ℕ) → Calm P s (did_ack s j)
  unfolding did_ack
  ack_calm j = on_calm s (get s.heard j) (ack_change s j) (λ c. said_calm s _ _ refl refl refl refl)

  need_calm : (digest : List ℕ) → Calm P s (did_need s digest)
  unfolding did_need
  need_calm digest = said_calm s _ _ refl refl refl refl

  offer_calm : (c : Choice) → Calm P s (did_offer s c)
  unfolding did_offer entered with_offer
  offer_calm c = said_calm s _ (start_outs (with_offer s c)) refl refl refl (start_quiet (with_offer s c))

  enter_calm : (v : NewView) → Calm P s (did_enter s v)
  unfolding did_enter entered
  enter_calm v =
      let h = votes_same s (entered s v.choice) (taken s v.choice) (record { done = refl; chain = refl; evidence = refl }) in
      said_calm s (fold vote_for (entered s v.choice) (taken s v.choice)) (map (prepare_out s.view) (taken s v.choice)) h.done h.chain h.evidence
      (quiet_map (prepare_out s.view) (taken s v.choice) (λ x. refl))

  propose_calm : (e : Event) → Calm P s (did_propose s e)
  unfolding did_propose accepted
  propose_calm e =
      let h = text_same (accepted s (next_place s) (digest_of e)) e in
      said_calm s (with_text (accepted s (next_place s) (digest_of e)) e) _ h.done h.chain h.evidence refl

  accept_calm : (p : ℕ) → Calm P s (did_accept s p)
  unfolding did_accept accepted voted
  accept_calm p = on_calm s (get s.pending p) (accept_event s p) (λ e. one e)
    where
      one : (e : Event) → Calm P s (accept_event s p e)
      one e = let h = text_same (accepted s p (digest_of e)) e in said_calm s _ _ h.done h.chain h.evidence refl

  prepare_calm : (p : ℕ) → Calm P s (did_prepare s p)
  unfolding did_prepare voted with_slot
  prepare_calm p = on_calm s (get s.slots p) (prepare_slot s p) (λ t. said_calm s _ _ refl refl refl refl)

  commit_calm : (p : ℕ) → Calm P s (did_commit s p)
  unfolding did_commit with_slot
  commit_calm p = on_calm s (get s.slots p) (commit_slot s p) (λ t. same s _ _ refl refl refl refl)

  checkpoint_calm : Calm P s (did_checkpoint s)
  unfolding did_checkpoint voted
  checkpoint_calm = said_calm s _ _ refl refl refl refl

  stable_calm : (p : ℕ) → Calm P s (did_stable s p)
  unfolding did_stable
  stable_calm p = same s _ _ refl refl refl refl

-- an action executes an event and is the last of its call, or is neither
Ends : Type 0 → State → Action → Type 0
Ends P s a = ((is_last a ≡ false) × Calm P s (did s a)) ⊎ ((is_last a ≡ true) × ((e : Event) × (did s a ≡ did_execute s e)))

ends : (P : Type 0) (s : State) (a : Action) → Ends P s a
unfolding Ends did
ends P s (act.Join w) = inl (refl, move_calm s w)
ends P s act.Refuse = inl (refl, move_calm s (s.view + 1))
ends P s act.Impatience = inl (refl, move_calm s (s.view + 1))
ends P s (act.Ack j) = inl (refl, ack_calm s j)
ends P s (act.NeedChosen digest) = inl (refl, need_calm s digest)
ends P s (act.NeedText digest) = inl (refl, need_calm s digest)
ends P s (act.Offer c) = inl (refl, offer_calm s c)
ends P s (act.Enter v) = inl (refl, enter_calm s v)
ends P s (act.Propose e) = inl (refl, propose_calm s e)
ends P s (act.Accept p) = inl (refl, accept_calm s p)
ends P s (act.Prepare p) = inl (refl, prepare_calm s p)
ends P s (act.Execute e) = inr (refl, (e, refl))
ends P s (act.Adopt e) = inr (refl, (e, refl))
ends P s (act.Commit p) = inl (refl, commit_calm s p)
ends P s act.Checkpoint = inl (refl, checkpoint_calm s)
ends P s (act.Stable p) = inl (refl, stable_calm s p)

-- an action that isn't the last of its call executes nothing
pub executes_nothing : (s : State) (a : Action) → is_last a ≡ false → executed_in (did s a).outs ≡ []
unfolding Ends
executes_nothing s a e = elim (ends (Unit {0}) s a) [ inl h ↦ h.1.nothing | inr h ↦ absurd (false≢true (sym e ∙ h.0)) ]

-- one action after others that executed nothing
then_calm : {P : Type 0} (s : State) (r : Reaction) (a : Action) → Calm P s r → Calm P r.state (did r.state a) → Calm P s (then_did r a)
unfolding then_did tidied
then_calm s r a c d = record {
  done = d.done ∙ c.done;
  chain = d.chain ∙ c.chain;
  nothing = quiet_both r.outs (did r.state a).outs c.nothing d.nothing;
  evidence = λ p f. d.evidence p (c.evidence p f);
}

-- from a state to a reaction these events were executed, and evidence fits on
pub record Advanced (P : Type 0) (s : State) (r : Reaction) : Type 0 where
  pub executes : Advances s r.state (executed_in r.outs)
  pub evidence : P → FitsEvidence s.evidence → FitsEvidence r.state.evidence

pub at_rest : {P : Type 0} (s : State) (r : Reaction) → Calm P s r → Advanced P s r
at_rest s r c = record { executes = subst (λ es. Advances s r.state es) (sym c.nothing) (stays c.done c.chain); evidence = c.evidence }

-- where the state before has the same place and chain
from_same : (s t u : State) (es : List Placed) → t.done ≡ s.done → t.chain ≡ s.chain → Advances t u es → Advances s u es
from_same s t u es d c (stays x y) = stays (x ∙ d) (y ∙ c)
from_same s t u es d c (executes e x y) =
    subst (λ n. Advances s u (record { place = n + 1; event = e } ∷ [])) (sym d) (executes e (x ∙ ap (λ n. n + 1) d) (y ∙ ap (λ ch. sha256 (ch ++ digest_of e)) c))

last_one : {P : Type 0} (s : State) (r : Reaction) (a : Action) (e : Event) → Calm P s r → did r.state a ≡ did_execute r.state e → Advanced P s (then_did r a)
unfolding then_did tidied did_execute executed
last_one {P} s r a e c h = by_same (did r.state a) h
  where
    by_same : (d : Reaction) → d ≡ did_execute r.state e → Advanced P s (record { state = tidied d.state; outs = r.outs ++ d.outs })
    by_same d k = subst (λ (d : Reaction). Advanced P s (record { state = tidied d.state; outs = r.outs ++ d.outs })) (sym k) (record {
      executes =
          subst (λ es. Advances s (tidied (did_execute r.state e).state) es) (sym (executed_both r.outs (did_execute r.state e).outs ∙ ap (λ es. es ++ executed_in (did_execute r.state e).outs) c.nothing))
          (from_same s r.state (tidied (did_execute r.state e).state) _ c.done c.chain (executes e refl refl));
      evidence = c.evidence;
    })

-- the actions of a call
module _ {P : Type 0} (asked : Counters) (s : State) where
  by_last : (n : ℕ) (r : Reaction) (a : Action) (b : Bool) → is_last a ≡ b → Calm P s r → ((t : Reaction) → Calm P s t → Advanced P s (acts n asked t))
      → Advanced P s (more_unless b (then_did r a) (λ t. acts n asked t))
  unfolding Ends
  by_last n r a true e c f = elim (ends P r.state a) [
    | inl h ↦ absurd (false≢true (sym h.0 ∙ e))
    | inr h ↦ last_one s r a h.1.0 c h.1.1
  ]
  by_last n r a false e c f = elim (ends P r.state a) [
    | inl h ↦ f (then_did r a) (then_calm s r a c h.1)
    | inr h ↦ absurd (false≢true (sym e ∙ h.0))
  ]

  by_turn : (n : ℕ) (r : Reaction) (o : Option Action) → Calm P s r → ((t : Reaction) → Calm P s t → Advanced P s (acts n asked t)) → Advanced P s (turn o r (λ t. acts n asked t))
  by_turn n r None c f = at_rest s r c
  by_turn n r (Some a) c f = by_last n r a (is_last a) refl c f

  pub acts_advance : (n : ℕ) (r : Reaction) → Calm P s r → Advanced P s (acts n asked r)
  unfolding acts
  acts_advance zero r c = at_rest s r c
  acts_advance (suc n) r c = by_turn n r (next_action r.state asked) c (λ t d. acts_advance n t d)

  pub follows_advance : (n : ℕ) (b : Bool) (r : Reaction) → Calm P s r → Advanced P s (if b then acts n asked r else r)
  follows_advance n true r c = acts_advance n r c
  follows_advance n false r c = at_rest s r c

-- A reaction ends.
use Rattle.std.proofs.Common.{◌≡◌, inl, inr, ℕ, zero, suc, ◌<◌, ◌≤◌, false, Some, refl, sym, subst, arith}
use Rattle.pws_event.specs.Counters.{Counters}
use Rattle.pws_protocol.specs.States.{State}
use Rattle.pws_protocol.specs.Gathered.{ack_at, acks_for, counted, possible_choice}
use Rattle.pws_protocol.specs.Actions.{Action, next_action}
use Rattle.pws_protocol.specs.Doing.{Reaction, did}
use Rattle.pws_protocol.specs.Reactions.{begun, settled_state, turns, is_last, tidied, then_did}
use Rattle.pws_protocol.specs.Laws.{Goes, none, more}
use Rattle.pws_protocol.proofs.Reacting.{react_is_met}
use Rattle.pws_voter_laws.specs.Rest.{left, left_in_view, places_left, acks_left, vote_left, texts_left, ActionsLeaveLess, ActionsAreFew, ReactionsRest}
use Rattle.pws_voter_laws.proofs.Choosing.{done_is_enabled}
use Rattle.pws_voter_laws.proofs.Keeping.{then_fits, begun_fits}
use Rattle.pws_voter_laws.proofs.Parts.{Whole, in_parts}
use Rattle.pws_voter_laws.proofs.Resting.{falls, left_few}

-- dropping texts changes nothing of what is left
left_tidied : (s : State) → left (tidied s) ≡ left s
unfolding left left_in_view places_left acks_left vote_left texts_left possible_choice counted acks_for ack_at tidied
left_tidied s = refl

then_state : (r : Reaction) (a : Action) → (then_did r a).state ≡ tidied (did r.state a).state
unfolding then_did
then_state r a = refl

-- what one action leaves
then_less : (asked : Counters) (r : Reaction) (a : Action) → Whole r.state → next_action r.state asked ≡ Some a → is_last a ≡ false → left (then_did r a).state < left r.state
then_less asked r a y h l =
    let f = falls r.state asked a y l (done_is_enabled r.state asked a h) in
    subst (λ (t : State). left t < left r.state) (sym (then_state r a)) (subst (λ n. n < left r.state) (sym (left_tidied (did r.state a).state)) f)

pub actions_leave_less : ActionsLeaveLess
actions_leave_less asked r a w h l = then_less asked r a (in_parts r.state w) h l

goes_few : (asked : Counters) (n : ℕ) (r : Reaction) → Whole r.state → Goes asked n r → n ≤ left r.state
goes_few asked zero r y (none x) = omega arith
goes_few asked (suc n) r y (more m x a h l g) =
    let k = goes_few asked n (then_did r a) (then_fits asked r a y h) g in
    let j = then_less asked r a y h l in
    omega (arith, k, j)

pub actions_are_few : ActionsAreFew
actions_are_few s asked input n f i g =
    let y = begun_fits s asked input (in_parts s f) i in
    let k = goes_few asked n (begun (settled_state s asked) asked input).reaction y g in
    let m = left_few (begun (settled_state s asked) asked input).reaction.state y in
    omega (arith, k, m)

pub reactions_rest : ReactionsRest
reactions_rest s asked input f i = elim (react_is_met s asked input) [
  | inl p ↦ p
  | inr g ↦ absurd (let k = actions_are_few s asked input turns f i g in omega (arith, k))
]

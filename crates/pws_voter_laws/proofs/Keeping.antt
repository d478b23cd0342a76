-- What fits is kept: by each action, by each input, by a whole reaction.
use Rattle.std.proofs.Common.{◌≡◌, ℕ, zero, suc, ◌+◌, ◌<◌, ◌≤◌, Bool, true, false, if◌then◌else◌, List, [], length, Option, Some, None, refl, sym, ◌∙◌, ap, subst, arith}
use Rattle.std.specs.Prelude.{slice_get, IfSome}
use Rattle.std.specs.List.{All}
use Rattle.std.specs.Option.{unwrap_or}
use Rattle.std.proofs.lemmas.Bool.{ltb-true}
use Rattle.pws_base.specs.declared.shapes.ReplicaId.{ReplicaId}
use Rattle.pws_base.specs.Shapes.{size_of_group}
use Rattle.pws_event.specs.Counters.{Counters}
use Rattle.pws_msg.specs.Rows.{IsDigest}
use Rattle.pws_protocol.specs.Evidence.{settled}
use Rattle.pws_protocol.specs.States.{State}
use Rattle.pws_protocol.specs.Hearing.{Vouched, SaidFields, heard}
use Rattle.pws_protocol.specs.Actions.{Action, next_action}
use Rattle.pws_protocol.specs.Actions as act
use Rattle.pws_protocol.specs.Doing.{Reaction, did}
use Rattle.pws_protocol.specs.Reactions.{Input, Said, Tick, Resume, settled_state, begun, then_did, is_last, turn, more_unless, acts, turns, react}
use Rattle.pws_protocol.specs.Fits.{IsSaid, IsVouched, IsAnother, IsInput}
use Rattle.pws_voter_laws.specs.Enabled.{IsEnabled}
use Rattle.pws_voter_laws.specs.Fitting.{SettlingKeepsFits, SettlingKeepsInputs, ActionsKeepFits, TurnsKeepFits, InputsKeepFits, ReactionsKeepFits}
use Rattle.pws_voter_laws.proofs.Accepting.{accept_fits}
use Rattle.pws_voter_laws.proofs.Acknowledging.{ack_fits}
use Rattle.pws_voter_laws.proofs.Asking.{need_fits}
use Rattle.pws_voter_laws.proofs.Checkpointing.{checkpoint_fits}
use Rattle.pws_voter_laws.proofs.Choosing.{done_is_enabled}
use Rattle.pws_voter_laws.proofs.Committing.{commit_fits}
use Rattle.pws_voter_laws.proofs.Entering.{enter_fits}
use Rattle.pws_voter_laws.proofs.Evidencing.{settled_fits}
use Rattle.pws_voter_laws.proofs.Executing.{execute_fits, adopt_fits}
use Rattle.pws_voter_laws.proofs.Fields.{tidied_fits}
use Rattle.pws_voter_laws.proofs.Found.{passing, same}
use Rattle.pws_voter_laws.proofs.Hearing.{IsFrom, packet_fits, after_fits}
use Rattle.pws_voter_laws.proofs.Lowering.{stable_fits}
use Rattle.pws_voter_laws.proofs.Moving.{move_fits}
use Rattle.pws_voter_laws.proofs.Offering.{chosen_digest, offer_fits}
use Rattle.pws_voter_laws.proofs.Parts.{Whole, in_parts, as_fits}
use Rattle.pws_voter_laws.proofs.Preparing.{prepare_fits}
use Rattle.pws_voter_laws.proofs.Proposing.{propose_fits}
use Rattle.pws_voter_laws.proofs.Tests.{ne_is, join_is, refuse_is, impatience_is, need_text_is}
use Rattle.pws_voter_laws.proofs.Ticking.{tick_fits}

-- each action
action_fits : (s : State) (asked : Counters) (a : Action) → Whole s → IsEnabled s asked a → Whole (did s a).state
unfolding did
action_fits s asked (act.Join w) f h =
    let x = join_is s w h.1 in
    let m = (f.heard x.0 x.1 x.2).2.view in
    move_fits s f w x.4 (subst (λ n. n ≤ 1000000) x.3 m) (ne_is s.me.f 0 h.0)
action_fits s asked act.Refuse f h = let v = (refuse_is s h.1).1 in move_fits s f (s.view + 1) (omega arith) (omega (arith, v)) (ne_is s.me.f 0 h.0)
action_fits s asked act.Impatience f h = let v = impatience_is s h.1 in move_fits s f (s.view + 1) (omega arith) (omega (arith, v)) (ne_is s.me.f 0 h.0)
action_fits s asked (act.Ack j) f h = ack_fits s asked j f h
action_fits s asked (act.NeedChosen d) f h = need_fits s d (chosen_digest s f d h.1) f
action_fits s asked (act.NeedText d) f h = let n = need_text_is s d h.1 in need_fits s d (subst IsDigest n.2 (f.slots (s.done + 1) n.0 n.1).3) f
action_fits s asked (act.Offer c) f h = offer_fits s asked c f h
action_fits s asked (act.Enter v) f h = enter_fits s asked v f h
action_fits s asked (act.Propose e) f h = propose_fits s asked e f h
action_fits s asked (act.Accept p) f h = accept_fits s asked p f h
action_fits s asked (act.Prepare p) f h = prepare_fits s asked p f h
action_fits s asked (act.Execute e) f h = execute_fits s asked e f h
action_fits s asked (act.Adopt e) f h = adopt_fits s asked e f h
action_fits s asked (act.Commit p) f h = commit_fits s asked p f h
action_fits s asked act.Checkpoint f h = checkpoint_fits s f h
action_fits s asked (act.Stable p) f h = stable_fits s asked p f h

pub actions_keep_fits : ActionsKeepFits
actions_keep_fits s asked a w h = as_fits (did s a).state (action_fits s asked a (in_parts s w) (done_is_enabled s asked a h))

-- the actions of a call
pub then_fits : (asked : Counters) (r : Reaction) (a : Action) → Whole r.state → next_action r.state asked ≡ Some a → Whole (then_did r a).state
unfolding then_did
then_fits asked r a f h = tidied_fits (did r.state a).state (action_fits r.state asked a f (done_is_enabled r.state asked a h))

pub turns_keep_fits : TurnsKeepFits
turns_keep_fits asked r a w h = as_fits (then_did r a).state (then_fits asked r a (in_parts r.state w) h)

by_last : (n : ℕ) (asked : Counters) (r : Reaction) (a : Action) (b : Bool) → Whole (then_did r a).state → ((t : Reaction) → Whole t.state → Whole (acts n asked t).state) → Whole (more_unless b (then_did r a) (λ t. acts n asked t)).state
by_last n asked r a true f more = f
by_last n asked r a false f more = more (then_did r a) f

by_turn : (n : ℕ) (asked : Counters) (r : Reaction) (o : Option Action) → next_action r.state asked ≡ o → Whole r.state → ((t : Reaction) → Whole t.state → Whole (acts n asked t).state) → Whole (turn o r (λ t. acts n asked t)).state
by_turn n asked r None h f more = f
by_turn n asked r (Some a) h f more = by_last n asked r a (is_last a) (then_fits asked r a f h) more

acts_fit : (n : ℕ) (asked : Counters) (r : Reaction) → Whole r.state → Whole (acts n asked r).state
unfolding acts
acts_fit zero asked r f = f
acts_fit (suc n) asked r f = by_turn n asked r (next_action r.state asked) refl f (λ t g. acts_fit n asked t g)

followed_fits : (n : ℕ) (asked : Counters) (b : Bool) (r : Reaction) → Whole r.state → Whole (if b then acts n asked r else r).state
followed_fits n asked true r f = acts_fit n asked r f
followed_fits n asked false r f = f

-- what an input brings before the actions
short_body : (o : Option (List ℕ)) → IfSome o (λ body. length body ≤ 32768) → length (unwrap_or o []) ≤ 32768
short_body None h = omega arith
short_body (Some body) h = h

from_group : (s : State) (r : ReplicaId) → Whole s → IsAnother s r → r.group ≡ s.me.group → IsFrom s.me r
from_group s r f a g =
    let p = passing _ (slice_get s.evidence.layout r.group) a.replica in
    let q : ◌≡◌ {A = Option ℕ} (Some p.0) (Some s.me.f) = sym p.1 ∙ (ap (slice_get s.evidence.layout) g ∙ f.who.2) in
    (subst (λ n. r.index < size_of_group n) (same p.0 s.me.f q) (ltb-true r.index (size_of_group p.0) p.2), λ e. a.other g e)

-- a packet is the same to a voter whose evidence was settled
vouched_later : (s : State) (asked : Counters) (hs : List Vouched) → All (IsVouched s) hs → All (IsVouched (settled_state s asked)) hs
unfolding settled_state settled
vouched_later s asked hs a k d l =
    let v = a k d l in
    record { content = v.content; tags = v.tags; sender = λ e. let r = v.sender e in record { replica = r.replica; other = r.other } }

from_later : (s : State) (asked : Counters) (r : ReplicaId) → IsFrom s.me r → IsFrom (settled_state s asked).me r
unfolding settled_state
from_later s asked r h = h

packet : (s : State) (asked : Counters) (x : SaidFields) → Whole s → IsSaid s x → Whole (heard (settled_state s asked) asked x).state
packet s asked x f i =
    packet_fits (settled_state s asked) asked x (settled_fits s asked f) i.content i.tags (λ o. from_later s asked x.sender (from_group s x.sender f i.sender (i.inside o))) (short_body x.body i.body) (vouched_later s asked x.vouchers i.vouchers)

pub begun_fits : (s : State) (asked : Counters) (input : Input) → Whole s → IsInput s input → Whole (begun (settled_state s asked) asked input).reaction.state
begun_fits s asked (Said x) f g = after_fits (heard (settled_state s asked) asked x) (packet s asked x f g)
begun_fits s asked (Tick own) f g = tick_fits (settled_state s asked) asked own (settled_fits s asked f) g
begun_fits s asked Resume f g = settled_fits s asked f

reaction_fits : (s : State) (asked : Counters) (input : Input) → Whole s → IsInput s input → Whole (react s asked input).state
unfolding react
reaction_fits s asked input f g =
    let b = begun (settled_state s asked) asked input in
    followed_fits turns asked b.goes_on b.reaction (begun_fits s asked input f g)

pub settling_keeps_fits : SettlingKeepsFits
settling_keeps_fits s asked f = as_fits (settled_state s asked) (settled_fits s asked (in_parts s f))

another_later : (s : State) (asked : Counters) (r : ReplicaId) → IsAnother s r → IsAnother (settled_state s asked) r
unfolding settled_state settled
another_later s asked r a = record { replica = a.replica; other = a.other }

outside_later : (s : State) (asked : Counters) (x : SaidFields) → IsSaid s x → IsSaid (settled_state s asked) x
unfolding settled_state
outside_later s asked x i = record {
  sender = another_later s asked x.sender i.sender;
  content = i.content;
  tags = i.tags;
  body = i.body;
  outside = i.outside;
  inside = i.inside;
  vouchers = vouched_later s asked x.vouchers i.vouchers;
}

pub settling_keeps_inputs : SettlingKeepsInputs
settling_keeps_inputs s asked (Said x) i = outside_later s asked x i
settling_keeps_inputs s asked (Tick own) i = i
settling_keeps_inputs s asked Resume i = i

pub inputs_keep_fits : InputsKeepFits
inputs_keep_fits s asked input w g = as_fits (begun (settled_state s asked) asked input).reaction.state (begun_fits s asked input (in_parts s w) g)

pub reactions_keep_fits : ReactionsKeepFits
reactions_keep_fits s asked input w g = as_fits (react s asked input).state (reaction_fits s asked input (in_parts s w) g)

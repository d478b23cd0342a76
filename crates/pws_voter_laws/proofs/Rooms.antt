-- Why each action has room, and what a tick says again.
use Rattle.std.proofs.Common.{◌≡◌, ℕ, ◌+◌, ◌<◌, ◌≤◌, Option, Some, None, All, refl, subst, arith}
use Rattle.std.specs.Prelude.{IfSome}
use Rattle.std.specs.FinMap.{get}
use Rattle.pws_event.specs.Counters.{Counters}
use Rattle.pws_msg.specs.declared.changes.Choice.{Choice}
use Rattle.pws_msg.specs.declared.changes.NewView.{NewView}
use Rattle.pws_msg.specs.declared.contents.Content.TheVariants as content
use Rattle.pws_msg.specs.Contents.{IsContent}
use Rattle.pws_msg.specs.Reported.{IsNewView}
use Rattle.pws_msg.specs.Rows.{IsDigest}
use Rattle.pws_change.specs.Choices.{last_of}
use Rattle.pws_votes.specs.declared.kinds.VoteKind.TheVariants as kind
use Rattle.pws_votes.specs.Votes.{key}
use Rattle.pws_protocol.specs.States.{State}
use Rattle.pws_protocol.specs.Actions.{Action}
use Rattle.pws_protocol.specs.Actions as act
use Rattle.pws_protocol.specs.Doing.{noted, left_view, own_change, with_offer}
use Rattle.pws_voter_laws.specs.Enabled.{IsEnabled}
use Rattle.pws_voter_laws.specs.Room.{IsOpenPlace, CanMove, CanRelay, IsTaken, HasRoom, CanRepeat, ActionsHaveRoom, TicksHaveRoom}
use Rattle.pws_voter_laws.proofs.Choosing.{done_is_enabled}
use Rattle.pws_voter_laws.proofs.Entering.{taken_in, taken_fine, entered_told, entered_last}
use Rattle.pws_voter_laws.proofs.Fields.{row_of}
use Rattle.pws_voter_laws.proofs.Moving.{in_range}
use Rattle.pws_voter_laws.proofs.Offering.{chosen_digest, in_range_offer, offered, offer_last}
use Rattle.pws_voter_laws.proofs.Parts.{IsPlace, place_inside, Whole, in_parts, as_fits}
use Rattle.pws_voter_laws.proofs.Proposing.{candidate_in_range, group_below}
use Rattle.pws_voter_laws.proofs.Tests.{ne_is, join_is, refuse_is, impatience_is, ack_is_open, need_text_is, offer_is, enter_is, propose_is_open, accept_is_open, prepare_is_open, execute_is_open, adopt_is_open, commit_is_open, checkpoint_is_open, stable_is_open}
use Rattle.pws_voter_laws.proofs.Ticking.{own_fits, ticked_fits}

-- a place of the window may be named
open_place : (s : State) (p : ℕ) → IsPlace s.low p → IsOpenPlace s p
open_place s p i = record { from = (let a = i.0 in omega (arith, a)); to = i.2; inside = place_inside s.low p i }

move_room : (s : State) (w : ℕ) → Whole s → s.view < w → w ≤ 1000000 → CanMove s w
unfolding left_view noted own_change
move_room s w f later few = record {
  view = few;
  moves = (let m = f.numbers.2 in omega (arith, m, later, few));
  change = in_range s f w later few;
}

relay_room : (s : State) → Whole s → CanRelay s
relay_room s f = (let g = as_fits s f in record {
  view = f.numbers.0;
  group = (let l = group_below s.evidence.layout s.me.group s.me.f f.who.2 in let m = f.who.4 in omega (arith, l, m));
  index = λ j c h. (let a = (f.relayed j c h).0 in let b = f.who.1 in omega (arith, a, b));
  digest = g.digests.relayed;
  tags = g.tags.relayed;
  change = λ j c h. (f.relayed j c h).2;
})

taken_room : (s : State) (c : Choice) → last_of c ≤ 1000000 → All IsDigest c.chosen → IsTaken s c
taken_room s c few long = record {
  last = few;
  places = λ x k. (let i = taken_in s c x k in let l = i.1 in open_place s x.0 (i.0.0, i.0.1, omega (arith, l, few)));
  digests = λ x k. (taken_fine s c few long x k).1;
}

action_room : (s : State) (asked : Counters) (a : Action) → Whole s → IsEnabled s asked a → HasRoom s a
action_room s asked (act.Join w) f h =
    let x = join_is s w h.1 in
    let m = (f.heard x.0 x.1 x.2).2.view in
    move_room s w f x.4 (subst (λ n. n ≤ 1000000) x.3 m)
action_room s asked act.Refuse f h = let v = (refuse_is s h.1).1 in move_room s (s.view + 1) f (omega arith) (omega (arith, v))
action_room s asked act.Impatience f h = let v = impatience_is s h.1 in move_room s (s.view + 1) f (omega arith) (omega (arith, v))
action_room s asked (act.Ack j) f h =
    let o = ack_is_open s j h.1 in
    let a = o.1 in
    let b = f.who.1 in
    record { view = f.numbers.0; index = omega (arith, a, b); digest = λ c g. (as_fits s f).digests.heard j c g }
action_room s asked (act.NeedChosen d) f h = chosen_digest s f d h.1
action_room s asked (act.NeedText d) f h = let n = need_text_is s d h.1 in subst IsDigest n.2 (f.slots (s.done + 1) n.0 n.1).3
action_room s asked (act.Offer c) f h =
    let may = offer_is s c h.1 in
    let new = in_range_offer s f c may in
    record { offer = new; relays = relay_room (with_offer s c) (offered s f c may (ne_is s.me.f 0 h.0)); taken = taken_room s c (offer_last s f c may) new.chosen }
action_room s asked (act.Enter v) f h = taken_room s v.choice (entered_last s f v h) (entered_told s f v (enter_is s v h).1).chosen
action_room s asked (act.Propose e) f h =
    let o = propose_is_open s asked e h in
    record { view = f.numbers.0; place = open_place s _ (o.2.0, o.2.1, o.3); event = candidate_in_range s asked e f o.5 }
action_room s asked (act.Accept p) f h = let o = accept_is_open s p h in open_place s p (f.pending p o.2.0 o.2.1).0
action_room s asked (act.Prepare p) f h = let o = prepare_is_open s p h in open_place s p (f.slots p o.2.0 o.2.1).0
action_room s asked (act.Execute e) f h = let o = execute_is_open s e h in let x = (f.slots (s.done + 1) o.0 o.1).0.2 in omega (arith, x)
action_room s asked (act.Adopt e) f h = let o = adopt_is_open s e h in (f.dones o.1.0 e o.1.1).1
action_room s asked (act.Commit p) f h = let o = commit_is_open s p h in open_place s p (f.slots p o.2.0 o.2.1).0
action_room s asked act.Checkpoint f h = let o = (checkpoint_is_open s h).0 in omega (arith, o)
action_room s asked (act.Stable p) f h =
    let o = stable_is_open s p h in
    let a = o.0 in
    let b = o.1 in
    let c = f.numbers.1 in
    let d = f.book.1 in
    record { from = omega (arith, a); book = omega (arith, a, d); to = omega (arith, b, c) }

pub actions_have_room : ActionsHaveRoom
actions_have_room s asked a f h = action_room s asked a (in_parts s f) (done_is_enabled s asked a h)

new_view_room : (view : ℕ) (o : Option NewView) → IfSome o (λ v. (v.view ≡ view) × IsContent (content.NewView v)) → IfSome o IsNewView
new_view_room view None h = tt
new_view_room view (Some v) h = h.1

repeat_room : (s : State) → Whole s → CanRepeat s
repeat_room s f = (let g = as_fits s f in record {
  view = f.numbers.0;
  change = λ c h. (f.heard s.me.index c h).2;
  acks = row_of s f s.me.index (get s.acks s.me.index) refl;
  new_view = new_view_room s.view s.new_view f.new_view;
  relays = relay_room s f;
  places = λ p t h. open_place s p (f.slots p t h).0;
  slots = g.digests.slots;
  low = ((let a = f.low.0 in let b = f.numbers.1 in omega (arith, a, b)), g.digests.chains s.low);
  checkpoints = λ p d h. (open_place s p (g.votes.place (key kind.Checkpoint p s.me.index) d h), g.digests.votes (key kind.Checkpoint p s.me.index) d h, f.own_votes p d h);
})

pub ticks_have_room : TicksHaveRoom
ticks_have_room s asked own f i = repeat_room _ (ticked_fits _ asked (own_fits asked own s i (in_parts s f)))

-- A replica's step: what it does with an input; this project's own.
use Rattle.std.specs.Prelude.{ℕ, zero, suc, ◌%◌, ◌==◌, ◌&&◌, ◌++◌, not, Bool, true, false, nat_le, if◌then◌else◌, List, [], ◌∷◌, length, drop, slice_get, Option, Some, None, option_to_list, Result, Ok, Err}
use Rattle.std.specs.List.{fold, filter_map, flat_map}
use Rattle.std.specs.Option.{option_map_or, option_map, option_and_then}
use Rattle.std.specs.FinMap.{retain_keys}
use Rattle.std.specs.FinSet as set
use Rattle.pws_base.specs.declared.shapes.ReplicaId.{ReplicaId}
use Rattle.pws_event.specs.declared.events.Event.{Event}
use Rattle.pws_event.specs.Effects.{last_of, low_of, waits, waiting_ask}
use Rattle.pws_event.specs.declared.readings.Sort.{Sort}
use Rattle.pws_event.specs.Lists.{placed, would_pass, event_at, chain_at}
use Rattle.pws_event.specs.Counters.{Counters}
use Rattle.pws_service.specs.declared.acts.Act.{Act}
use Rattle.pws_service.specs.declared.acts.Act.TheVariants as act
use Rattle.pws_service.specs.declared.keys.Key.{Key}
use Rattle.pws_service.specs.Effects.{noted, takes_effect_after}
use Rattle.pws_msg.specs.Statements.{OwnReadingFields}
use Rattle.pws_msg.specs.Packets.{VoucherFields}
use Rattle.pws_msg.specs.declared.contents.Content.{Content}
use Rattle.pws_msg.specs.declared.contents.Content.TheVariants as content
use Rattle.pws_votes.specs.declared.kinds.Vote.{Vote}
use Rattle.pws_votes.specs.declared.kinds.Vote.TheVariants as vote
use Rattle.pws_protocol.specs.Hearing.{Out, SaidFields}
use Rattle.pws_protocol.specs.Hearing as out
use Rattle.pws_protocol.specs.Doing.{Reaction}
use Rattle.pws_protocol.specs.Reactions.{react}
use Rattle.pws_protocol.specs.Reactions as heard
use Rattle.pws_runs.specs.declared.errors.OpenError.{OpenError}
use Rattle.pws_runs.specs.declared.errors.Ignored.TheVariants as ignored
use Rattle.pws_runs.specs.Opening.{Checked, opens}
use Rattle.pws_runs.specs.ReplicaStates.{ReplicaState, Input, Bytes, Opened, Tick, Output, Executed, Acted, PassedOver, Run, Serve, call_key}
use Rattle.pws_event.specs.Determined.{counters_of}
use Rattle.pws_runs.specs.Calls.{kept_reply, own_effects}
use Rattle.pws_runs.specs.Packets.{to_group, to_one, to_own, reply_out, is_responder, part_out}
use Rattle.pws_runs.specs.Bundles.{Stepped, bundled, heard_part}
use Rattle.pws_runs.specs.Ticks.{Ticked, ticked}

-- more is put out
abbrev pub put : Run → List Output → Run
put r outs = record r { outs = r.outs ++ outs }

-- a state is reached, and more is put out
abbrev pub at_state : Run → Stepped → Run
at_state r x = record r { state = x.state; outs = r.outs ++ x.outs }

-- ---- acts of the service

-- a reply: the responder may send the bundle, but for none whose number is below low_in; another replica sends its PART
abbrev pub replied : Serve → Run → Key → List ℕ → Run
replied serve r k body =
    if is_responder r.state k
    then at_state r (bundled r.state k (kept_reply (serve r.effects) r.effects k))
    else put r (part_out r.state k body ∷ [])

-- the packets of an act
abbrev pub act_sent : Serve → Run → Act → Run
act_sent serve r (act.Call called number low body timeout) =
    put r (to_group r.state called (content.Request (record { number = number; low = low; body = body })) [] ∷ [])
act_sent serve r (act.Reply caller number body) = replied serve r (call_key caller number) body
act_sent serve r (act.AskClock ask) = r
act_sent serve r (act.AskRandom ask) = r
act_sent serve r act.Halted = r

-- one act is told, and its packets are sent
abbrev pub act_done : Serve → Run → Act → Run
act_done serve r a = act_sent serve (put r (Acted a ∷ [])) a

-- acts in order
unfoldable pub acts_done : Serve → Run → List Act → Run
acts_done serve r acts = fold (act_done serve) r acts

-- the first input starts the service, which acts on no effect
unfoldable pub started : Serve → Run → Run
started serve r = if r.state.started then r else acts_done serve (record r { state = record r.state { started = true } }) (serve [])

-- ---- executed events

-- an event that the voter executes, and its place
pub record Execution : Type 0 where
  pub place : ℕ
  pub event : Event

-- whether an event, pushed onto the list, is kept whole and takes effect
unfoldable pub takes : Serve → Run → Event → Bool
takes serve r e = not (would_pass r.state.places e) && takes_effect_after r.state.me.group r.state.keys.layout (serve r.effects) r.effects e

-- a reading is held while its ask waits
abbrev held_reading : Option (ℕ × Sort) → OwnReadingFields → Option OwnReadingFields
held_reading asked x = if option_map_or (λ w. w.0 == x.ask) asked false then Some x else None

-- what is held of calls and of an ask that wait no longer, and of requests below low_in, is dropped
unfoldable pub settled_state : ReplicaState → List Act → List Event → ReplicaState
settled_state s acts effects = record s {
  first_ticks = retain_keys s.first_ticks (λ k. waits (noted acts) effects k.group k.number);
  expired = set.retain s.expired (λ k. waits (noted acts) effects k.group k.number);
  reading = option_and_then (held_reading (waiting_ask (noted acts) effects)) s.reading;
  bundles = retain_keys s.bundles (λ k. nat_le (low_of k.group effects) k.number);
}

-- the event gets the next place of the list
abbrev pub placed_state : ReplicaState → Event → ReplicaState
placed_state s e = record s { places = s.places ++ placed s.places e ∷ [] }

-- an event that is void keeps its place and changes nothing else
abbrev pub void_at : Run → Execution → Run
void_at r x = put (record r { state = placed_state r.state x.event }) (Executed x.place x.event false ∷ [])

-- one that takes effect brings the acts on the longer list without those on the shorter
abbrev pub with_effect : Serve → Run → Execution → List Event → Run
with_effect serve r x effects =
    acts_done serve (record {
      state = settled_state (placed_state r.state x.event) (serve effects) effects;
      effects = effects;
      outs = r.outs ++ Executed x.place x.event true ∷ [];
    }) (drop (length (serve r.effects)) (serve effects))

-- an executed event is pushed onto the list
unfoldable pub pushed : Serve → Run → Execution → Run
pushed serve r x = if takes serve r x.event then with_effect serve r x (r.effects ++ x.event ∷ []) else void_at r x

-- ---- the voter

-- the counters as they are now
abbrev pub asked : Serve → Run → Counters
asked serve r = counters_of r.state.me.group r.state.keys.layout (record { acts = noted (serve r.effects); effects = r.effects })

-- what the voter does with an input
abbrev pub reaction : Serve → Run → heard.Input → Reaction
reaction serve r i = react r.state.voter (asked serve r) i

-- what is told of an input that wasn't kept
abbrev pub ignored_as : Vote → List Output
ignored_as vote.Kept = []
ignored_as vote.Outside = PassedOver ignored.Outside ∷ []
ignored_as vote.Already = PassedOver ignored.Already ∷ []

-- my kept reply, to the replica that asked for it
abbrev pub answered : ReplicaState → Key → ℕ → Option (List ℕ) → List Output
answered s k index None = PassedOver ignored.Outside ∷ []
answered s k index (Some body) = reply_out s k body (Some index) [] ∷ []

-- a request with a number from low_in to last, made again, is answered again
abbrev made_again : Serve → Run → Key → ℕ → List Output
made_again serve r k index =
    if nat_le (low_of k.group r.effects) k.number && nat_le k.number (last_of k.group r.effects)
    then answered r.state k index (kept_reply (serve r.effects) r.effects k)
    else PassedOver ignored.Outside ∷ []

-- what is put out for a content that the voter didn't keep
abbrev pub unkept_said : Serve → Run → ReplicaId → Content → Vote → List Output
unkept_said serve r sender (content.Request q) vote.Outside = made_again serve r (call_key sender.group q.number) sender.index
unkept_said serve r sender c why = ignored_as why

-- only a packet has contents that may not be kept
abbrev pub unkept : Serve → Run → heard.Input → Vote → List Output
unkept serve r (heard.Said x) why = unkept_said serve r x.sender x.content why
unkept serve r (heard.Tick own) why = ignored_as why
unkept serve r heard.Resume why = ignored_as why

-- what the voter puts out, as outputs of the replica; an execution follows
abbrev pub voter_out : Serve → Run → heard.Input → Out → List Output
voter_out serve r i (out.Send c vouchers) = to_own r.state c vouchers
voter_out serve r i (out.Execute place e) = []
voter_out serve r i (out.Unkept why) = unkept serve r i why

-- one call of the voter
unfoldable pub voted : Serve → Run → heard.Input → Run
voted serve r i = record r {
  state = record r.state { voter = (reaction serve r i).state };
  outs = r.outs ++ flat_map (voter_out serve r i) (reaction serve r i).outs;
}

-- the execution that an output of the voter is, if it is one
abbrev pub execution_of : Out → Option Execution
execution_of (out.Send c vouchers) = None
execution_of (out.Execute place e) = Some (record { place = place; event = e })
execution_of (out.Unkept why) = None

-- the execution with which a call of the voter ends, if any
abbrev pub execution_in : List Out → Option Execution
execution_in outs = slice_get (filter_map execution_of outs) 0

-- where there is an execution more is done
abbrev pub after_execution : Option Execution → Run → (Execution → Run) → Run
after_execution None r more = r
after_execution (Some x) r more = more x

-- the voter is called; after an execution the event is pushed and the voter resumes; at most so many times
unfoldable pub turns : Serve → ℕ → Run → heard.Input → Run
turns serve zero r i = r
turns serve (suc n) r i =
    after_execution (execution_in (reaction serve r i).outs) (voted serve r i) (λ x. turns serve n (pushed serve (voted serve r i) x) heard.Resume)

-- more than enough: each turn but the last takes one of the 1,000,000 places
abbrev pub most_turns : ℕ
most_turns = 1000001

-- ---- inputs

-- CHECKPOINT of a place, to the asker
abbrev checkpoint_out : ReplicaState → ℕ → ℕ → List ℕ → Output
checkpoint_out s index place chain = to_one s s.me.group index (content.Checkpoint (record { place = place; digest = chain })) []

-- DONE of a whole event, to the asker, and at a multiple of 16 CHECKPOINT
abbrev pub done_outs : ReplicaState → ℕ → ℕ → Option Event → List Output
done_outs s index place None = PassedOver ignored.Outside ∷ []
done_outs s index place (Some e) =
    to_one s s.me.group index (content.Done (record { place = place; event = e })) []
    ∷ (if place % 16 == 0 then option_to_list (option_map (checkpoint_out s index place) (chain_at s.places place)) else [])

-- FETCH of a place is answered
unfoldable pub fetched : ReplicaState → ℕ → ℕ → List Output
fetched s index place = done_outs s index place (event_at s.places place)

-- PART is a matter of the bundle
abbrev pub parted : Serve → Run → ℕ → Key → List ℕ → Option VoucherFields → Run
parted serve r index k digest None = r
parted serve r index k digest (Some v) = at_state r (heard_part r.state (serve r.effects) r.effects index k (record { digest = digest; voucher = v }))

-- an opened packet as the voter hears it
abbrev pub said_of : Checked → SaidFields
said_of c = record { sender = c.packet.sender; content = c.packet.content; body = c.packet.body; tags = c.packet.tags; vouchers = c.vouchers }

-- everything else goes to the voter
abbrev to_voter : Serve → Run → Checked → Run
to_voter serve r c = turns serve most_turns r (heard.Said (said_of c))

-- what was opened, by its kind
abbrev pub opened_by : Serve → Run → Checked → Content → Run
opened_by serve r c (content.Fetch w) = put r (fetched r.state c.packet.sender.index w.place)
opened_by serve r c (content.Part x) = parted serve r c.packet.sender.index (call_key x.caller x.number) x.digest (slice_get c.packet.vouchers 0)
opened_by serve r c _ = to_voter serve r c

-- the same, by the content of its packet
abbrev pub opened : Serve → Run → Checked → Run
opened serve r c = opened_by serve r c c.packet.content

-- bytes that aren't opened change nothing
abbrev pub if_opened : Serve → Run → Result Checked OpenError → Run
if_opened serve r (Err e) = put r (PassedOver (ignored.Unopened e) ∷ [])
if_opened serve r (Ok c) = opened serve r c

-- what a tick does before the voter's
abbrev pub tick_of : Serve → Run → ℕ → List ℕ → Ticked
tick_of serve r ms random = ticked r.state ms random (serve r.effects) r.effects

-- its sends are put out
abbrev pub tick_sent : Run → Ticked → Run
tick_sent r t = record r { state = t.state; outs = r.outs ++ t.outs }

-- then the voter's tick follows
abbrev ticked_on : Serve → Run → Ticked → Run
ticked_on serve r t = turns serve most_turns (tick_sent r t) (heard.Tick t.own)

-- an input, once the service is started
abbrev pub handled : Serve → Run → Input → Run
handled serve r (Bytes bytes) = if_opened serve r (opens r.state.keys r.state.me bytes)
handled serve r (Opened c) = opened serve r c
handled serve r (Tick ms random) = ticked_on serve r (tick_of serve r ms random)

-- ---- the step

-- a replica before a step
abbrev pub run_from : ReplicaState → List Event → Run
run_from s effects = record { state = s; effects = effects; outs = [] }

-- the step of a replica whose list has these effects so far
unfoldable pub step_with : Serve → List Event → ReplicaState → Input → Run
step_with serve effects s i = handled serve (started serve (run_from s effects)) i

-- the step, where the effects are those of the replica's own list
abbrev pub step : Serve → ReplicaState → Input → Run
step serve s i = step_with serve (own_effects serve s) s i

-- What a replica knows of calls. Nothing of it is stored: it is a function of the acts of the service and of the effects;
-- this project's own.
use Rattle.std.specs.Prelude.{ℕ, ◌-◌, ◌==◌, ◌&&◌, nat_le, Bool, false, if◌then◌else◌, List, filter, take, slice_get, Option, Some, None}
use Rattle.std.specs.List.{filter_map, flat_map, range_with_len}
use Rattle.std.specs.Option.{option_map_or}
use Rattle.pws_event.specs.declared.events.Event.{Event}
use Rattle.pws_event.specs.Effects.{low_of, waits}
use Rattle.pws_event.specs.Lists.{PlacedEvent, effects_in, event_at}
use Rattle.pws_service.specs.declared.acts.Act.{Act}
use Rattle.pws_service.specs.declared.acts.Act.TheVariants as act
use Rattle.pws_service.specs.declared.keys.Key.{Key}
use Rattle.pws_service.specs.Effects.{noted, takes_effect_after}
use Rattle.pws_runs.specs.ReplicaStates.{ReplicaState, Serve}

-- the effects of an event list: each event is decided by those before it
abbrev pub effects_at : Serve → ℕ → List ℕ → List PlacedEvent → List Event
effects_at serve group layout places = effects_in group layout (λ effects. noted (serve effects)) places

-- the effects of a replica's own list
abbrev pub own_effects : Serve → ReplicaState → List Event
own_effects serve s = effects_at serve s.me.group s.keys.layout s.places

-- whether the event at a place took effect, by the places before it; a bare place never does
unfoldable pub took_effect : Serve → ℕ → List ℕ → List PlacedEvent → ℕ → Bool
took_effect serve group layout places place =
    let before = effects_at serve group layout (take (place - 1) places) in
    option_map_or (takes_effect_after group layout (serve before) before) (event_at places place) false

-- ---- calls that wait

-- a call as the service made it
pub record CallFields : Type 0 where
  pub called : ℕ
  pub number : ℕ
  pub low : ℕ
  pub body : List ℕ
  pub timeout : ℕ

-- the call that an act is, if it is one
abbrev pub call_made : Act → Option CallFields
call_made (act.Call called number low body timeout) = Some (record { called = called; number = number; low = low; body = body; timeout = timeout })
call_made _ = None

-- the sixteen groups that there can be
abbrev pub groups : List ℕ
groups = range_with_len 0 16

-- the calls to a group that wait, in the order of the acts
abbrev waiting_to : List Act → List Event → ℕ → List CallFields
waiting_to acts effects group = filter (λ c. c.called == group && waits (noted acts) effects c.called c.number) (filter_map call_made acts)

-- all calls that wait, by group and number
unfoldable pub waiting_calls : List Act → List Event → List CallFields
waiting_calls acts effects = flat_map (waiting_to acts effects) groups

-- ---- replies that are kept

-- the body of the reply to a request, if an act is that reply
abbrev pub reply_in : Key → Act → Option (List ℕ)
reply_in k (act.Reply caller number body) = if caller == k.group && number == k.number then Some body else None
reply_in k _ = None

-- the body of my reply to a request, kept while its number isn't below the caller's low number
unfoldable pub kept_reply : List Act → List Event → Key → Option (List ℕ)
kept_reply acts effects k = if nat_le (low_of k.group effects) k.number then slice_get (filter_map (reply_in k) acts) 0 else None

-- What a tick does before its voter's: calls are made again, timeouts and readings are told; this project's own rules.
use Rattle.std.specs.Prelude.{ℕ, ◌+◌, ◌==◌, ◌||◌, ◌&&◌, ◌++◌, not, Bool, nat_le, if◌then◌else◌, List, [], map, filter, Option, Some, None, option_to_list}
use Rattle.std.specs.List.{fold, flat_map}
use Rattle.std.specs.Option.{option_map, unwrap_or}
use Rattle.std.specs.FinMap.{get, contains_key, insert}
use Rattle.std.specs.FinSet as set
use Rattle.pws_event.specs.declared.events.Event.{Event}
use Rattle.pws_event.specs.declared.readings.Sort.{Sort}
use Rattle.pws_event.specs.declared.readings.Sort.TheVariants as sort
use Rattle.pws_event.specs.Effects.{waiting_ask}
use Rattle.pws_service.specs.declared.acts.Act.{Act}
use Rattle.pws_service.specs.declared.keys.Key.{Key}
use Rattle.pws_service.specs.Effects.{noted}
use Rattle.pws_msg.specs.Statements.{OwnReadingFields}
use Rattle.pws_msg.specs.declared.readings.ReadingValue.{ReadingValue}
use Rattle.pws_msg.specs.declared.readings.ReadingValue.TheVariants as value
use Rattle.pws_msg.specs.declared.contents.Content.{Content}
use Rattle.pws_msg.specs.declared.contents.Content.TheVariants as content
use Rattle.pws_runs.specs.ReplicaStates.{ReplicaState, Output, call_key}
use Rattle.pws_runs.specs.Calls.{CallFields, waiting_calls}
use Rattle.pws_runs.specs.Packets.{to_group, to_own}

-- by what a call is known
abbrev pub key_of : CallFields → Key
key_of c = call_key c.called c.number

-- a call's REQ, to the whole called group
abbrev request_out : ReplicaState → CallFields → Output
request_out s c = to_group s c.called (content.Request (record { number = c.number; low = c.low; body = c.body })) []

-- a call that no tick found before is found by this one
abbrev pub found_at : ℕ → ReplicaState → CallFields → ReplicaState
found_at ms s c = if contains_key s.first_ticks (key_of c) then s else record s { first_ticks = insert s.first_ticks (key_of c) ms }

-- whether a call is over: it expired before, or its timeout isn't 0 and has passed since the first tick that found it
abbrev is_over : ReplicaState → ℕ → CallFields → Bool
is_over s ms c = set.contains s.expired (key_of c) || (not (c.timeout == 0) && nat_le (unwrap_or (get s.first_ticks (key_of c)) ms + c.timeout) ms)

-- it expired
abbrev pub with_expired : ReplicaState → CallFields → ReplicaState
with_expired s c = record s { expired = set.insert s.expired (key_of c) }

-- what is read for an ask of this sort: the ms of the tick, or its random bytes as a share
abbrev pub value_of : Sort → ℕ → List ℕ → ReadingValue
value_of sort.Clock ms random = value.Time ms
value_of sort.Random ms random = value.Share random

-- a reading for an ask stays that of the first tick which found it
abbrev pub reading_at : ℕ → List ℕ → Option OwnReadingFields → ℕ × Sort → OwnReadingFields
reading_at ms random None ask = record { ask = ask.0; value = value_of ask.1 ms random }
reading_at ms random (Some r) ask = if r.ask == ask.0 then r else record { ask = ask.0; value = value_of ask.1 ms random }

-- my reading, if an ask waits
abbrev own_reading : ReplicaState → ℕ → List ℕ → List Act → List Event → Option OwnReadingFields
own_reading s ms random acts effects = option_map (reading_at ms random s.reading) (waiting_ask (noted acts) effects)

-- the calls that are over, among those that wait
abbrev pub over : ReplicaState → ℕ → List CallFields → List CallFields
over s ms calls = filter (is_over s ms) calls

-- EXPIRED for each call that is over, then READING for the waiting ask
abbrev pub own_statements : List CallFields → Option OwnReadingFields → List Content
own_statements over reading =
    map (λ c. content.Expired (record { called = c.called; number = c.number })) over
    ++ map (λ r. content.Reading r) (option_to_list reading)

-- the state after a tick, what is sent, and what the voter hears as its own
pub record Ticked : Type 0 where
  pub state : ReplicaState
  pub outs : List Output
  pub own : List Content

-- REQ of each waiting call, then what is told to the own group
abbrev ticked_with : ReplicaState → List CallFields → List CallFields → Option OwnReadingFields → Ticked
ticked_with s calls over reading = record {
  state = record (fold with_expired s over) { reading = reading };
  outs = map (request_out s) calls ++ flat_map (λ c. to_own s c []) (own_statements over reading);
  own = own_statements over reading;
}

-- the waiting calls are found
abbrev pub found_by : ReplicaState → ℕ → List CallFields → ReplicaState
found_by s ms calls = fold (found_at ms) s calls

-- each waiting call is made again; then what expired, and the reading, is told
unfoldable pub ticked : ReplicaState → ℕ → List ℕ → List Act → List Event → Ticked
ticked s ms random acts effects =
    let calls = waiting_calls acts effects in
    let t = found_by s ms calls in
    ticked_with t calls (over t ms calls) (own_reading t ms random acts effects)

-- Which events of a list take effect in a group, given what its service called and asked; this project's own rule.
use Rattle.std.specs.Prelude.{ℕ, ◌+◌, ◌==◌, ◌&&◌, not, max, Bool, true, false, nat_lt, nat_le, if◌then◌else◌, List, [], ◌∷◌, ◌++◌, slice_get, count_by, find, Option}
use Rattle.std.specs.List.{fold, list_any, range_with_len}
use Rattle.std.specs.Option.{option_map, option_map_or, unwrap_or}
use Rattle.pws_base.specs.Limits.{call_window}
use Rattle.pws_base.specs.Replicas.{is_other}
use Rattle.pws_event.specs.Requests.{RequestFields}
use Rattle.pws_event.specs.Times.{agreed_time}
use Rattle.pws_event.specs.declared.readings.Sort.{Sort}
use Rattle.pws_event.specs.declared.readings.Sort.TheVariants as sort
use Rattle.pws_event.specs.declared.events.Event.{Event}
use Rattle.pws_event.specs.declared.events.Event.TheVariants as event

-- a call of the service: the group that it calls, and the number of the call among those to that group
pub record Call : Type 0 where
  pub called : ℕ
  pub number : ℕ

-- what the service called and asked so far, each in order
pub record Acts : Type 0 where
  pub calls : List Call
  pub asks : List Sort

-- it called and asked nothing
abbrev pub no_acts : Acts
no_acts = record { calls = []; asks = [] }

-- a field of the caller's last request after one more event
abbrev pub field_after : (RequestFields → ℕ) → ℕ → ℕ → Event → ℕ
field_after field caller value (event.Request r) = if r.caller == caller then field r else value
field_after field caller value _ = value

-- a field of the caller's last request among these effects, or what it is before the first
abbrev pub latest : (RequestFields → ℕ) → ℕ → ℕ → List Event → ℕ
latest field caller first before = fold (field_after field caller) first before

-- the number of the caller's last request among these effects, 0 before the first
abbrev pub last_of : ℕ → List Event → ℕ
last_of caller before = latest (λ r. r.number) caller 0 before

-- the low number of the caller's last request among these effects, 1 before the first
abbrev pub low_of : ℕ → List Event → ℕ
low_of caller before = latest (λ r. r.low) caller 1 before

-- whether a request takes effect after a caller's last number and low number: its caller is another group of the
-- layout, its number is the next, its low number doesn't fall and isn't above its number, and its number is among
-- the sixteen from the low number on
abbrev pub is_next : ℕ → List ℕ → ℕ → ℕ → RequestFields → Bool
is_next me layout last low r =
    is_other me layout r.caller
    && r.number == last + 1
    && nat_le low r.low
    && nat_le r.low r.number
    && nat_lt r.number (r.low + call_window)

-- whether it is the call of this number to this group
abbrev pub is_call : ℕ → ℕ → Call → Bool
is_call called number c = c.called == called && c.number == number

-- whether an event is an answer to this call: its reply, or its abort
abbrev pub answers : ℕ → ℕ → Event → Bool
answers called number (event.Reply r) = r.called == called && r.number == number
answers called number (event.Abort a) = a.called == called && a.number == number
answers called number _ = false

-- whether one of these effects answers this call
abbrev pub is_answered : ℕ → ℕ → List Event → Bool
is_answered called number before = list_any (answers called number) before

-- whether a call waits: it was made, and none of these effects answers it
abbrev pub waits : Acts → List Event → ℕ → ℕ → Bool
waits acts before called number = list_any (is_call called number) acts.calls && not (is_answered called number before)

-- the number of the last call to a group, 0 before the first
abbrev pub last_call : List Call → ℕ → ℕ
last_call calls called = fold (λ last c. if c.called == called then c.number else last) 0 calls

-- the least number of a call to a group that waits, or where none does the number of the next
abbrev pub low_out : Acts → List Event → ℕ → ℕ
low_out acts before called = unwrap_or (find (waits acts before called) (range_with_len 1 (last_call acts.calls called))) (last_call acts.calls called + 1)

-- whether an event is an answer to an ask
abbrev pub answers_ask : Event → Bool
answers_ask (event.Clock c) = true
answers_ask (event.Random r) = true
answers_ask _ = false

-- how many asks these effects answer
abbrev pub answered_asks : List Event → ℕ
answered_asks before = count_by answers_ask before

-- the ask that waits, by its number and its sort: asks are answered in order, so that it is the one after those that
-- these effects answer, if it was made
abbrev pub waiting_ask : Acts → List Event → Option (ℕ × Sort)
waiting_ask acts before = option_map (λ s. (answered_asks before + 1, s)) (slice_get acts.asks (answered_asks before))

abbrev pub is_sort : Sort → Sort → Bool
is_sort sort.Clock sort.Clock = true
is_sort sort.Random sort.Random = true
is_sort s t = false

-- whether the ask of this number and sort waits
abbrev pub ask_waits : Acts → List Event → ℕ → Sort → Bool
ask_waits acts before ask s = option_map_or (λ w. w.0 == ask && is_sort w.1 s) (waiting_ask acts before) false

-- whether an event takes effect after these effects, the service having called and asked this; Null never does
abbrev pub takes_effect : ℕ → List ℕ → Acts → List Event → Event → Bool
takes_effect me layout acts before event.Null = false
takes_effect me layout acts before (event.Request r) = is_next me layout (last_of r.caller before) (low_of r.caller before) r
takes_effect me layout acts before (event.Reply r) = waits acts before r.called r.number
takes_effect me layout acts before (event.Abort a) = waits acts before a.called a.number
takes_effect me layout acts before (event.Clock c) = ask_waits acts before c.ask sort.Clock
takes_effect me layout acts before (event.Random r) = ask_waits acts before r.ask sort.Random

-- the effects after one more event, where the service calls and asks what acts tells of the effects before
abbrev pub with_event : ℕ → List ℕ → (List Event → Acts) → List Event → Event → List Event
with_event me layout acts before e = if takes_effect me layout (acts before) before e then before ++ e ∷ [] else before

-- the events of a list that take effect in the group me of this layout, in order: each is decided by those before it,
-- and by what the service called and asked on those that took effect
abbrev pub effects : ℕ → List ℕ → (List Event → Acts) → List Event → List Event
effects me layout acts events = fold (with_event me layout acts) [] events

-- a service that never calls or asks
abbrev pub silent : List Event → Acts
silent before = no_acts

-- the agreed time after one more effect, which never falls
abbrev pub time_after : ℕ → ℕ → Event → ℕ
time_after f time (event.Clock c) = max time (agreed_time f c.readings)
time_after f time _ = time

-- the agreed time after these effects in a group that bears f compromised replicas, 0 before the first
abbrev pub clock_of : ℕ → List Event → ℕ
clock_of f before = fold (time_after f) 0 before

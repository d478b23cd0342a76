-- The counters that tell which events take effect: what has to be kept of a past. Contracts name a past beside them, by
-- `HasTaken`, and say each answer of it; so but for `CanCall` this serves proofs. This project's own.
use Rattle.std.specs.Prelude.{◌≡◌, ℕ, ◌+◌, ◌-◌, ◌*◌, ◌%◌, ◌<◌, ◌≤◌, ◌==◌, ◌&&◌, ◌||◌, not, max, Bool, true, false, IsTrue, nat_lt, if◌then◌else◌, List, length, slice_get, slice_index, slice_set, find, Option, Some, None}
use Rattle.std.specs.List.{range_with_len}
use Rattle.std.specs.Option.{option_map_or, unwrap_or}
use Rattle.pws_base.specs.Limits.{max_number, max_groups, call_window}
use Rattle.pws_base.specs.Replicas.{is_other}
use Rattle.pws_event.specs.Requests.{RequestFields}
use Rattle.pws_event.specs.Readings.{ClockFields, RandomFields}
use Rattle.pws_event.specs.Times.{agreed_time}
use Rattle.pws_event.specs.declared.readings.Sort.{Sort}
use Rattle.pws_event.specs.declared.readings.Sort.TheVariants as sort
use Rattle.pws_event.specs.declared.events.Event.{Event}
use Rattle.pws_event.specs.declared.events.Event.TheVariants as event
use Rattle.pws_event.specs.Effects.{is_next, is_sort, last_of, low_of, is_answered, waits, last_call, answered_asks, clock_of}
use Rattle.pws_event.specs.Histories.{Past}

-- the group and its layout; by caller the number and the low number of the last request; by called group the number
-- of the last call, and sixteen slots for the numbers of the calls that wait; how many asks are answered, the sort of
-- the one that waits, and the agreed time
pub record Counters : Type 0 where
  pub me : ℕ
  pub layout : List ℕ
  pub last : List ℕ
  pub low : List ℕ
  pub called : List ℕ
  pub waiting : List ℕ
  pub answered : ℕ
  pub ask : Option Sort
  pub clock : ℕ

-- a group's counter, or what it is for a group that no layout has
abbrev pub counter_of : List ℕ → ℕ → ℕ → ℕ
counter_of counters group none = if nat_lt group 16 then slice_index counters group else none

-- the slot in which the number of a call stands while it waits
abbrev pub slot_of : ℕ → ℕ → ℕ
slot_of called number = 16 * called + number % 16

-- whether a call waits by the slots
abbrev pub is_waiting : List ℕ → ℕ → ℕ → Bool
is_waiting waiting called number = nat_lt called 16 && not (number == 0) && slice_index waiting (slot_of called number) == number

-- the least number of a call to a group that waits by the slots: it is among the sixteen up to the last
abbrev pub least_waiting : Counters → ℕ → ℕ
least_waiting c called =
    let last = counter_of c.called called 0 in
    unwrap_or (find (is_waiting c.waiting called) (range_with_len (last - 15) (last + 1 - (last - 15)))) (last + 1)

-- whether a number may stand in a slot: none does, or it is the number of a call whose slot that is
abbrev pub is_own : ℕ → ℕ → Bool
is_own slot number = number == 0 || number % 16 == slot % 16

-- sixteen counters of each sort, the numbers in range; the last number of a caller is among the sixteen from its low
-- number on, which is 1 before the first request; calls that wait are among the sixteen up to the last, each in its own
-- slot; nothing is counted for the own group and for groups that the layout lacks
pub record IsCounters (c : Counters) : Type 0 where
  pub callers : (length c.last ≡ 16) × (length c.low ≡ 16)
  pub calls : (length c.called ≡ 16) × (length c.waiting ≡ 256)
  pub groups : length c.layout ≤ max_groups
  pub own : c.me < length c.layout
  pub small : (caller : ℕ) → slice_index c.last caller ≤ max_number
  pub few : (called : ℕ) → slice_index c.called called ≤ max_number
  pub least : (caller : ℕ) → 1 ≤ counter_of c.low caller 1
  pub low : (caller : ℕ) → counter_of c.low caller 1 ≤ max 1 (counter_of c.last caller 0)
  pub near : (caller : ℕ) → counter_of c.last caller 0 < counter_of c.low caller 1 + call_window
  pub window : (called number : ℕ) → is_waiting c.waiting called number ≡ true → (number ≤ counter_of c.called called 0) × (counter_of c.called called 0 < number + call_window)
  pub clean : (slot : ℕ) → is_own slot (slice_index c.waiting slot) ≡ true
  pub answered : c.answered ≤ max_number
  pub none : (group : ℕ) → is_other c.me c.layout group ≡ false → (counter_of c.last group 0 ≡ 0) × (counter_of c.low group 1 ≡ 1) × (counter_of c.called group 0 ≡ 0)

-- the counters of requests are those of these effects
pub record CountsRequests (numbers lows : List ℕ) (effects : List Event) : Type 0 where
  pub last : (caller : ℕ) → counter_of numbers caller 0 ≡ last_of caller effects
  pub low : (caller : ℕ) → counter_of lows caller 1 ≡ low_of caller effects

-- the counters of calls are those of what was called and answered
pub record CountsCalls (called slots : List ℕ) (past : Past) : Type 0 where
  pub last : (group : ℕ) → counter_of called group 0 ≡ last_call past.acts.calls group
  pub waiting : (group number : ℕ) → is_waiting slots group number ≡ waits past.acts past.effects group number
  pub answered : (group number : ℕ) → is_answered group number past.effects ≡ true → number ≤ last_call past.acts.calls group

-- how many asks wait
abbrev pub waiting_count : Option Sort → ℕ
waiting_count None = 0
waiting_count (Some s) = 1

-- the counters of asks are those of what was asked and answered
pub record CountsAsks (count : ℕ) (sort : Option Sort) (past : Past) : Type 0 where
  pub answered : count ≡ answered_asks past.effects
  pub asked : length past.acts.asks ≡ count + waiting_count sort
  pub ask : sort ≡ slice_get past.acts.asks count

-- the counters are those of a past
pub record HasTaken (c : Counters) (past : Past) : Type 0 where
  pub requests : CountsRequests c.last c.low past.effects
  pub calls : CountsCalls c.called c.waiting past
  pub asks : CountsAsks c.answered c.ask past
  pub clock : c.clock ≡ clock_of (slice_index c.layout c.me) past.effects

-- whether a request takes effect by the counters
abbrev pub would_take : Counters → RequestFields → Bool
would_take c r = is_next c.me c.layout (slice_index c.last r.caller) (slice_index c.low r.caller) r

-- the counters after a request
abbrev pub after_request : Counters → RequestFields → Counters
after_request c r =
    if would_take c r
    then record c { last = slice_set c.last r.caller r.number; low = slice_set c.low r.caller r.low }
    else c

-- the counters after an answer to a call
abbrev pub after_answer : Counters → ℕ → ℕ → Counters
after_answer c called number =
    if is_waiting c.waiting called number
    then record c { waiting = slice_set c.waiting (slot_of called number) 0 }
    else c

-- whether the ask of this number and sort waits by the counters
abbrev pub would_answer : Counters → ℕ → Sort → Bool
would_answer c ask s = option_map_or (λ w. c.answered + 1 == ask && is_sort w s) c.ask false

-- the counters once the ask that waited is answered
abbrev pub ask_answered : Counters → Counters
ask_answered c = record c { answered = c.answered + 1; ask = None }

-- the counters after readings of the clock
abbrev pub after_clock : Counters → ClockFields → Counters
after_clock c r =
    if would_answer c r.ask sort.Clock
    then record (ask_answered c) { clock = max c.clock (agreed_time (slice_index c.layout c.me) r.readings) }
    else c

-- the counters after shares of a seed
abbrev pub after_seed : Counters → RandomFields → Counters
after_seed c r = if would_answer c r.ask sort.Random then ask_answered c else c

-- the counters after an event
abbrev pub counters_after : Counters → Event → Counters
counters_after c event.Null = c
counters_after c (event.Request r) = after_request c r
counters_after c (event.Reply r) = after_answer c r.called r.number
counters_after c (event.Abort a) = after_answer c a.called a.number
counters_after c (event.Clock r) = after_clock c r
counters_after c (event.Random r) = after_seed c r

-- whether an event takes effect by the counters
abbrev pub would_effect : Counters → Event → Bool
would_effect c event.Null = false
would_effect c (event.Request r) = would_take c r
would_effect c (event.Reply r) = is_waiting c.waiting r.called r.number
would_effect c (event.Abort a) = is_waiting c.waiting a.called a.number
would_effect c (event.Clock r) = would_answer c r.ask sort.Clock
would_effect c (event.Random r) = would_answer c r.ask sort.Random

-- a call may be noted: the called group is another of the layout, the number is the next, and no more than sixteen
-- numbers from the least that waits on are noted
pub record CanCall (c : Counters) (called number : ℕ) : Type 0 where
  pub other : IsTrue (is_other c.me c.layout called)
  pub next : number ≡ counter_of c.called called 0 + 1
  pub room : number < least_waiting c called + call_window
  pub small : number ≤ max_number

-- the counters after a call
abbrev pub after_call : Counters → ℕ → ℕ → Counters
after_call c called number = record c { called = slice_set c.called called number; waiting = slice_set c.waiting (slot_of called number) number }

-- the counters after an ask
abbrev pub after_ask : Counters → Sort → Counters
after_ask c s = record c { ask = Some s }

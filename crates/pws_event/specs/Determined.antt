-- The counters that belong to a past, by its calls and its effects; this project's own.
use Rattle.std.specs.Prelude.{◌≡◌, ℕ, ◌==◌, ◌&&◌, Bool, List, map, find, slice_index}
use Rattle.std.specs.List.{range_with_len}
use Rattle.std.specs.Option.{option_map, option_map_or}
use Rattle.pws_base.specs.Limits.{max_groups}
use Rattle.pws_event.specs.Effects.{Call, last_of, low_of, last_call, waits, answered_asks, waiting_ask, clock_of}
use Rattle.pws_event.specs.Histories.{Past}
use Rattle.pws_event.specs.Counters.{Counters, IsCounters, HasTaken, slot_of}

-- the groups that there can be
abbrev pub all_groups : List ℕ
all_groups = range_with_len 0 max_groups

-- whether a call waits in this slot
abbrev pub is_in_slot : Past → ℕ → Call → Bool
is_in_slot past slot c = slot_of c.called c.number == slot && waits past.acts past.effects c.called c.number

-- the number of the call that waits in a slot, 0 where none does
abbrev pub number_in : Past → ℕ → ℕ
number_in past slot = option_map_or (λ c. c.number) (find (is_in_slot past slot) past.acts.calls) 0

-- the counters of the group me of this layout after a past
unfoldable pub counters_of : ℕ → List ℕ → Past → Counters
counters_of me layout past = record {
  me = me;
  layout = layout;
  last = map (λ g. last_of g past.effects) all_groups;
  low = map (λ g. low_of g past.effects) all_groups;
  called = map (last_call past.acts.calls) all_groups;
  waiting = map (number_in past) (range_with_len 0 256);
  answered = answered_asks past.effects;
  ask = option_map (λ w. w.1) (waiting_ask past.acts past.effects);
  clock = clock_of (slice_index layout me) past.effects;
}

-- counters that are those of a past are determined by it
abbrev pub CountersAreDetermined : Type 0
CountersAreDetermined = (c : Counters) (past : Past) → IsCounters c → HasTaken c past → c ≡ counters_of c.me c.layout past

-- so any two of one past are equal, in one group of one layout
abbrev pub CountersAreOne : Type 0
CountersAreOne = (c d : Counters) (past : Past) → IsCounters c → IsCounters d → c.me ≡ d.me → c.layout ≡ d.layout → HasTaken c past → HasTaken d past → c ≡ d

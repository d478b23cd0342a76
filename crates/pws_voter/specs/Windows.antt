-- Tests over the places of a window, by the parts of a state that they look at.
use Rattle.std.specs.Prelude.{ℕ, ◌||◌, Bool, false, List, Option}
use Rattle.std.specs.List.{list_any}
use Rattle.std.specs.Option.{option_map_or}
use Rattle.std.specs.Str.{bytes_eq}
use Rattle.std.specs.Ordering.{nat_cmp}
use Rattle.std.specs.FinMap.{FinMap, get, contains_key}
use Rattle.pws_change.specs.Sets.{PrePrepared, row_at}
use Rattle.pws_msg.specs.declared.changes.Choice.{Choice}
use Rattle.pws_protocol.specs.States.{Slot, window}
use Rattle.pws_protocol.specs.Gathered.{choice_names}

-- whether the slot at a place has this digest
abbrev pub is_slot_for : FinMap nat_cmp Slot → List ℕ → ℕ → Bool
is_slot_for slots digest p = option_map_or (λ t. bytes_eq t.digest digest) (get slots p) false

-- whether some slot of the window has it
unfoldable pub slots_have : FinMap nat_cmp Slot → ℕ → List ℕ → Bool
slots_have slots low digest = list_any (is_slot_for slots digest) (window low)

-- whether some row of the window has it
unfoldable pub rows_have : PrePrepared → ℕ → List ℕ → Bool
rows_have rows low digest = list_any (λ p. contains_key (row_at rows p) digest) (window low)

-- whether a slot, a row or the choice names it
abbrev pub are_named : FinMap nat_cmp Slot → PrePrepared → ℕ → Option Choice → List ℕ → Bool
are_named slots rows low choice digest = slots_have slots low digest || (rows_have rows low digest || choice_names choice digest)

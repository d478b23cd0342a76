-- Why an action is done: its own test holds, and it isn't one of the first seven in a group of one; after Castro and
-- Liskov (2002), with rules of this project's own.
use Rattle.std.specs.Prelude.{◌≡◌, true, false, Some}
use Rattle.pws_event.specs.Counters.{Counters}
use Rattle.pws_protocol.specs.States.{State, is_alone}
use Rattle.pws_protocol.specs.Actions.{Action, next_action, next_join, can_refuse, can_impatience, next_ack, next_need_chosen, next_need_text, next_offer, next_enter, next_propose, next_accept, next_prepare, next_execute, next_adopt, next_commit, can_checkpoint, next_stable}
use Rattle.pws_protocol.specs.Actions as act

-- the own test of an action
abbrev pub IsEnabled : State → Counters → Action → Type 0
IsEnabled s asked (act.Join w) = (is_alone s ≡ false) × (next_join s ≡ Some w)
IsEnabled s asked act.Refuse = (is_alone s ≡ false) × (can_refuse s ≡ true)
IsEnabled s asked act.Impatience = (is_alone s ≡ false) × (can_impatience s ≡ true)
IsEnabled s asked (act.Ack j) = (is_alone s ≡ false) × (next_ack s ≡ Some j)
IsEnabled s asked (act.NeedChosen d) = (is_alone s ≡ false) × (next_need_chosen s ≡ Some d)
IsEnabled s asked (act.NeedText d) = (is_alone s ≡ false) × (next_need_text s ≡ Some d)
IsEnabled s asked (act.Offer c) = (is_alone s ≡ false) × (next_offer s ≡ Some c)
IsEnabled s asked (act.Enter v) = next_enter s ≡ Some v
IsEnabled s asked (act.Propose e) = next_propose s asked ≡ Some e
IsEnabled s asked (act.Accept p) = next_accept s ≡ Some p
IsEnabled s asked (act.Prepare p) = next_prepare s ≡ Some p
IsEnabled s asked (act.Execute e) = next_execute s ≡ Some e
IsEnabled s asked (act.Adopt e) = next_adopt s ≡ Some e
IsEnabled s asked (act.Commit p) = next_commit s ≡ Some p
IsEnabled s asked act.Checkpoint = can_checkpoint s ≡ true
IsEnabled s asked (act.Stable p) = next_stable s ≡ Some p

-- what is done passes its own test
abbrev pub DoneIsEnabled : Type 0
DoneIsEnabled = (s : State) (asked : Counters) (a : Action) → next_action s asked ≡ Some a → IsEnabled s asked a

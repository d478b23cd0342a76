-- That a voter asks for the events of few digests between two ticks; this project's own.
use Rattle.std.specs.Prelude.{◌≡◌, ℕ, ◌≤◌, List, Some}
use Rattle.std.specs.FinSet as set
use Rattle.pws_event.specs.Counters.{Counters}
use Rattle.pws_protocol.specs.States.{Me, State, start, most_needed}
use Rattle.pws_protocol.specs.Actions.{Action, next_action}
use Rattle.pws_protocol.specs.Doing.{Reaction}
use Rattle.pws_protocol.specs.Reactions.{Input, settled_state, begun, then_did, react}

-- at most so many were asked for since the last tick
abbrev pub AsksForFew : State → Type 0
AsksForFew s = set.len s.needed ≤ most_needed

-- so it is of a voter that has heard nothing
abbrev pub StartAsksForFew : Type 0
StartAsksForFew = (me : Me) (layout : List ℕ) → AsksForFew (start me layout)

-- so it stays by an action that is done
abbrev pub TurnsAskForFew : Type 0
TurnsAskForFew = (asked : Counters) (r : Reaction) (a : Action) → AsksForFew r.state → next_action r.state asked ≡ Some a → AsksForFew (then_did r a).state

-- so it stays by what an input brings before any action
abbrev pub InputsAskForFew : Type 0
InputsAskForFew = (s : State) (asked : Counters) (input : Input) → AsksForFew s → AsksForFew (begun (settled_state s asked) asked input).reaction.state

-- so it stays by a whole reaction
abbrev pub ReactionsAskForFew : Type 0
ReactionsAskForFew = (s : State) (asked : Counters) (input : Input) → AsksForFew s → AsksForFew (react s asked input).state

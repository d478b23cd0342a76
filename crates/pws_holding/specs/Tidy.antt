-- That a voter holds the events that it has a use for, and no others; this project's own.
use Rattle.std.specs.Prelude.{◌≡◌, ℕ, true, List, Some}
use Rattle.std.specs.FinMap.{get}
use Rattle.pws_event.specs.declared.events.Event.{Event}
use Rattle.pws_event.specs.Counters.{Counters}
use Rattle.pws_protocol.specs.States.{Me, State, start}
use Rattle.pws_protocol.specs.Gathered.{possible_choice}
use Rattle.pws_protocol.specs.Actions.{Action}
use Rattle.pws_protocol.specs.Doing.{Reaction}
use Rattle.pws_protocol.specs.Reactions.{Input, is_named, settled_state, begun, then_did, react}

-- each event that is held by its digest is named: by a slot, a row of Q or the possible choice
abbrev pub IsTidy : State → Type 0
IsTidy s = (d : List ℕ) (e : Event) → get s.texts d ≡ Some e → is_named s (possible_choice s) d ≡ true

-- so it is of a voter that has heard nothing
abbrev pub StartIsTidy : Type 0
StartIsTidy = (me : Me) (layout : List ℕ) → IsTidy (start me layout)

-- so it is after each action of a reaction
abbrev pub TurnsAreTidy : Type 0
TurnsAreTidy = (r : Reaction) (a : Action) → IsTidy (then_did r a).state

-- so it stays by what an input brings before any action
abbrev pub InputsKeepTidy : Type 0
InputsKeepTidy = (s : State) (asked : Counters) (input : Input) → IsTidy s → IsTidy (begun (settled_state s asked) asked input).reaction.state

-- so it stays by a whole reaction
abbrev pub ReactionsKeepTidy : Type 0
ReactionsKeepTidy = (s : State) (asked : Counters) (input : Input) → IsTidy s → IsTidy (react s asked input).state

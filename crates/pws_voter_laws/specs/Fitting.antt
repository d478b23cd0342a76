-- That what fits is kept: by the actions, by what an input brings before them, and by a whole reaction.
use Rattle.std.specs.Prelude.{◌≡◌, Some}
use Rattle.pws_event.specs.Counters.{Counters}
use Rattle.pws_protocol.specs.States.{State}
use Rattle.pws_protocol.specs.Actions.{Action, next_action}
use Rattle.pws_protocol.specs.Doing.{Reaction, did}
use Rattle.pws_protocol.specs.Reactions.{Input, settled_state, begun, then_did, react}
use Rattle.pws_protocol.specs.Fits.{Fits, IsInput}

-- what fits before an action that is done fits after it
abbrev pub ActionsKeepFits : Type 0
ActionsKeepFits = (s : State) (asked : Counters) (a : Action) → Fits s → next_action s asked ≡ Some a → Fits (did s a).state

-- and after one of the actions of a reaction, which drops the texts that nothing names
abbrev pub TurnsKeepFits : Type 0
TurnsKeepFits = (asked : Counters) (r : Reaction) (a : Action) → Fits r.state → next_action r.state asked ≡ Some a → Fits (then_did r a).state

-- what fits still does once its evidence is settled, and what may be given to a voter may be given to it then
abbrev pub SettlingKeepsFits : Type 0
SettlingKeepsFits = (s : State) (asked : Counters) → Fits s → Fits (settled_state s asked)

abbrev pub SettlingKeepsInputs : Type 0
SettlingKeepsInputs = (s : State) (asked : Counters) (input : Input) → IsInput s input → IsInput (settled_state s asked) input

-- what fits before an input fits after what it brings before any action
abbrev pub InputsKeepFits : Type 0
InputsKeepFits = (s : State) (asked : Counters) (input : Input) → Fits s → IsInput s input → Fits (begun (settled_state s asked) asked input).reaction.state

-- what fits before an input fits after the reaction to it
abbrev pub ReactionsKeepFits : Type 0
ReactionsKeepFits = (s : State) (asked : Counters) (input : Input) → Fits s → IsInput s input → Fits (react s asked input).state

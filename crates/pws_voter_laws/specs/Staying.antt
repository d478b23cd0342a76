-- Who a voter is stays as it is: its replica and its shape, the group and the layout of its evidence; this project's own.
use Rattle.std.specs.Prelude.{◌≡◌}
use Rattle.pws_event.specs.Counters.{Counters}
use Rattle.pws_protocol.specs.States.{State}
use Rattle.pws_protocol.specs.Actions.{Action}
use Rattle.pws_protocol.specs.Doing.{did}
use Rattle.pws_protocol.specs.Reactions.{Input, react}

-- two states are of one voter
abbrev pub IsSameVoter : State → State → Type 0
IsSameVoter s t = (t.me ≡ s.me) × (t.evidence.group ≡ s.evidence.group) × (t.evidence.layout ≡ s.evidence.layout)

-- an action leaves who the voter is
abbrev pub ActionsLeaveTheVoter : Type 0
ActionsLeaveTheVoter = (s : State) (a : Action) → IsSameVoter s (did s a).state

-- and so does a whole reaction
abbrev pub ReactionsLeaveTheVoter : Type 0
ReactionsLeaveTheVoter = (s : State) (asked : Counters) (input : Input) → IsSameVoter s (react s asked input).state

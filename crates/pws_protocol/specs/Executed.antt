-- What a voter executes: its events go out in the order of their places, and its place and its chain are theirs.
use Rattle.std.specs.Prelude.{◌≡◌, ℕ, ◌+◌, List, [], ◌∷◌, Option, Some, None}
use Rattle.std.specs.List.{filter_map}
use Rattle.pws_event.specs.declared.events.Event.{Event}
use Rattle.pws_protocol.specs.States.{State}
use Rattle.pws_protocol.specs.Hearing.{Out}
use Rattle.pws_protocol.specs.Hearing as out
use Rattle.pws_protocol.specs.Doing.{next_chain}

-- an event with its place
pub record Placed : Type 0 where
  pub place : ℕ
  pub event : Event

-- the events that are put out to be executed, in order
abbrev pub execution_of : Out → Option Placed
execution_of (out.Execute place e) = Some (record { place = place; event = e })
execution_of _ = None

-- all of these events, in order
abbrev pub executed_in : List Out → List Placed
executed_in outs = filter_map execution_of outs

-- from one state to another these events were executed: none, and the place and the chain stay; or one at the next place,
-- and the chain goes on by it
pub data Advances (s t : State) : List Placed → Type 0 where
  stays : t.done ≡ s.done → t.chain ≡ s.chain → Advances s t []
  executes : (e : Event) → t.done ≡ s.done + 1 → t.chain ≡ next_chain s e → Advances s t (record { place = s.done + 1; event = e } ∷ [])

-- When the counters of effects may note an act; this project's own.
use Rattle.std.specs.Prelude.{◌≡◌, ℕ, List, [], ◌++◌, None}
use Rattle.pws_event.specs.declared.events.Event.{Event}
use Rattle.pws_event.specs.Counters.{Counters, HasTaken, CanCall}
use Rattle.pws_event.specs.Histories.{Past}
use Rattle.pws_service.specs.declared.acts.Act.{Act}
use Rattle.pws_service.specs.declared.acts.Act.TheVariants as act
use Rattle.pws_service.specs.Effects.{noted, InTurn}
use Rattle.pws_service.specs.Lawful.{LawfulCalls, LawfulAsks}

-- the past of a group whose service did these acts on these effects
abbrev pub led : List Act → List Event → Past
led acts effects = record { acts = noted acts; effects = effects }

-- an act may be noted: a call by the rule of calls, an ask where none waits
abbrev pub MayNote : Counters → Act → Type 0
MayNote c (act.Call called number low body timeout) = CanCall c called number
MayNote c (act.Reply caller number body) = Unit {0}
MayNote c (act.AskClock ask) = c.ask ≡ None
MayNote c (act.AskRandom ask) = c.ask ≡ None
MayNote c act.Halted = Unit {0}

-- acts may be noted one after the other: the counters have taken effects in turn and the acts before, after which
-- these acts are lawful
pub record CanNote (c : Counters) (acts : List Act) : Type 0 where
  pub serve : List Event → List Act
  pub effects : List Event
  pub before : List Act
  pub taken : HasTaken c (led before effects)
  pub turn : InTurn c.me c.layout serve [] effects
  pub calls : LawfulCalls c.me c.layout effects [] (before ++ acts)
  pub asks : LawfulAsks effects [] (before ++ acts)

-- Which events take effect in the group of a driver: the rule of events, closed over what the driver calls and asks.
use Rattle.std.specs.Prelude.{◌≡◌, ℕ, ◌==◌, Bool, true, false, List, [], ◌∷◌, ◌++◌, Option, Some, None}
use Rattle.std.specs.List.{filter_map}
use Rattle.pws_event.specs.Effects.{Call, Acts, takes_effect, effects}
use Rattle.pws_event.specs.Histories.{with_call, with_ask}
use Rattle.pws_event.specs.declared.readings.Sort.{Sort}
use Rattle.pws_event.specs.declared.readings.Sort.TheVariants as sort
use Rattle.pws_event.specs.declared.events.Event.{Event}
use Rattle.pws_service.specs.declared.acts.Act.{Act}
use Rattle.pws_service.specs.declared.acts.Act.TheVariants as act

abbrev pub call_in : Act → Option Call
call_in (act.Call called number low body timeout) = Some (record { called = called; number = number })
call_in (act.Reply caller number body) = None
call_in (act.AskClock ask) = None
call_in (act.AskRandom ask) = None
call_in act.Halted = None

abbrev pub ask_in : Act → Option Sort
ask_in (act.Call called number low body timeout) = None
ask_in (act.Reply caller number body) = None
ask_in (act.AskClock ask) = Some sort.Clock
ask_in (act.AskRandom ask) = Some sort.Random
ask_in act.Halted = None

-- what these acts called and asked
unfoldable pub noted : List Act → Acts
noted acts = record { calls = filter_map call_in acts; asks = filter_map ask_in acts }

-- one act more, of those that are noted
abbrev pub with_act : Act → Acts → Acts
with_act (act.Call called number low body timeout) acts = with_call called number acts
with_act (act.Reply caller number body) acts = acts
with_act (act.AskClock ask) acts = with_ask sort.Clock acts
with_act (act.AskRandom ask) acts = with_ask sort.Random acts
with_act act.Halted acts = acts

-- whether an event takes effect after these effects, which brought these acts
abbrev pub takes_effect_after : ℕ → List ℕ → List Act → List Event → Event → Bool
takes_effect_after me layout acts before e = takes_effect me layout (noted acts) before e

-- each of these events takes effect after those before it, where the acts are a function of the effects
abbrev pub InTurn : ℕ → List ℕ → (List Event → List Act) → List Event → List Event → Type 0
InTurn me layout serve before [] = Unit {0}
InTurn me layout serve before (e ∷ es) = (takes_effect_after me layout (serve before) before e ≡ true) × InTurn me layout serve (before ++ e ∷ []) es

-- the events of a list that take effect, in order: each is decided by those before it
abbrev pub effects_of : ℕ → List ℕ → (List Event → List Act) → List Event → List Event
effects_of me layout serve events = effects me layout (λ before. noted (serve before)) events

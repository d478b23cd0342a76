-- What follows from the rules of effects and of the agreed time alone; this project's own.
use Rattle.std.specs.Prelude.{◌≡◌, ◌↔◌, ℕ, ◌+◌, ◌-◌, ◌<◌, ◌≤◌, ◌&&◌, not, Bool, false, if◌then◌else◌, List, [], ◌∷◌, ◌++◌, length, map, take, slice_get, Some, IsTrue, All}
use Rattle.std.specs.List.{Contains}
use Rattle.pws_base.specs.Counts.{count_below}
use Rattle.pws_base.specs.Shapes.{size_of_group, quorum_of}
use Rattle.pws_event.specs.Requests.{RequestFields}
use Rattle.pws_event.specs.Effects.{Acts, takes_effect, effects}
use Rattle.pws_event.specs.Readings.{RiseFrom}
use Rattle.pws_event.specs.Times.{rank_of, is_ranked, agreed_time}
use Rattle.pws_event.specs.Histories.{Step, after_step, past_of}
use Rattle.pws_event.specs.declared.readings.Reading.{Reading}
use Rattle.pws_event.specs.Lists.{PlacedEvent, placed, would_pass, at_place, event_at, effects_in}
use Rattle.pws_event.specs.declared.events.Event.{Event}
use Rattle.pws_event.specs.declared.events.Event.TheVariants as event

-- the effects of a longer list of events begin with those of the shorter, whatever the service calls and asks
abbrev pub EffectsGrow : Type 0
EffectsGrow = (me : ℕ) (layout : List ℕ) (acts : List Event → Acts) (earlier later : List Event) → (more : List Event) × (effects me layout acts (earlier ++ later) ≡ effects me layout acts earlier ++ more)

-- the effects on one place more are those before it, and its event where that was kept and takes effect
abbrev pub EffectsFollow : Type 0
EffectsFollow = (me : ℕ) (layout : List ℕ) (acts : List Event → Acts) (places : List PlacedEvent) (e : Event) →
    let before = effects_in me layout acts places in
    effects_in me layout acts (places ++ placed places e ∷ []) ≡ (if not (would_pass places e) && takes_effect me layout (acts before) before e then before ++ e ∷ [] else before)

-- at the last place stands what was placed there
abbrev pub EventsAreLast : Type 0
EventsAreLast = (places : List PlacedEvent) (e : Event) → at_place (places ++ placed places e ∷ []) (length places + 1) ≡ Some (placed places e)

-- the request stands at this place, counted from 1, and takes effect after the places before it
pub record TakesEffectAt (me : ℕ) (layout : List ℕ) (acts : List Event → Acts) (places : List PlacedEvent) (place : ℕ) (r : RequestFields) : Type 0 where
  pub stands : event_at places place ≡ Some (event.Request r)
  pub takes : let before = effects_in me layout acts (take (place - 1) places) in IsTrue (takes_effect me layout (acts before) before (event.Request r))

-- a request, which its caller and its number name, takes effect at most once, at one place
abbrev pub TakesEffectOnce : ℕ → List ℕ → (List Event → Acts) → List PlacedEvent → Type 0
TakesEffectOnce me layout acts places = (p q : ℕ) (r s : RequestFields) → TakesEffectAt me layout acts places p r → TakesEffectAt me layout acts places q s → r.caller ≡ s.caller → r.number ≡ s.number → p ≡ q

-- so it is in every list, whatever the service calls and asks
abbrev pub EffectsAreOnce : Type 0
EffectsAreOnce = (me : ℕ) (layout : List ℕ) (acts : List Event → Acts) (places : List PlacedEvent) → TakesEffectOnce me layout acts places

-- what a history comes to after one more step is what it came to, and the step
abbrev pub HistoriesGrow : Type 0
HistoriesGrow = (me : ℕ) (layout : List ℕ) (history : List Step) (step : Step) → past_of me layout (history ++ step ∷ []) ≡ after_step me layout (past_of me layout history) step

-- where there are readings, the agreed time is the one time at its rank, and is one of them
abbrev pub AgreedTimeIsRanked : Type 0
AgreedTimeIsRanked = (f : ℕ) (readings : List Reading) → 1 ≤ length readings → ((time : ℕ) → IsTrue (is_ranked (rank_of f readings) readings time) ↔ (time ≡ agreed_time f readings)) × ((place : ℕ) × (r : Reading) × (slice_get readings place ≡ Some r) × (agreed_time f readings ≡ r.ms))

-- a reading of a replica that isn't compromised, among these
pub record IsCorrectReading (compromised : ℕ → Bool) (readings : List Reading) (r : Reading) : Type 0 where
  pub among : Contains readings r
  pub correct : compromised r.index ≡ false

-- in a group that has no more compromised replicas than the f that it bears, of a quorum of readings, each of another
-- replica, a correct one is at or below the agreed time, and a correct one at or above it
abbrev pub TimeIsBetween : Type 0
TimeIsBetween = (f : ℕ) (compromised : ℕ → Bool) (readings : List Reading) → count_below (size_of_group f) compromised ≤ f → length readings ≡ quorum_of f → RiseFrom 0 (map (λ r. r.index) readings) → All (λ r. r.index < size_of_group f) readings →
    ((r : Reading) × IsCorrectReading compromised readings r × (r.ms ≤ agreed_time f readings)) × ((r : Reading) × IsCorrectReading compromised readings r × (agreed_time f readings ≤ r.ms))

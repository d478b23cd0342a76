-- A driver that is led along with the counters of effects, and a holder of one; this project's own.
use Rattle.std.specs.Prelude.{◌≡◌, ℕ, Bool, true, false, if◌then◌else◌, List, [], ◌∷◌, ◌++◌}
use Rattle.pws_event.specs.declared.events.Event.{Event}
use Rattle.pws_event.specs.Counters.{Counters, HasTaken}
use Rattle.pws_service.specs.declared.acts.Act.{Act}
use Rattle.pws_service.specs.Effects.{takes_effect_after, InTurn, effects_of}
use Rattle.pws_service.specs.Noting.{led}

-- a driver of these acts and counters have taken these effects in turn, and the counters have noted the driver's acts
pub record IsLed (Took : List Event → Type 0) (serve : List Event → List Act) (c : Counters) (es : List Event) : Type 0 where
  pub driver : Took es
  pub counters : HasTaken c (led (serve es) es)
  pub turn : InTurn c.me c.layout serve [] es

-- the effects with one event more, if it takes effect
abbrev pub effects_more : Counters → (List Event → List Act) → List Event → Event → List Event
effects_more c serve es e = if takes_effect_after c.me c.layout (serve es) es e then es ++ e ∷ [] else es

-- what one event more brings
abbrev pub BringsActs : Counters → (List Event → List Act) → List Event → Event → List Act → Type 0
BringsActs c serve es e acts = serve (effects_more c serve es e) ≡ serve es ++ acts

-- a holder: the program of its driver, the group and its layout, whether the driver was started, the events that it was
-- given, and whether want of memory has stopped it
pub record Held (P : Type 0) : Type 0 where
  pub program : P
  pub me : ℕ
  pub layout : List ℕ
  pub started : Bool
  pub events : List Event
  pub stopped : Bool

abbrev pub held_by : {P : Type 0} → P → Counters → Bool → List Event → Bool → Held P
held_by {P} p c started events stopped = record { program = p; me = c.me; layout = c.layout; started = started; events = events; stopped = stopped }

-- the effects that a holder's driver has taken
abbrev pub effects_at : {P : Type 0} → (P → List Event → List Act) → Held P → List Event
effects_at {P} acts h = effects_of h.me h.layout (acts h.program) h.events

-- its acts so far
abbrev pub acts_at : {P : Type 0} → (P → List Event → List Act) → Held P → List Act
acts_at {P} acts h = if h.started then acts h.program (effects_at acts h) else []

-- a driver and counters account for a holder's state
pub record Accounts (P : Type 0) (acts : P → List Event → List Act) (Fits : P → ℕ → List ℕ → Type 0) (Took : List Event → Type 0) (is_started : Bool) (c : Counters) (h : Held P) : Type 0 where
  pub fits : Fits h.program h.me h.layout
  pub started : is_started ≡ h.started
  pub fresh : h.started ≡ false → (h.events ≡ []) × HasTaken c (led [] [])
  pub going : h.started ≡ true → IsLed Took (acts h.program) c (effects_at acts h)

abbrev pub Unless : Bool → Type 0 → Type 0
Unless true P = Unit {0}
Unless false P = P

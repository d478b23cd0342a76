-- The history of a group: the events that it took, the calls that were noted and the asks, as they came; this
-- project's own.
use Rattle.std.specs.Prelude.{ℕ, if◌then◌else◌, List, [], ◌∷◌, ◌++◌}
use Rattle.std.specs.List.{fold}
use Rattle.pws_event.specs.declared.readings.Sort.{Sort}
use Rattle.pws_event.specs.declared.events.Event.{Event}
use Rattle.pws_event.specs.Effects.{Acts, no_acts, takes_effect}

-- an event was taken; a call of this number to this group was noted; this was asked for
pub data Step : Type 0 where
  Took : Event → Step
  Called : ℕ → ℕ → Step
  Asked : Sort → Step

-- what a history comes to: what was called and asked, and the events that took effect
pub record Past : Type 0 where
  pub acts : Acts
  pub effects : List Event

-- before the first step
abbrev pub nothing : Past
nothing = record { acts = no_acts; effects = [] }

-- one more call, one more ask
abbrev pub with_call : ℕ → ℕ → Acts → Acts
with_call called number acts = record acts { calls = acts.calls ++ record { called = called; number = number } ∷ [] }

abbrev pub with_ask : Sort → Acts → Acts
with_ask sort acts = record acts { asks = acts.asks ++ sort ∷ [] }

-- after an event was taken
abbrev pub after_event : ℕ → List ℕ → Past → Event → Past
after_event me layout past e = record past { effects = if takes_effect me layout past.acts past.effects e then past.effects ++ e ∷ [] else past.effects }

-- after one more step
abbrev pub after_step : ℕ → List ℕ → Past → Step → Past
after_step me layout past (Took e) = after_event me layout past e
after_step me layout past (Called called number) = record past { acts = with_call called number past.acts }
after_step me layout past (Asked sort) = record past { acts = with_ask sort past.acts }

-- what a history comes to in the group me of this layout
abbrev pub past_of : ℕ → List ℕ → List Step → Past
past_of me layout history = fold (after_step me layout) nothing history

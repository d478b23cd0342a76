-- What the replica keeps: its counters follow its event list, whose places all take effect; this project's own.
use Rattle.std.specs.Prelude.{◌≡◌, ◌*◌, ◌≤◌, List, length}
use Rattle.pws_event.specs.Counters.{Counters, HasTaken}
use Rattle.pws_event.specs.Effects.{no_acts, silent}
use Rattle.pws_event.specs.Histories.{Past}
use Rattle.pws_event.specs.Lists.{PlacedEvent, kept_bytes, effects_in}
use Rattle.pws_sim.specs.Once.{AllTakeEffect}
use Rattle.pws_sim.specs.Replica.{two_groups}

-- what took effect in these places, where nothing was called or asked
abbrev pub past_in : List PlacedEvent → Past
past_in places = record { acts = no_acts; effects = effects_in 1 two_groups silent places }

pub record Follows (places : List PlacedEvent) (counters : Counters) : Type 0 where
  pub taken : HasTaken counters (past_in places)
  pub me : counters.me ≡ 1
  pub layout : counters.layout ≡ two_groups
  pub bytes : kept_bytes places ≤ 32782 * length places
  pub effects : AllTakeEffect 1 two_groups places

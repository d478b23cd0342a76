use Rattle.std.proofs.Common.{◌≡◌, ◌-◌, ◌<◌, ◌^◌, All}
use Rattle.pws_event.specs.EventFields.{reading_at, readings_at}
use Rattle.pws_event.proofs.Rising.{rest_at}
use Rattle.pws_event.proofs.parsing.read_readings.Given as goal

abbrev pub invariant-loop : goal.invariant-loop
invariant-loop l = (readings_at l.count l.initial.fields ≡ rest_at reading_at (λ r. r.index) l.readings (l.count - l.counter) l.least l.fields) × All (λ r. r.ms < 2 ^ 64) l.readings

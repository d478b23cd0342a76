use Rattle.std.proofs.Common.{◌≡◌}
use Rattle.pws_driver.specs.Services.{service_of}
use Rattle.pws_driver.specs.Runs.{run_at, weight, finish}
use Rattle.pws_driver.proofs.machines.Machine.run.Given as goal

abbrev pub invariant-run : goal.invariant-run
invariant-run g l = finish (service_of g.E.Envelopes.words l.program) (run_at l.self.core l.self.untaken l.acts.items) ≡ finish (service_of g.E.Envelopes.words l.program) (run_at l.initial.self.core l.initial.self.untaken l.initial.acts.items)

abbrev pub decreases-run : goal.decreases-run
decreases-run g l = weight (run_at l.self.core l.self.untaken l.acts.items)

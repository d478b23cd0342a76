use Rattle.std.proofs.Common.{◌≡◌, true}
use Rattle.pws_driver_bench.proofs.run.Given as goal

abbrev pub invariant-loop-before : goal.invariant-loop-before
invariant-loop-before l = l.runner.started ≡ true

use Rattle.std.proofs.Common.{◌≡◌}
use Rattle.std.specs.List.{fold}
use Rattle.pws_sim.specs.Replica.{start, hear}
use Rattle.pws_sim.proofs.top.replayed.Given as goal

abbrev pub invariant-loop-request : goal.invariant-loop-request
invariant-loop-request l = l.replica ≡ fold hear start l.yielded

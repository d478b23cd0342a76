use Rattle.std.proofs.Common.{◌≡◌, ◌-◌}
use Rattle.pws_sim.specs.Replica.{pushes, hear}
use Rattle.pws_sim.proofs.replica.Replica.hear.Given as goal

abbrev pub invariant-loop : goal.invariant-loop
invariant-loop l = pushes (32 - l.counter) l.self ≡ hear l.fn.self l.fn.request

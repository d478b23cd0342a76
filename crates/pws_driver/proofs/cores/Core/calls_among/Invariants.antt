use Rattle.std.proofs.Common.{◌≡◌, take}
use Rattle.pws_driver.specs.Instructions.{calls_in}
use Rattle.pws_driver.proofs.cores.Core.calls_among.Given as goal

abbrev pub invariant-loop-r : goal.invariant-loop-r
invariant-loop-r l = l.calls ≡ calls_in l.self (take l.r-index l.registers)

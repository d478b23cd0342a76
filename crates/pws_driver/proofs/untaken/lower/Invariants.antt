use Rattle.std.proofs.Common.{◌≡◌, ◌++◌, map, take, drop}
use Rattle.pws_driver.specs.Places.{lowered}
use Rattle.pws_driver.proofs.untaken.lower.Given as goal

abbrev pub invariant-loop-i : goal.invariant-loop-i
invariant-loop-i l = l.places.items ≡ map (lowered l.place) (take l.i l.initial.places.items) ++ drop l.i l.initial.places.items

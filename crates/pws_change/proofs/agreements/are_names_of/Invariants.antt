use Rattle.std.proofs.Common.{◌≡◌, map, take}
use Rattle.pws_change.specs.Agreements.{name_of}
use Rattle.pws_change.proofs.agreements.are_names_of.Given as goal

abbrev pub invariant-loop-i : goal.invariant-loop-i
invariant-loop-i l = take l.i l.named ≡ map name_of (take l.i l.changes)

use Rattle.std.proofs.Common.{◌≡◌, take}
use Rattle.pws_change.specs.Choices.{highest_place}
use Rattle.pws_change.proofs.choices.highest_place.Given as goal

abbrev pub invariant-loop-h : goal.invariant-loop-h
invariant-loop-h l = l.highest ≡ highest_place (take l.h-index l.changes)

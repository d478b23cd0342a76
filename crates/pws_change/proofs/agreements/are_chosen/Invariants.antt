use Rattle.std.proofs.Common.{ℕ, ◌+◌, ◌-◌, ◌<◌, ◌≤◌, []}
use Rattle.std.specs.List.{slice_index_or}
use Rattle.pws_change.specs.Choices.{IsChosenAt}
use Rattle.pws_change.proofs.agreements.are_chosen.Given as goal

abbrev pub invariant-loop-i : goal.invariant-loop-i
invariant-loop-i l = (place : ℕ) → l.start < place → place ≤ l.start + l.i → IsChosenAt l.shape l.changes place (slice_index_or l.chosen (place - (l.start + 1)) [])

use Rattle.std.proofs.Common.{◌≡◌, ◌++◌, length}
use Rattle.pws_voter.proofs.texts.copy_rows.Given as goal

abbrev pub invariant-loop-digest : goal.invariant-loop-digest
invariant-loop-digest l = l.rows.entries ≡ l.left ++ l.copies.entries

abbrev pub decreases-loop-digest : goal.decreases-loop-digest
decreases-loop-digest l = length l.left

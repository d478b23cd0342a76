use Rattle.std.proofs.Common.{◌≡◌, ◌++◌, length}
use Rattle.pws_places.proofs.digests.copy_rows.Given as goal

abbrev pub invariant-loop-digest : goal.invariant-loop-digest
invariant-loop-digest g l = l.rows.entries ≡ l.left ++ l.copies.entries

abbrev pub decreases-loop-digest : goal.decreases-loop-digest
decreases-loop-digest g l = length l.left

use Rattle.std.proofs.Common.{◌≡◌, ◌++◌, length}
use Rattle.pws_voter.proofs.maps.copy_rows.Given as goal

abbrev pub invariant-loop-index : goal.invariant-loop-index
invariant-loop-index g l = l.rows.entries ≡ l.left ++ l.copies.entries

abbrev pub decreases-loop-index : goal.decreases-loop-index
decreases-loop-index g l = length l.left

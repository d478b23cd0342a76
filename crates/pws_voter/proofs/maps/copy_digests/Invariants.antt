use Rattle.std.proofs.Common.{◌≡◌, ◌++◌, length}
use Rattle.pws_voter.proofs.maps.copy_digests.Given as goal

abbrev pub invariant-loop-place : goal.invariant-loop-place
invariant-loop-place l = l.rows.entries ≡ l.left ++ l.copies.entries

abbrev pub decreases-loop-place : goal.decreases-loop-place
decreases-loop-place l = length l.left

use Rattle.std.proofs.Common.{◌≡◌, ◌++◌, length}
use Rattle.pws_evidence.proofs.copying.copy_bodies.Given as goal

abbrev pub invariant-loop-key : goal.invariant-loop-key
invariant-loop-key l = l.bodies.entries ≡ l.left ++ l.copies.entries

abbrev pub decreases-loop-key : goal.decreases-loop-key
decreases-loop-key l = length l.left

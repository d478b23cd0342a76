use Rattle.std.proofs.Common.{◌≡◌, ◌++◌, length}
use Rattle.pws_evidence.proofs.copying.copy_statements.Given as goal

abbrev pub invariant-loop-key : goal.invariant-loop-key
invariant-loop-key l = l.statements.entries ≡ l.left ++ l.copies.entries

abbrev pub decreases-loop-key : goal.decreases-loop-key
decreases-loop-key l = length l.left

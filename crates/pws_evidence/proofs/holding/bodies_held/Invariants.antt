use Rattle.std.proofs.Common.{◌≡◌, ◌+◌, length}
use Rattle.pws_evidence.proofs.Summed.{all_of}
use Rattle.pws_evidence.proofs.holding.bodies_held.Given as goal

abbrev pub invariant-loop-key : goal.invariant-loop-key
invariant-loop-key l = all_of (λ b. 32 + length b) l.bodies.entries ≡ all_of (λ b. 32 + length b) l.left + l.total

abbrev pub decreases-loop-key : goal.decreases-loop-key
decreases-loop-key l = length l.left

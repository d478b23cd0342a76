use Rattle.std.proofs.Common.{◌≡◌, ◌+◌, length}
use Rattle.pws_protocol.specs.Held.{content_size}
use Rattle.pws_evidence.proofs.Summed.{all_of}
use Rattle.pws_evidence.proofs.holding.statements_held.Given as goal

abbrev pub invariant-loop-key : goal.invariant-loop-key
invariant-loop-key l = all_of content_size l.statements.entries ≡ all_of content_size l.left + l.total

abbrev pub decreases-loop-key : goal.decreases-loop-key
decreases-loop-key l = length l.left

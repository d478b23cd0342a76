use Rattle.std.proofs.Common.{◌≡◌, ◌++◌, length}
use Rattle.std.specs.Option.{option_map}
use Rattle.pws_sched.specs.FirstForm.{lines_of, moves_of}
use Rattle.pws_sched.proofs.first_form.read_moves.Given as goal

abbrev pub invariant-loop-line : goal.invariant-loop-line
invariant-loop-line l = moves_of (lines_of l.text) ≡ option_map (λ more. l.requests.items ++ more) (moves_of (lines_of l.rest))

abbrev pub decreases-loop-line : goal.decreases-loop-line
decreases-loop-line l = length l.rest

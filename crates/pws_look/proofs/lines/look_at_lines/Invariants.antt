use Rattle.std.proofs.Common.{length}
use Rattle.pws_script.specs.Lines.{lines_of}
use Rattle.pws_look.proofs.Reports.{AnsweredSoFar}
use Rattle.pws_look.proofs.lines.look_at_lines.Given as goal

abbrev pub invariant-loop-line : goal.invariant-loop-line
invariant-loop-line l = AnsweredSoFar l.kind (lines_of l.input) l.lines l.report

abbrev pub decreases-loop-line : goal.decreases-loop-line
decreases-loop-line l = length l.lines

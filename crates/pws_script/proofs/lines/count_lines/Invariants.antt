use Rattle.std.proofs.Common.{◌≡◌, ◌+◌, length}
use Rattle.pws_script.specs.Lines.{lines_of}
use Rattle.pws_script.proofs.lines.count_lines.Given as goal

abbrev pub invariant-loop-count : goal.invariant-loop-count
invariant-loop-count l = length (lines_of l.text) ≡ l.count + length l.lines

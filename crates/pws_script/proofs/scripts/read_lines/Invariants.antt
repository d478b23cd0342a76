use Rattle.std.proofs.Common.{◌≡◌, ◌+◌, length}
use Rattle.pws_script.specs.Lines.{lines_of}
use Rattle.pws_script.specs.Steps.{each_line}
use Rattle.pws_script.proofs.Onto.{onto}
use Rattle.pws_script.proofs.scripts.read_lines.Given as goal

abbrev pub invariant-loop-before : goal.invariant-loop-before
invariant-loop-before l =
    record {
      read : each_line l.count 1 (lines_of l.text) ≡ onto l.instructions.items (each_line l.count (l.before + 1) l.lines);
      left : l.before + length l.lines ≡ l.count;
    }

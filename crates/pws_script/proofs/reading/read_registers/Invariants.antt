use Rattle.std.proofs.Common.{◌≡◌, map, drop, length}
use Rattle.pws_script.specs.Steps.{registers_at}
use Rattle.pws_script.proofs.Onto.{onto}
use Rattle.pws_script.proofs.reading.read_registers.Given as goal

abbrev pub invariant-loop-word : goal.invariant-loop-word
invariant-loop-word l =
    record {
      read : registers_at (map (λ w. w.now) l.words) ≡ onto l.registers.items (registers_at (map (λ w. w.now) (drop l.word-index l.words)));
      count : length l.registers.items ≡ l.word-index;
    }

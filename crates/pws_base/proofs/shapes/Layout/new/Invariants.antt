use Rattle.std.proofs.Common.{◌≡◌, ℕ, ◌-◌, ◌≤◌, length, take, drop, replicate, get_or}
use Rattle.pws_base.proofs.shapes.Layout.new.Given as goal

abbrev pub invariant-loop-i : goal.invariant-loop-i
invariant-loop-i l =
    record {
      sixteen : length l.faults ≡ 16;
      front : take l.i l.faults ≡ take l.i l.shapes;
      rest : drop l.i l.faults ≡ replicate (16 - l.i) 0;
      small : (k : ℕ) → get_or l.faults k 0 ≤ 3;
    }

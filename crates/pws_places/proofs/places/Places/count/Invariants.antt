use Rattle.std.proofs.Common.{◌≡◌, ◌≤◌, ◌+◌, length}
use Rattle.std.specs.FinMap.{entries}
use Rattle.pws_places.proofs.places.Places.count.Given as goal

abbrev pub invariant-loop-row : goal.invariant-loop-row
invariant-loop-row g l = record {
  all : l.count + length l._row-iterator ≡ length (entries l.self.rows);
  few : length (entries l.self.rows) ≤ 32;
}

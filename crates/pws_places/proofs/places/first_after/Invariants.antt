use Rattle.std.proofs.Common.{◌≡◌, ◌≤◌}
use Rattle.std.specs.FinMap.{get}
use Rattle.pws_places.specs.Rings.{left_after}
use Rattle.pws_places.proofs.places.first_after.Given as goal

abbrev pub invariant-loop-before : goal.invariant-loop-before
invariant-loop-before g l = record {
  same : left_after (get l.places.rows) l.places.low l.passed ≡ left_after (get l.places.rows) l.places.low l.before;
  few : l.before ≤ 32;
}

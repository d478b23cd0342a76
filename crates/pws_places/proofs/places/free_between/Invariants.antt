use Rattle.std.proofs.Common.{◌≡◌, ◌<◌, ◌≤◌, ◌+◌, ℕ, None, length}
use Rattle.pws_places.specs.Rings.{row_in}
use Rattle.pws_places.proofs.places.free_between.Given as goal

abbrev pub invariant-loop-place : goal.invariant-loop-place
invariant-loop-place g l = record {
  whole : length l.ring.items ≡ 32;
  freed : (q : ℕ) → l.low < q → q ≤ l.place → row_in l.ring.items q ≡ None;
  kept : (q : ℕ) → l.place < q → q ≤ l.low + 32 → row_in l.ring.items q ≡ row_in l.initial.ring.items q;
}

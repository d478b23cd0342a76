use Rattle.std.proofs.Common.{◌≡◌, ℕ, None, length, get_or}
use Rattle.pws_places.proofs.places.new_ring.Given as goal

abbrev pub invariant-loop : goal.invariant-loop
invariant-loop g l = record {
  whole : length l.ring.items ≡ l.counter;
  free : (i : ℕ) → get_or l.ring.items i None ≡ None;
}

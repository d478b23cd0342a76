use Rattle.std.proofs.Common.{◌≡◌, ◌<◌, ℕ, None, length, get_or}
use Rattle.pws_places.proofs.places.free_all.Given as goal

abbrev pub invariant-loop-place : goal.invariant-loop-place
invariant-loop-place g l = record {
  whole : length l.ring.items ≡ 32;
  free : (i : ℕ) → i < l.place → get_or l.ring.items i None ≡ None;
}

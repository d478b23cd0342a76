use Rattle.std.proofs.Common.{◌≡◌, None, get_or, length-append, sym, subst, arith}
use Rattle.pws_places.proofs.RingLemmas.{free_pushed}
use Rattle.pws_places.proofs.places.new_ring.Goals as goal

pub loop-preserved : goal.loop-preserved
loop-preserved g c = record {
  whole = grind (arith, c.in_ok-push.ensures.items, c.loop.invariant.whole, length-append);
  free = λ i. subst (λ xs. get_or xs i None ≡ None) (sym c.in_ok-push.ensures.items) (free_pushed c.loop.ring.items c.loop.invariant.free i);
}

use Rattle.std.proofs.Common.{◌≡◌, ◌∙◌, ◌%◌, None, length, length-set, get_or, set, sym, ap, subst, arith}
use Rattle.pws_places.proofs.RingLemmas.{free_more, all_free}
use Rattle.pws_places.proofs.places.free_all.Goals as goal

pub loop-place-preserved : goal.loop-place-preserved
loop-place-preserved g c =
    let n = c.loop-place.place in
    let ring = c.loop-place.ring.items in
    let t = c.loop-place-test.true in
    let w = c.loop-place.invariant.whole in
    let at : n % 32 ≡ n = omega arith in
    let items = c.set_row.ensures ∙ ap (λ i. set ring i None) at in
    record {
      whole = ap length items ∙ (length-set ring n None ∙ w);
      free = λ i h. subst (λ xs. get_or xs i None ≡ None) (sym items) (free_more ring n (omega arith) c.loop-place.invariant.free i h);
    }

pub returns-clause-free : goal.returns-clause-free
returns-clause-free g c =
    let t = c.loop-place-test.false in
    let w = c.loop-place.invariant.whole in
    all_free c.loop-place.ring.items c.loop-place.place (omega arith) c.loop-place.invariant.free

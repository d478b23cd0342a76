use Rattle.std.proofs.Common.{◌≡◌, ◌∙◌, ◌+◌, ◌-◌, Some, None, sym, ap, arith}
use Rattle.std.specs.Option.{option_copied}
use Rattle.std.specs.FinMap.{get}
use Rattle.pws_places.specs.Rings.{entries_by}
use Rattle.pws_places.proofs.Listed.{none_left, passed_over, first_is}
use Rattle.pws_places.proofs.places.first_after.Goals as goal

pub returns-in-Some : goal.returns-in-Some
returns-in-Some g c =
    let rows = c.args.places.now.rows in
    let low = c.args.places.now.low in
    let n = c.loop-before.before in
    let t = c.loop-before-test.true in
    let at : get rows (low + 1 + n) ≡ Some c.in-Some.row.now = ap (λ l. get rows (l + 1 + n)) (sym c.low-low.ensures.value) ∙ (sym c.get.ensures.value ∙ ap option_copied c.in-Some.is) in
    (t, c.loop-before.invariant.same ∙ first_is (get rows) (low + 1 + n) (low + 1 + (n + 1)) (32 - n) (32 - (n + 1)) c.in-Some.row.now (omega arith) (omega arith) at)

pub loop-before-preserved : goal.loop-before-preserved
loop-before-preserved g c =
    let rows = c.args.places.now.rows in
    let low = c.args.places.now.low in
    let n = c.loop-before.before in
    let t = c.loop-before-test.true in
    let at : get rows (low + 1 + n) ≡ None = ap (λ l. get rows (l + 1 + n)) (sym c.low-low.ensures.value) ∙ (sym c.get.ensures.value ∙ ap option_copied c.in-None.is) in
    record {
      same = c.loop-before.invariant.same ∙ passed_over (get rows) (low + 1 + n) (low + 1 + (n + 1)) (32 - n) (32 - (n + 1)) (omega arith) (omega arith) at;
      few = omega arith;
    }

pub returns : goal.returns
returns g c =
    let rows = c.args.places.now.rows in
    let low = c.args.places.now.low in
    let n = c.loop-before.before in
    let t = c.loop-before-test.false in
    c.loop-before.invariant.same ∙ (ap (entries_by (get rows) (low + 1 + n)) (let z : 32 - n ≡ 0 = omega arith in z) ∙ none_left (get rows) (low + 1 + n))

use Rattle.std.proofs.Common.{◌≡◌, length, ◌∙◌, sym, ap, arith}
use Rattle.std.specs.FinMap.{entries, len-entries}
use Rattle.pws_places.proofs.places.Places.count.Goals as goal

pub returns-clause-value : goal.returns-clause-value
returns-clause-value g c =
    let none : length c.loop-row._row-iterator ≡ 0 = ap length c.in-None.ensures.steps.0 in
    let all = c.loop-row.invariant.all in
    let counted : c.loop-row.count ≡ length (entries c.args.self.now.rows) = omega arith in
    counted ∙ sym (len-entries c.args.self.now.rows)

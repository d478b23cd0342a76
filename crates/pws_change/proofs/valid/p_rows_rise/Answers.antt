use Rattle.std.proofs.Common.{nat_lt, rules, arith}
use Rattle.std.proofs.lemmas.Fn.{always_returns_same}
use Rattle.std.proofs.lemmas.Bool.{ltb-true, lt-ltb}
use Rattle.pws_msg.specs.declared.changes.PRow.{PRow}
use Rattle.pws_change.proofs.Rises.{rises_is}
use Rattle.pws_change.proofs.valid.p_rows_rise.Goals as goal

pub returns : goal.returns
returns c =
    rises_is (λ (a b : PRow). nat_lt a.place b.place) (λ x y z h k. lt-ltb x.place z.place (omega (arith, ltb-true x.place y.place h, ltb-true y.place z.place k))) c.args.rows.now _
    (c.is_sorted_by.ensures.cases (λ a b. nat_lt a.place b.place) (always_returns_same _ _ _ (λ a r f' k. search rules)))

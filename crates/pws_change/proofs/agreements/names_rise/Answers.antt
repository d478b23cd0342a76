use Rattle.std.proofs.Common.{nat_lt, rules, arith}
use Rattle.std.proofs.lemmas.Fn.{always_returns_same}
use Rattle.std.proofs.lemmas.Bool.{ltb-true, lt-ltb}
use Rattle.pws_msg.specs.declared.changes.Named.{Named}
use Rattle.pws_change.proofs.Rises.{rises_is}
use Rattle.pws_change.proofs.agreements.names_rise.Goals as goal

pub returns : goal.returns
returns c =
    rises_is (λ (a b : Named). nat_lt a.index b.index) (λ x y z h k. lt-ltb x.index z.index (omega (arith, ltb-true x.index y.index h, ltb-true y.index z.index k))) c.args.named.now _
    (c.is_sorted_by.ensures.cases (λ a b. nat_lt a.index b.index) (always_returns_same _ _ _ (λ a r f' k. search rules)))

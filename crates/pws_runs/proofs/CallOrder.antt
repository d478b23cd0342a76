-- The order of calls is total, and only a call ties with itself.
use Rattle.std.specs.Cmp.{IsTotalOrder, nat_cmp_total}
use Rattle.std.specs.FinMap.{IsAntisymmetric}
use Rattle.std.proofs.lemmas.Cmp.{on_total, then_total}
use Rattle.pws_base.proofs.ReplicaOrder.{pair_exact}
use Rattle.pws_service.specs.declared.keys.Key.{Key}
use Rattle.pws_runs.specs.ReplicaStates.{call_cmp}

pub calls_total : IsTotalOrder call_cmp
calls_total = then_total (on_total (λ (k : Key). k.group) nat_cmp_total) (on_total (λ (k : Key). k.number) nat_cmp_total)

pub calls_exact : IsAntisymmetric call_cmp
calls_exact a b h =
    let e = pair_exact a.group a.number b.group b.number h in
    λ i. record { group = e.0 i; number = e.1 i }

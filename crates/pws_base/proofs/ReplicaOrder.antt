-- The order of replicas is total, and only a replica ties with itself. For proofs alone; the crates above cite it.
use Rattle.std.proofs.Common.{◌≡◌, ℕ, ap}
use Rattle.std.specs.declared.cmp.Ordering.TheVariants.{Equal}
use Rattle.std.specs.Cmp.{IsTotalOrder, nat_cmp_total}
use Rattle.std.specs.FinMap.{IsAntisymmetric}
use Rattle.std.specs.Ordering.{nat_cmp, ordering_then}
use Rattle.std.proofs.lemmas.Cmp.{on_total, then_total}
use Rattle.std.proofs.lemmas.Map.Lookups.{exact_unsigned, exact_pairs}
use Rattle.pws_base.specs.declared.shapes.ReplicaId.{ReplicaId}
use Rattle.pws_base.specs.Replicas.{replica_cmp}

pub replicas_total : IsTotalOrder replica_cmp
replicas_total = then_total (on_total (λ (r : ReplicaId). r.group) nat_cmp_total) (on_total (λ (r : ReplicaId). r.index) nat_cmp_total)

-- two numbers that tie with two others, the first compared first, are these
pub pair_exact : (a b c d : ℕ) → ordering_then (nat_cmp a c) (nat_cmp b d) ≡ Equal → (a ≡ c) × (b ≡ d)
pair_exact a b c d h =
    let e : ◌≡◌ {A = ℕ × ℕ} (a, b) (c, d) = exact_pairs nat_cmp nat_cmp exact_unsigned exact_unsigned (a, b) (c, d) h in
    (ap (λ p. p.0) e, ap (λ p. p.1) e)

pub replicas_exact : IsAntisymmetric replica_cmp
replicas_exact a b h =
    let e = pair_exact a.group a.index b.group b.index h in
    λ i. record { group = e.0 i; index = e.1 i }

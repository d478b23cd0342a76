-- The entries of a `BTreeMap` of pairs as a finite map.
use Rattle.std.proofs.Common.{◌≡◌, ℕ, List, [], ◌∷◌, Some, cond, refl, sym, ◌∙◌, ap}
use Rattle.std.specs.declared.cmp.Ordering.{Ordering}
use Rattle.std.specs.BTreeMap.{is_at}
use Rattle.std.specs.Cmp.{IsTotalOrder, nat_cmp_total, eq_by_cmp_equiv}
use Rattle.std.specs.Map.{lookup}
use Rattle.std.specs.Ordering.{nat_cmp}
use Rattle.std.specs.FinMap.{from_entries, get, find, insert, get-from_entries, get-insert, same_map}
use Rattle.std.proofs.lemmas.Cmp.{on_total, then_total}
use Rattle.std.proofs.lemmas.Map.Lookups.{CmpEqualImpliesEq, exact_unsigned, exact_pairs}
use Rattle.pws_base.specs.declared.shapes.ReplicaId.{ReplicaId}
use Rattle.pws_auth.specs.declared.pairs.Pair.{Pair}
use Rattle.pws_base.specs.Replicas.{replica_cmp}
use Rattle.pws_auth.specs.Pairs.{pair_cmp}

replicas_total : IsTotalOrder replica_cmp
replicas_total = then_total (on_total (λ (r : ReplicaId). r.group) nat_cmp_total) (on_total (λ (r : ReplicaId). r.index) nat_cmp_total)

pub pairs_total : IsTotalOrder pair_cmp
pairs_total = then_total (on_total (λ (p : Pair). p.lesser) replicas_total) (on_total (λ (p : Pair). p.greater) replicas_total)

abbrev numbers_of : ReplicaId → ℕ × ℕ
numbers_of r = (r.group, r.index)

replicas_exact : CmpEqualImpliesEq replica_cmp
replicas_exact a b h =
    let e : numbers_of a ≡ numbers_of b = exact_pairs nat_cmp nat_cmp exact_unsigned exact_unsigned (numbers_of a) (numbers_of b) h in
    λ i. record { group = (e i).0; index = (e i).1 }

abbrev replicas_of : Pair → ReplicaId × ReplicaId
replicas_of p = (p.lesser, p.greater)

pub pairs_exact : CmpEqualImpliesEq pair_cmp
pairs_exact p q h =
    let e : replicas_of p ≡ replicas_of q = exact_pairs replica_cmp replica_cmp replicas_exact replicas_exact (replicas_of p) (replicas_of q) h in
    λ i. record { lesser = (e i).0; greater = (e i).1 }

find_is : {K X : Type 0} (R : K → K → Ordering) (es : List (K × X)) (q : K) → find R q es ≡ lookup (is_at (R q)) es
find_is R [] q = refl
find_is R (e ∷ es) q = ap (cond (is_at (R q) e.0) (Some e.1)) (find_is R es q)

pub get_is : {X : Type 0} (es : List (Pair × X)) (q : Pair) → get (from_entries {R = pair_cmp} es) q ≡ lookup (is_at (pair_cmp q)) es
get_is es q = get-from_entries pairs_total es q ∙ find_is pair_cmp es q

pub inserted : {X : Type 0} (es fs : List (Pair × X)) (k : Pair) (v : X) → ((q : Pair) → lookup (is_at (pair_cmp q)) fs ≡ cond (is_at (pair_cmp k) q) (Some v) (lookup (is_at (pair_cmp q)) es)) → from_entries {R = pair_cmp} fs ≡ insert (from_entries es) k v
inserted es fs k v h = same_map pairs_total pairs_exact _ _ (λ q.
    get_is fs q ∙ h q ∙ ap (λ b. cond b (Some v) (lookup (is_at (pair_cmp q)) es)) ((eq_by_cmp_equiv pairs_total).symm k q)
    ∙ sym (get-insert pairs_total (from_entries es) k v q ∙ ap (cond (is_at (pair_cmp q) k) (Some v)) (get_is es q)))

-- Replicas and other groups of a layout: when two are one, their order, and whether one is among several; this
-- project's own rules.
use Rattle.std.specs.Prelude.{ℕ, ◌&&◌, ◌||◌, ◌==◌, not, Bool, List, length, nat_lt}
use Rattle.std.specs.List.{list_any}
use Rattle.std.specs.Ordering.{nat_cmp, ordering_then}
use Rattle.std.specs.declared.cmp.Ordering.{Ordering}
use Rattle.std.specs.Coded.{Coded, code_by, coded×, coded_ℕ}
use Rattle.std.proofs.Common.{refl}
use Rattle.pws_base.specs.declared.shapes.ReplicaId.{ReplicaId}

-- whether two replicas are one
abbrev pub is_same : ReplicaId → ReplicaId → Bool
is_same a b = a.group == b.group && a.index == b.index

-- by group and then by index
abbrev pub is_before : ReplicaId → ReplicaId → Bool
is_before a b = nat_lt a.group b.group || (a.group == b.group && nat_lt a.index b.index)

-- the order of replicas: by group, then by index
abbrev pub replica_cmp : ReplicaId → ReplicaId → Ordering
replica_cmp a b = ordering_then (nat_cmp a.group b.group) (nat_cmp a.index b.index)

-- whether a replica is among these
abbrev pub is_among : List ReplicaId → ReplicaId → Bool
is_among members r = list_any (λ member. is_same member r) members

-- whether a group is another one than me of this layout
abbrev pub is_other : ℕ → List ℕ → ℕ → Bool
is_other me layout group = nat_lt group (length layout) && not (group == me)

-- how a replica is stored as a value: the pair of its group and its index
abbrev pub replica_code : Coded ReplicaId
replica_code = code_by (ℕ × ℕ) (coded× coded_ℕ coded_ℕ) (λ r. (r.group, r.index)) (λ p. record { group = p.0; index = p.1 }) (λ _. refl)

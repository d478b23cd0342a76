-- Which groups of a layout are sound, after the bound of Byzantine agreement (Lamport, Shostak and Pease 1982).
use Rattle.std.specs.Prelude.{ℕ, ◌≤◌, Bool, false, nat_le, List, IsSomeAnd, slice_get}
use Rattle.std.specs.Option.{option_map_or}
use Rattle.pws_base.specs.declared.shapes.ReplicaId.{ReplicaId}
use Rattle.pws_base.specs.Counts.{count_below}
use Rattle.pws_base.specs.Replicas.{is_among}
use Rattle.pws_base.specs.Shapes.{size_of_group}

-- whether the replica of this index of a group is among the compromised ones
abbrev pub is_compromised : List ReplicaId → ℕ → ℕ → Bool
is_compromised compromised group index = is_among compromised (record { group = group; index = index })

-- a group of the layout is sound where at most as many of its replicas are compromised as it bears
abbrev pub IsSound : List ℕ → List ReplicaId → ℕ → Type 0
IsSound layout compromised group = IsSomeAnd (slice_get layout group) (λ f. count_below (size_of_group f) (is_compromised compromised group) ≤ f)

-- so says the test
abbrev pub is_sound : List ℕ → List ReplicaId → ℕ → Bool
is_sound layout compromised group = option_map_or (λ f. nat_le (count_below (size_of_group f) (is_compromised compromised group)) f) (slice_get layout group) false

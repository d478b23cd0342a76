-- Groups of replicas, after the bound of Byzantine agreement (Lamport, Shostak and Pease 1982): 3f + 1 replicas bear
-- f compromised ones. The rest is this project's own.
use Rattle.std.specs.Prelude.{ℕ, ◌+◌, ◌*◌, ◌%◌, List, slice_get, Bool, false, nat_lt}
use Rattle.std.specs.Option.{option_map_or}
use Rattle.pws_base.specs.declared.shapes.ReplicaId.{ReplicaId}

-- how many replicas a group has that bears f compromised ones
abbrev pub size_of_group : ℕ → ℕ
size_of_group f = 3 * f + 1

-- how many replicas are a quorum
abbrev pub quorum_of : ℕ → ℕ
quorum_of f = 2 * f + 1

-- how many replicas are a weak certificate
abbrev pub weak_of : ℕ → ℕ
weak_of f = f + 1

-- the index of the primary of a view
abbrev pub primary_of : ℕ → ℕ → ℕ
primary_of f view = view % size_of_group f

-- whether a layout, the list of its groups' numbers f, has this replica
abbrev pub has_replica : List ℕ → ReplicaId → Bool
has_replica layout r = option_map_or (λ f. nat_lt r.index (size_of_group f)) (slice_get layout r.group) false

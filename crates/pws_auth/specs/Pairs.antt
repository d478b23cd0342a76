-- Pairs of replicas that share a key; the rules are this project's own.
use Rattle.std.specs.Prelude.{if◌then◌else◌}
use Rattle.std.specs.Ordering.{ordering_then}
use Rattle.std.specs.declared.cmp.Ordering.{Ordering}
use Rattle.pws_base.specs.declared.shapes.ReplicaId.{ReplicaId}
use Rattle.pws_base.specs.Replicas.{is_before, replica_cmp}
use Rattle.pws_auth.specs.declared.pairs.Pair.{Pair}

-- the pair of two replicas, whichever is named first
abbrev pub pair_of : ReplicaId → ReplicaId → Pair
pair_of a b = if is_before b a then record { lesser = b; greater = a } else record { lesser = a; greater = b }

-- the order of pairs: by the lesser replica, then by the greater
abbrev pub pair_cmp : Pair → Pair → Ordering
pair_cmp p q = ordering_then (replica_cmp p.lesser q.lesser) (replica_cmp p.greater q.greater)

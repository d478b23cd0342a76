use Rattle.std.proofs.Common.{◌≡◌, ◌&&◌, nat_lt}
use Rattle.pws_base.specs.Shapes.{has_replica}
use Rattle.pws_base.specs.declared.shapes.ReplicaId.{ReplicaId}
use Rattle.pws_base.specs.Replicas.{is_among}
use Rattle.pws_auth.proofs.members.members_of.Given as goal

abbrev pub invariant-loop-group : goal.invariant-loop-group
invariant-loop-group l =
    (r : ReplicaId) → is_among l.members.items r ≡ nat_lt r.group l.group && has_replica l.layout r

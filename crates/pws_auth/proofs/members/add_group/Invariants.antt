use Rattle.std.proofs.Common.{◌≡◌, ◌==◌, ◌&&◌, ◌||◌, nat_lt}
use Rattle.pws_base.specs.declared.shapes.ReplicaId.{ReplicaId}
use Rattle.pws_base.specs.Replicas.{is_among}
use Rattle.pws_auth.proofs.members.add_group.Given as goal

abbrev pub invariant-loop-index : goal.invariant-loop-index
invariant-loop-index l =
    (r : ReplicaId) → is_among l.members.items r ≡ is_among l.initial.members.items r || (l.group == r.group && nat_lt r.index l.index)

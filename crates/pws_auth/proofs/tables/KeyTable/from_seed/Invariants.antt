use Rattle.std.proofs.Common.{◌≡◌, take}
use Rattle.pws_base.specs.declared.shapes.ReplicaId.{ReplicaId}
use Rattle.pws_auth.specs.Keys.{key_for}
use Rattle.pws_auth.proofs.Seeds.{key_among}
use Rattle.pws_auth.proofs.tables.KeyTable.from_seed.Given as goal

abbrev pub invariant-loop-i : goal.invariant-loop-i
invariant-loop-i l =
    record {
      layout : l.table.layout ≡ l.layout;
      keys : (a b : ReplicaId) → key_for l.table a b ≡ key_among (take l.i l.member-items) l.seed a b;
    }

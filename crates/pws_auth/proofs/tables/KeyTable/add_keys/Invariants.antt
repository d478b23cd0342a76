use Rattle.std.proofs.Common.{◌≡◌, take}
use Rattle.pws_base.specs.declared.shapes.ReplicaId.{ReplicaId}
use Rattle.pws_auth.specs.Keys.{key_for}
use Rattle.pws_auth.specs.Steps.{added_by_seed}
use Rattle.pws_auth.proofs.tables.KeyTable.add_keys.Given as goal

abbrev pub invariant-loop-other : goal.invariant-loop-other
invariant-loop-other l =
    record {
      layout : l.self.layout ≡ l.initial.self.layout;
      keys : (a b : ReplicaId) → key_for l.self a b ≡ added_by_seed l.seed l.member (take l.other-index l.others) a b (key_for l.initial.self a b);
    }

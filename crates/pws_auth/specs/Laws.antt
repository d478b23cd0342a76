-- Laws of keys.
use Rattle.std.specs.Prelude.{◌≡◌, ℕ, List, Option, None}
use Rattle.pws_base.specs.declared.shapes.ReplicaId.{ReplicaId}
use Rattle.pws_auth.specs.Keys.{Keys, key_for}

-- two replicas have one key, whichever is named first
abbrev pub KeysAreShared : Type 0
KeysAreShared = (table : Keys) (a b : ReplicaId) → key_for table a b ≡ key_for table b a

-- a replica has no key with itself
abbrev pub NoKeyWithOneself : Type 0
NoKeyWithOneself = (table : Keys) (a : ReplicaId) → ◌≡◌ {A = Option (List ℕ)} (key_for table a a) None

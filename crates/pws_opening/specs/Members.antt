-- A replica of a layout with its keys; this project's own.
use Rattle.std.specs.Prelude.{◌≡◌, IsTrue, Result, Ok, Err}
use Rattle.std.specs.Coded.{Coded, code_by, coded×}
use Rattle.std.proofs.Common.{refl}
use Rattle.pws_base.specs.declared.shapes.ReplicaId.{ReplicaId}
use Rattle.pws_base.specs.Shapes.{has_replica}
use Rattle.pws_base.specs.Replicas.{replica_code}
use Rattle.pws_auth.specs.Keys.{Keys, SealsForAll, keys_code}
use Rattle.pws_opening.specs.declared.errors.BadReplica.{BadReplica}

-- who it is, and its keys, with the layout
pub record Member : Type 0 where
  pub me : ReplicaId
  pub keys : Keys

-- it is a replica of the layout, and has its key with each other one
pub record IsMember (m : Member) : Type 0 where
  pub known : IsTrue (has_replica m.keys.layout m.me)
  pub seals : SealsForAll m.keys m.me

-- it is a member, and BadReplica comes of none
abbrev pub GivesMember : ReplicaId → Keys → Result Member BadReplica → Type 0
GivesMember me keys (Ok m) = IsMember (record { me = me; keys = keys }) × (m ≡ record { me = me; keys = keys })
GivesMember me keys (Err e) = ¬ IsMember (record { me = me; keys = keys })

-- how a member is stored as a value: the pair of its name and its keys
abbrev pub member_code : Coded Member
member_code = code_by (ReplicaId × Keys) (coded× replica_code keys_code) (λ m. (m.me, m.keys)) (λ p. record { me = p.0; keys = p.1 }) (λ _. refl)

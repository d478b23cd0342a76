-- For proofs alone: how a table is filled, the keys of a seed one replica after the other, and rows one after the other.
use Rattle.std.specs.Prelude.{◌≡◌, ℕ, Bool, true, false, ◌&&◌, ◌||◌, not, if◌then◌else◌, List, is_some, Option, Some, Result, Ok, Err}
use Rattle.pws_base.specs.declared.shapes.ReplicaId.{ReplicaId}
use Rattle.pws_base.specs.Shapes.{has_replica}
use Rattle.pws_auth.specs.declared.tables.KeysError.{KeysError}
use Rattle.pws_auth.specs.declared.tables.KeysError.TheVariants as keys_error
use Rattle.pws_base.specs.Replicas.{is_same, is_among}
use Rattle.pws_auth.specs.Pairs.{pair_of}
use Rattle.pws_auth.specs.Tags.{seed_key}
use Rattle.pws_auth.specs.Keys.{Keys, key_for}

-- the key of two replicas after those of one replica with each of others were made from a seed
abbrev pub added_by_seed : List ℕ → ReplicaId → List ReplicaId → ReplicaId → ReplicaId → Option (List ℕ) → Option (List ℕ)
added_by_seed seed member others a b before =
    if not (is_same a b) && ((is_same member a && is_among others b) || (is_same member b && is_among others a)) then Some (seed_key seed (pair_of a b)) else before

-- whether two replicas are these two, whichever is named first
abbrev pub are_these : ReplicaId → ReplicaId → ReplicaId → ReplicaId → Bool
are_these x y a b = (is_same x a && is_same y b) || (is_same x b && is_same y a)

-- the key of two replicas after these two got this key
abbrev pub added_pair : ReplicaId → ReplicaId → List ℕ → ReplicaId → ReplicaId → Option (List ℕ) → Option (List ℕ)
added_pair x y key a b before = if not (is_same a b) && are_these x y a b then Some key else before

-- whether a replica can be given a row: it is another one, and has none yet
abbrev pub is_free : Keys → ReplicaId → ReplicaId → Bool
is_free table me r = has_replica table.layout r && not (is_same r me) && not (is_some (key_for table me r))

-- a row is added where its replica is free, and else BadKeys comes
abbrev pub AddsRow : Keys → Keys → ReplicaId → ReplicaId → List ℕ → Result (Unit {0}) KeysError → Type 0
AddsRow old new me r key (Ok done) = (is_free old me r ≡ true) × ((a b : ReplicaId) → key_for new a b ≡ added_pair me r key a b (key_for old a b))
AddsRow old new me r key (Err keys_error.BadKeys) = is_free old me r ≡ false
AddsRow old new me r key (Err keys_error.Memory) = Unit {0}

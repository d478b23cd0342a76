-- The text under a tag, and keys from a seed; the rules are this project's own.
use Rattle.std.specs.Prelude.{ℕ, List, [], ◌∷◌, ◌++◌, codes}
use Rattle.sha2.specs.Sha256.{sha256}
use Rattle.pws_base.specs.declared.shapes.ReplicaId.{ReplicaId}
use Rattle.pws_auth.specs.declared.pairs.Pair.{Pair}
use Rattle.pws_auth.specs.Hmac.{hmac}

-- a replica in two bytes, its group and its index
abbrev pub replica_text : ReplicaId → List ℕ
replica_text r = r.group ∷ r.index ∷ []

-- the text under the tag of a sender for a receiver: both, and the digest of the content
abbrev tag_text : ReplicaId → ReplicaId → List ℕ → List ℕ
tag_text sender receiver content = replica_text sender ++ replica_text receiver ++ sha256 content

-- the tag of a sender for a receiver, under the key that they share
unfoldable pub tag_of : List ℕ → ReplicaId → ReplicaId → List ℕ → List ℕ
tag_of key sender receiver content = hmac key (tag_text sender receiver content)

-- the key of a pair from a seed
unfoldable pub seed_key : List ℕ → Pair → List ℕ
seed_key seed pair = hmac seed (codes "pws key" ++ replica_text pair.lesser ++ replica_text pair.greater)

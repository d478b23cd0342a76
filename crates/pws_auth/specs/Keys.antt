-- Tables of keys: what a table has, seals and checks; the rules are this project's own.
use Rattle.std.specs.Prelude.{◌≡◌, ℕ, Bool, true, false, IsTrue, ◌&&◌, ◌||◌, not, if◌then◌else◌, List, [], ◌∷◌, map, find, replicate, is_some, IsSomeAnd, Option, Some, None, Result, Ok, Err, slice_get}
use Rattle.std.specs.Option.{option_map_or, option_map}
use Rattle.std.specs.List.{range_with_len, list_any, list_all}
use Rattle.std.specs.Str.{bytes_eq}
use Rattle.std.specs.Coded.{Coded, code_by, coded×, coded_ℕ, coded_list}
use Rattle.std.specs.FinMap.{FinMap, get}
use Rattle.std.specs.FinMap as finite
use Rattle.std.proofs.Common.{refl}
use Rattle.pws_base.specs.declared.shapes.ReplicaId.{ReplicaId}
use Rattle.pws_base.specs.Shapes.{has_replica, size_of_group}
use Rattle.pws_auth.specs.declared.pairs.Pair.{Pair}
use Rattle.pws_auth.specs.declared.tables.KeysError.{KeysError}
use Rattle.pws_auth.specs.declared.tables.KeysError.TheVariants as keys_error
use Rattle.pws_base.specs.Replicas.{is_same, replica_code}
use Rattle.pws_auth.specs.Pairs.{pair_of, pair_cmp}
use Rattle.pws_auth.specs.Tags.{tag_of, seed_key}

-- the layout of the groups, and the keys of pairs
pub record Keys : Type 0 where
  pub layout : List ℕ
  pub keys : FinMap pair_cmp (List ℕ)

-- how a table is stored as a value: a pair as the pair of its replicas
abbrev pair_code : Coded Pair
pair_code = code_by (ReplicaId × ReplicaId) (coded× replica_code replica_code) (λ p. (p.lesser, p.greater)) (λ p. record { lesser = p.0; greater = p.1 }) (λ _. refl)

abbrev pub keys_code : Coded Keys
keys_code = code_by (List ℕ × FinMap pair_cmp (List ℕ)) (coded× (coded_list coded_ℕ) (finite.code pair_code (coded_list coded_ℕ))) (λ t. (t.layout, t.keys)) (λ p. record { layout = p.0; keys = p.1 }) (λ _. refl)

-- the key of two replicas, whichever is named first; a replica has no key with itself
unfoldable pub key_for : Keys → ReplicaId → ReplicaId → Option (List ℕ)
key_for table a b = if is_same a b then None else get table.keys (pair_of a b)

-- what a table is: the function that tells the key of each two replicas
abbrev pub IsTable : Keys → (ReplicaId → ReplicaId → Option (List ℕ)) → Type 0
IsTable table key = (a b : ReplicaId) → key_for table a b ≡ key a b

-- whether a tag is that of the sender for the receiver over this content, under a key of the table
abbrev pub is_tag : Keys → ReplicaId → ReplicaId → List ℕ → List ℕ → Bool
is_tag table sender receiver content tag = option_map_or (λ key. bytes_eq (tag_of key sender receiver content) tag) (key_for table sender receiver) false

-- the table has a key of sender and receiver, and the tag is theirs over this content
abbrev pub IsTag : Keys → ReplicaId → ReplicaId → List ℕ → List ℕ → Type 0
IsTag table sender receiver content tag = IsSomeAnd (key_for table sender receiver) (λ key. tag_of key sender receiver content ≡ tag)

-- whether the table has the key with which the sender seals for this replica; for itself it needs none
abbrev pub has_key : Keys → ReplicaId → ReplicaId → Bool
has_key table sender r = is_same sender r || is_some (key_for table sender r)

-- whether the table has the sender's key with each of the first n replicas of a group
abbrev pub has_keys : Keys → ReplicaId → ℕ → ℕ → Bool
has_keys table sender group n = list_all (λ index. has_key table sender (record { group = group; index = index })) (range_with_len 0 n)

-- whether the group is one of the layout and the table has the sender's key with each replica of it
abbrev pub can_seal : Keys → ReplicaId → ℕ → Bool
can_seal table sender group = option_map_or (λ f. has_keys table sender group (size_of_group f)) (slice_get table.layout group) false

-- a sender that can seal for every group of the layout
abbrev pub SealsForAll : Keys → ReplicaId → Type 0
SealsForAll table sender = (group : ℕ) → IsTrue (is_some (slice_get table.layout group)) → IsTrue (can_seal table sender group)

-- the sender's tag for a replica; for itself 32 zero bytes
abbrev pub tag_for : Keys → ReplicaId → List ℕ → ReplicaId → List ℕ
tag_for table sender content r =
    if is_same sender r then replicate 32 0
    else option_map_or (λ key. tag_of key sender r content) (key_for table sender r) []

-- the tags of a sender for the replicas of a group, rising
abbrev pub tags_for : Keys → ReplicaId → List ℕ → ℕ → List (List ℕ)
tags_for table sender content group = map (λ index. tag_for table sender content (record { group = group; index = index })) (range_with_len 0 (option_map_or size_of_group (slice_get table.layout group) 0))

-- the key that a layout's replicas share by a seed
abbrev pub key_of_seed : List ℕ → List ℕ → ReplicaId → ReplicaId → Option (List ℕ)
key_of_seed layout seed a b = if not (is_same a b) && has_replica layout a && has_replica layout b then Some (seed_key seed (pair_of a b)) else None

-- rows of a table of one replica: another replica, and the key with it
abbrev pub Rows : Type 0
Rows = List (ReplicaId × List ℕ)

-- whether a row names this replica
abbrev pub is_named : Rows → ReplicaId → Bool
is_named rows r = list_any (λ row. is_same row.0 r) rows

-- whether no replica is named twice
abbrev pub are_distinct : Rows → Bool
are_distinct [] = true
are_distinct (row ∷ rows) = not (is_named rows row.0) && are_distinct rows

-- the rows name each replica other than me once, and no others
pub record AreRowsOf (layout : List ℕ) (me : ReplicaId) (rows : Rows) : Type 0 where
  pub others : list_all (λ row. has_replica layout row.0 && not (is_same row.0 me)) rows ≡ true
  pub once : are_distinct rows ≡ true
  pub whole : (r : ReplicaId) → has_replica layout r ≡ true → is_same me r || is_named rows r ≡ true

-- the key that the rows give a replica
abbrev pub row_key : Rows → ReplicaId → Option (List ℕ)
row_key rows r = option_map (λ row. row.1) (find (λ row. is_same row.0 r) rows)

-- the key of two replicas, of which one is me, by the rows of me
abbrev pub key_of_rows : ReplicaId → Rows → ReplicaId → ReplicaId → Option (List ℕ)
key_of_rows me rows a b =
    if is_same a b then None
    else if is_same me a then row_key rows b
    else if is_same me b then row_key rows a
    else None

-- a table comes of rows as they ought to be, and has their keys; BadKeys comes of no such rows
abbrev pub GivesRows : List ℕ → ReplicaId → Rows → Result Keys KeysError → Type 0
GivesRows layout me rows (Ok table) = AreRowsOf layout me rows × IsTable table (key_of_rows me rows)
GivesRows layout me rows (Err keys_error.BadKeys) = ¬ AreRowsOf layout me rows
GivesRows layout me rows (Err keys_error.Memory) = Unit {0}

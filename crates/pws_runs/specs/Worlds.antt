-- A world of replicas as plain data; this project's own.
use Rattle.std.specs.Prelude.{◌≡◌, ℕ, ◌≤◌, ◌++◌, ◌==◌, not, Bool, nat_le, true, List, [], map, filter, length, slice_index, count_by, All}
use Rattle.std.specs.List.{fold, flat_map, range_with_len, list_all}
use Rattle.std.specs.FinMap.{FinMap, empty, insert}
use Rattle.pws_base.specs.declared.shapes.ReplicaId.{ReplicaId}
use Rattle.pws_base.specs.Shapes.{has_replica, size_of_group}
use Rattle.pws_base.specs.Replicas.{is_same, is_among, replica_cmp}
use Rattle.pws_auth.specs.Keys.{Keys, key_for, key_of_seed}
use Rattle.pws_event.specs.declared.events.Event.{Event}
use Rattle.pws_service.specs.Drivers.{IsPrefix}
use Rattle.pws_service.specs.Effects.{InTurn}
use Rattle.pws_service.specs.Lawful.{LawfulCalls, LawfulReplies, LawfulAsks}
use Rattle.pws_msg.specs.Packets.{PacketFields}
use Rattle.pws_protocol.specs.Keys.{replica}
use Rattle.pws_runs.specs.ReplicaStates.{ReplicaState, Serve, first_state}

-- what a world is made of and never changes
pub record Setting : Type 0 where
  pub keys : Keys  -- of all pairs of replicas, with the layout
  pub bad : List ReplicaId  -- the compromised replicas
  pub serve : ℕ → Serve  -- the service of each group

-- what moves change
pub record WorldState : Type 0 where
  pub replicas : FinMap replica_cmp ReplicaState  -- the correct ones
  pub sent : List PacketFields  -- all packets that they sent, in order
  pub texts : List (List ℕ)  -- the digested texts, without repetition
  pub steps : ℕ  -- how many moves there were

-- the replicas of a group of a layout, rising; all of them, by group and index
abbrev pub members_of : List ℕ → ℕ → List ReplicaId
members_of layout group = map (replica group) (range_with_len 0 (size_of_group (slice_index layout group)))

-- all replicas of a layout, by group and index
abbrev all_replicas : List ℕ → List ReplicaId
all_replicas layout = flat_map (members_of layout) (range_with_len 0 (length layout))

-- whether a replica is compromised
abbrev pub is_bad : Setting → ReplicaId → Bool
is_bad e r = is_among e.bad r

-- a group is sound where at most f of its replicas are compromised
abbrev pub is_sound : Setting → ℕ → Bool
is_sound e group = nat_le (count_by (λ b. b.group == group) e.bad) (slice_index e.keys.layout group)

-- the correct replicas of a world, by group and index
abbrev pub correct : Setting → List ReplicaId
correct e = filter (λ r. not (is_bad e r)) (all_replicas e.keys.layout)

-- a replica that had no input yet is put in
abbrev pub with_first : Setting → FinMap replica_cmp ReplicaState → ReplicaId → FinMap replica_cmp ReplicaState
with_first e m r = insert m r (first_state r e.keys)

-- before the first move
unfoldable pub first_world : Setting → WorldState
first_world e = record { replicas = fold (with_first e) empty (correct e); sent = []; texts = []; steps = 0 }

-- a setting as a world is made of it: 1 to 16 groups with f up to 3, the keys of a seed, compromised replicas of the
-- layout, none named twice, and services that never take back an act and whose acts are lawful
pub record IsSetting (seed : List ℕ) (e : Setting) : Type 0 where
  pub groups : (1 ≤ length e.keys.layout) × (length e.keys.layout ≤ 16)
  pub shapes : All (λ f. f ≤ 3) e.keys.layout
  pub keys : (a b : ReplicaId) → key_for e.keys a b ≡ key_of_seed e.keys.layout seed a b
  pub replicas : list_all (has_replica e.keys.layout) e.bad ≡ true
  pub once : (r : ReplicaId) → count_by (is_same r) e.bad ≤ 1
  pub grows : (group : ℕ) (earlier later : List Event) → IsPrefix (e.serve group earlier) (e.serve group (earlier ++ later))
  pub lawful :
      (group : ℕ) (es : List Event) → InTurn group e.keys.layout (e.serve group) [] es
      → LawfulCalls group e.keys.layout es [] (e.serve group es) × LawfulReplies es [] (e.serve group es) × LawfulAsks es [] (e.serve group es)

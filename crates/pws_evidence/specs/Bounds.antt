-- How many bytes of evidence are held at most; this project's own.
-- `IsSettled` holds of evidence that was heard of replicas of the layout and settled.
use Rattle.std.specs.Prelude.{◌≡◌, ℕ, ◌<◌, ◌≤◌, true, List, length, slice_index, Some}
use Rattle.std.specs.FinMap.{get}
use Rattle.pws_base.specs.declared.shapes.ReplicaId.{ReplicaId}
use Rattle.pws_base.specs.Limits.{max_body, max_groups, max_compromised}
use Rattle.pws_base.specs.Shapes.{has_replica}
use Rattle.pws_event.specs.Counters.{Counters}
use Rattle.pws_msg.specs.declared.contents.Content.{Content}
use Rattle.pws_msg.specs.declared.contents.Content.TheVariants as content
use Rattle.pws_msg.specs.Contents.{IsContent}
use Rattle.pws_msg.specs.Statements.{ReplyNoteFields}
use Rattle.pws_protocol.specs.declared.keys.Matter.TheVariants.{Replied}
use Rattle.pws_protocol.specs.declared.keys.StatementKey.{StatementKey}
use Rattle.pws_protocol.specs.declared.keys.BodyKey.{BodyKey}
use Rattle.pws_protocol.specs.Keys.{replica, statement_key}
use Rattle.pws_protocol.specs.Evidence.{Evidence, no_evidence, is_inside, settled, note}
use Rattle.pws_protocol.specs.Fits.{FitsEvidence}
use Rattle.pws_protocol.specs.Held.{evidence_held}

-- how many bytes of evidence are held at most: 160 MiB
abbrev pub max_evidence : ℕ
max_evidence = 167772160

-- the layout is one that there may be, and has the group
pub record IsPlaced (group : ℕ) (layout : List ℕ) : Type 0 where
  pub own : group < length layout
  pub few : length layout ≤ max_groups
  pub shapes : (g : ℕ) → slice_index layout g ≤ max_compromised

-- a replica's reply names a body
abbrev pub IsNaming : Evidence → BodyKey → Type 0
IsNaming e k =
    (index : ℕ) × (r : ReplyNoteFields)
    × (get e.statements (statement_key (replica k.called index) (Replied k.called k.number)) ≡ Some (content.Reply r)) × (r.digest ≡ k.digest)

-- all that is kept is of replicas of the layout, and inside; bodies are as short as they may be, and each is named by a
-- reply that is kept
pub record IsSettled (e : Evidence) (asked : Counters) : Type 0 where
  pub placed : IsPlaced e.group e.layout
  pub fits : FitsEvidence e
  pub senders : (k : StatementKey) (c : Content) → get e.statements k ≡ Some c → has_replica e.layout k.sender ≡ true
  pub inside : (k : StatementKey) (c : Content) → get e.statements k ≡ Some c → is_inside e asked k.matter ≡ true
  pub short : (k : BodyKey) (body : List ℕ) → get e.bodies k ≡ Some body → length body ≤ max_body
  pub named : (k : BodyKey) (body : List ℕ) → get e.bodies k ≡ Some body → IsNaming e k

-- evidence that is settled stays within its bound
abbrev pub EvidenceIsBounded : Type 0
EvidenceIsBounded = (e : Evidence) (asked : Counters) → IsSettled e asked → evidence_held e ≤ max_evidence

-- evidence is settled before anything is heard
abbrev pub StartIsSettled : Type 0
StartIsSettled = (group : ℕ) (layout : List ℕ) (asked : Counters) → IsPlaced group layout → IsSettled (no_evidence group layout) asked

-- once the group asked more or was answered, it is again as soon as it is settled
abbrev pub SettlingSettles : Type 0
SettlingSettles = (e : Evidence) (before asked : Counters) → IsSettled e before → IsSettled (settled e asked) asked

-- and it stays so, whatever a replica of the layout says
abbrev pub HearingKeepsSettled : Type 0
HearingKeepsSettled =
    (e : Evidence) (asked : Counters) (sender : ReplicaId) (c : Content) (body : List ℕ)
    → IsContent c → length body ≤ max_body → has_replica e.layout sender ≡ true → IsSettled e asked
    → IsSettled (note e asked sender c body).evidence asked

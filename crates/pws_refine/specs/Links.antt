-- What a voter holds as said by others can be heard as theirs; this project's own. There is a predicate a field of the
-- state, and `Links` has them all. Slots, P and Q need none: they are the voter's own doing, and the safety argument keeps
-- what they are.
use Rattle.std.specs.Prelude.{◌≡◌, ℕ, ◌+◌, ◌<◌, ◌≤◌, Bool, true, false, List, Option, Some, None}
use Rattle.std.specs.Ordering.{nat_cmp}
use Rattle.std.specs.Cmp.Lexicographic.{slice_cmp}
use Rattle.std.specs.FinMap.{FinMap, get}
use Rattle.pws_base.specs.Limits.{place_window}
use Rattle.pws_event.specs.declared.events.Event.{Event}
use Rattle.pws_event.specs.Events.{digest_of}
use Rattle.pws_msg.specs.declared.changes.NewView.{NewView}
use Rattle.pws_msg.specs.declared.contents.Content.{Content}
use Rattle.pws_msg.specs.declared.contents.Content.TheVariants as content
use Rattle.pws_change.specs.Valid.{IsValid}
use Rattle.pws_votes.specs.declared.kinds.VoteKind.TheVariants as kind
use Rattle.pws_votes.specs.Votes.{Book, key}
use Rattle.pws_safety.specs.Statement.{PrePrepare, Prepare, Commit, Ack}
use Rattle.pws_safety.specs.Statement as say
use Rattle.pws_safety.specs.Statements.{Sent, Told, size, primary}
use Rattle.pws_safety.specs.Voters.{IsHeard}
use Rattle.pws_protocol.specs.declared.keys.StatementKey.{StatementKey}
use Rattle.pws_protocol.specs.Keys.{replica, statement_cmp}
use Rattle.pws_protocol.specs.States.{State, Slot, HeldChange, Relayed}
use Rattle.pws_refine.specs.Contexts.{Context}

-- each view change that is heard can be heard from its replica, is valid, and is held under its digest
abbrev HeardLinks : Context → Sent → FinMap nat_cmp HeldChange → Type 0
HeardLinks c sent heard =
    (j : ℕ) (x : HeldChange) → get heard j ≡ Some x
    → IsHeard c.group sent x.change.view j x.change × (c.group.digest_of x.change ≡ x.digest)

-- above view 0 its own view change for the view is heard
abbrev OwnLink : Context → ℕ → FinMap nat_cmp HeldChange → Type 0
OwnLink c view heard = 0 < view → (x : HeldChange) × (get heard c.me.index ≡ Some x) × (x.change.view ≡ view)

-- each acknowledgment for the view can be heard from its replica, and is of another's view change
abbrev AckLinks : Context → Sent → ℕ → FinMap nat_cmp (FinMap nat_cmp (List ℕ)) → Type 0
AckLinks c sent view acks =
    (i j : ℕ) (row : FinMap nat_cmp (List ℕ)) (digest : List ℕ) → get acks i ≡ Some row → get row j ≡ Some digest
    → (i ≡ j → ⊥) × (i < size c.group) × Told c.group sent i (Ack view j digest)

-- the new view is for the view, and can be heard from its primary; on the way into the view only a backup has one
abbrev NewViewLink : Context → Sent → ℕ → Bool → Option NewView → Type 0
NewViewLink c sent view active new_view =
    (v : NewView) → new_view ≡ Some v
    → (v.view ≡ view) × Told c.group sent (primary c.group view) (say.NewView v)
    × (active ≡ false → c.me.index ≡ primary c.group view → ⊥)

-- each view change that was passed on is a valid one for the view, is held under its digest, and can be heard from its
-- replica where its tag verified
abbrev RelayLinks : Context → Sent → ℕ → FinMap nat_cmp Relayed → Type 0
RelayLinks c sent view relayed =
    (j : ℕ) (x : Relayed) → get relayed j ≡ Some x
    → (j < size c.group) × (x.change.view ≡ view) × IsValid x.change × (c.group.occurs x.change ≡ true)
    × (c.group.digest_of x.change ≡ x.digest) × (x.is_verified ≡ true → Told c.group sent j (say.ViewChange x.change))

-- why an event is pending at a place: an active backup heard the primary propose it for a place of the window, above the
-- floor, where nothing is accepted
abbrev pub IsPendingAt : Context → Sent → ℕ → Bool → ℕ → ℕ → FinMap nat_cmp Slot → ℕ → Event → Type 0
IsPendingAt c sent view active floor low slots p e =
    (active ≡ true) × (c.me.index ≡ primary c.group view → ⊥) × (floor < p) × (low < p) × (p ≤ low + place_window)
    × (get slots p ≡ None) × Told c.group sent (primary c.group view) (PrePrepare view p (digest_of e))
    × (c.occurs_event e ≡ true)

-- each pending event is pending for this reason
abbrev PendingLinks : Context → Sent → ℕ → Bool → ℕ → ℕ → FinMap nat_cmp Slot → FinMap nat_cmp Event → Type 0
PendingLinks c sent view active floor low slots pending =
    (p : ℕ) (e : Event) → get pending p ≡ Some e → IsPendingAt c sent view active floor low slots p e

-- each vote to prepare can be heard from its voter in the view, and none is the primary's
abbrev PrepareLinks : Context → Sent → ℕ → Book → Type 0
PrepareLinks c sent view book =
    (p k : ℕ) (digest : List ℕ) → get book.votes (key kind.Prepare p k) ≡ Some digest
    → (k ≡ primary c.group view → ⊥) × Told c.group sent k (Prepare view p digest)

-- each vote to commit can be heard from its voter in the view
abbrev CommitLinks : Context → Sent → ℕ → Book → Type 0
CommitLinks c sent view book =
    (p k : ℕ) (digest : List ℕ) → get book.votes (key kind.Commit p k) ≡ Some digest → Told c.group sent k (Commit view p digest)

-- each vote for a checkpoint was said by its voter
abbrev CheckpointLinks : Context → Book → Type 0
CheckpointLinks c book =
    (p k : ℕ) (digest : List ℕ) → get book.votes (key kind.Checkpoint p k) ≡ Some digest
    → c.speaks (replica c.me.group k) (content.Checkpoint (record { place = p; digest = digest })) ≡ true

-- each DONE that is held was said by its replica, for the place after the last one executed, which is in the window
abbrev DoneLinks : Context → ℕ → ℕ → FinMap nat_cmp Event → Type 0
DoneLinks c low done dones =
    (k : ℕ) (e : Event) → get dones k ≡ Some e
    → (c.speaks (replica c.me.group k) (content.Done (record { place = done + 1; event = e })) ≡ true) × (done < low + place_window)

-- each statement that is kept as evidence can be heard from its replica
abbrev pub EvidenceLinks : Context → FinMap statement_cmp Content → Type 0
EvidenceLinks c statements = (k : StatementKey) (x : Content) → get statements k ≡ Some x → c.speaks k.sender x ≡ true

-- each event is held under its digest
abbrev pub TextLinks : FinMap (slice_cmp nat_cmp) Event → Type 0
TextLinks texts = (digest : List ℕ) (e : Event) → get texts digest ≡ Some e → digest_of e ≡ digest

-- all links of a state
pub record Links (c : Context) (sent : Sent) (s : State) : Type 0 where
  pub heard : HeardLinks c sent s.heard
  pub own : OwnLink c s.view s.heard
  pub acks : AckLinks c sent s.view s.acks
  pub new_view : NewViewLink c sent s.view s.active s.new_view
  pub relayed : RelayLinks c sent s.view s.relayed
  pub pending : PendingLinks c sent s.view s.active s.floor s.low s.slots s.pending
  pub prepares : PrepareLinks c sent s.view s.book
  pub commits : CommitLinks c sent s.view s.book
  pub checkpoints : CheckpointLinks c s.book
  pub dones : DoneLinks c s.low s.done s.dones
  pub evidence : EvidenceLinks c s.evidence.statements
  pub texts : TextLinks s.texts

-- What every correct voter keeps at every step: the invariant of agreement, in the form in which a step keeps it. It
-- speaks of the voter's own state and statements, and of what stands behind them in the statements that were sent.
use Rattle.std.specs.Prelude.{ℕ, ◌≡◌, ◌<◌, ◌≤◌, ◌⊎◌, true, false, List, [], Some}
use Rattle.std.specs.List.{Contains}
use Rattle.pws_base.specs.Shapes.{quorum_of}
use Rattle.pws_msg.specs.declared.changes.PRow.{PRow}
use Rattle.pws_msg.specs.declared.changes.QRow.{QRow}
use Rattle.pws_msg.specs.declared.changes.Seen.{Seen}
use Rattle.pws_msg.specs.declared.changes.Named.{Named}
use Rattle.pws_msg.specs.declared.changes.ViewChange.{ViewChange}
use Rattle.pws_msg.specs.declared.changes.NewView.{NewView}
use Rattle.pws_change.specs.declared.heard.Heard.{Heard}
use Rattle.pws_change.specs.Agreements.{Agrees}
use Rattle.pws_change.specs.Choices.{last_of}
use Rattle.pws_change.specs.Valid.{IsValid}
use Rattle.pws_safety.specs.Replicas.{AtLeast}
use Rattle.pws_safety.specs.Statement.{Statement, PrePrepare, Commit, Ack, view_of}
use Rattle.pws_safety.specs.Statement as say
use Rattle.pws_safety.specs.Statements.{Group, Sent, Told, Gives, StandsBy, Backs, IsCorrect, size, primary}
use Rattle.pws_safety.specs.Voters.{Slot, Core, report_of, IsHeard}

-- it stands for the digest at the place in the view, by what it said itself
abbrev pub Stood : Group → ℕ → List Statement → ℕ → ℕ → List ℕ → Type 0
Stood g me said view place digest = (x : Statement) × Contains said x × StandsBy g me x view place digest

-- what a view change reports is so: each row of its prepared set is a COMMIT that its sender said in an earlier view;
-- each COMMIT of an earlier view, above the low mark, has a row at its place of its view or a later one; and its sender
-- stood for each digest of its pre-prepared set in the view that stands with it, an earlier one
pub record TellsTrue (g : Group) (me : ℕ) (said : List Statement) (change : ViewChange) : Type 0 where
  pub row_said : (r : PRow) → Contains change.prepared r → Contains said (Commit r.view r.place r.digest)
  pub row_earlier : (r : PRow) → Contains change.prepared r → r.view < change.view
  pub row_latest :
      (view place : ℕ) (digest : List ℕ) → Contains said (Commit view place digest) → view < change.view
      → change.low < place → (r : PRow) × Contains change.prepared r × (r.place ≡ place) × (view ≤ r.view)
  pub seen_stood :
      (row : QRow) → Contains change.pre_prepared row → (e : Seen) → Contains row.digests e
      → Stood g me said e.view row.place e.digest
  pub seen_earlier :
      (row : QRow) → Contains change.pre_prepared row → (e : Seen) → Contains row.digests e → e.view < change.view

-- a list of view changes is behind a NEW_VIEW: it agrees with it, its changes are valid ones of replicas of the group,
-- and each of a correct replica is one that it sent
pub record IsBehind (g : Group) (sent : Sent) (new : NewView) (heard : List Heard) : Type 0 where
  pub agrees : Agrees g.f new heard
  pub replica : (h : Heard) → Contains heard h → h.index < size g
  pub valid : (h : Heard) → Contains heard h → IsValid h.change
  pub sent_it :
      (h : Heard) → Contains heard h → g.compromised h.index ≡ false → Contains sent (h.index, say.ViewChange h.change)

-- a NEW_VIEW has view changes behind it
abbrev pub HasGrounds : Group → Sent → NewView → Type 0
HasGrounds g sent new = (heard : List Heard) × IsBehind g sent new heard

-- where it stands for a digest above view 0, a NEW_VIEW of the view has view changes behind it, and its choice gives
-- the digest at the place, or it ends below the place, and then the digest is of a backed event; in view 0 it is of a
-- backed event
pub record HasReason (g : Group) (sent : Sent) (view place : ℕ) (digest : List ℕ) : Type 0 where
  pub first : view ≡ 0 → g.backed digest ≡ true
  pub later :
      0 < view
      → (new : NewView) × (new.view ≡ view) × HasGrounds g sent new
      × (Gives new.choice place digest ⊎ ((last_of new.choice < place) × (g.backed digest ≡ true)))

-- at or below its floor, the NEW_VIEW by which it entered gives this digest
abbrev pub IsChosenIn : Core → ℕ → List ℕ → Type 0
IsChosenIn s place digest = (place ≤ s.floor) × ((new : NewView) × (s.new_view ≡ Some new) × Gives new.choice place digest)

-- above its floor, and not above `last`, it has a slot with this digest, if above its low mark
abbrev pub IsFreshIn : Core → ℕ → List ℕ → Type 0
IsFreshIn s place digest =
    (s.floor < place) × (place ≤ s.last)
    × (s.low < place → (slot : Slot) × (s.slot place ≡ Some slot) × (slot.digest ≡ digest))

-- what the voter me keeps, where these statements were sent
pub record Keeps (g : Group) (sent : Sent) (me : ℕ) (s : Core) : Type 0 where
  -- it said nothing of a later view
  pub no_later : (x : Statement) → Contains s.said x → view_of x ≤ s.view
  -- until it enters its view it stands for nothing in it, and has no slot
  pub idle : s.active ≡ false → (place : ℕ) (digest : List ℕ) → Stood g me s.said s.view place digest → ⊥
  pub idle_slots : s.active ≡ false → (place : ℕ) (slot : Slot) → s.slot place ≡ Some slot → ⊥
  -- what it stands for in its view was chosen, or it is above its floor, at or below `last`, and above the low mark in
  -- a slot
  pub in_view :
      (place : ℕ) (digest : List ℕ) → Stood g me s.said s.view place digest
      → IsChosenIn s place digest ⊎ IsFreshIn s place digest
  -- one voice a view: it stands for at most one digest at a place of a view, and reports once a view
  pub one_digest :
      (view place : ℕ) (d e : List ℕ) → Stood g me s.said view place d → Stood g me s.said view place e → d ≡ e
  pub one_change :
      (c e : ViewChange) → Contains s.said (say.ViewChange c) → Contains s.said (say.ViewChange e) → c.view ≡ e.view
      → c ≡ e
  -- each slot is above the low mark, not above `last`, it stands for its digest, and so does the primary, if that one
  -- is correct
  pub slot_last : (place : ℕ) (slot : Slot) → s.slot place ≡ Some slot → place ≤ s.last
  pub slot_above : (place : ℕ) (slot : Slot) → s.slot place ≡ Some slot → s.low < place
  pub slot_stood : (place : ℕ) (slot : Slot) → s.slot place ≡ Some slot → Stood g me s.said s.view place slot.digest
  pub slot_primary :
      (place : ℕ) (slot : Slot) → s.slot place ≡ Some slot → Backs g sent (primary g s.view) s.view place slot.digest
  -- its COMMITs of its view above the low mark are those of its prepared slots, and a committed slot heard a quorum
  pub commit_slot :
      (place : ℕ) (digest : List ℕ) → Contains s.said (Commit s.view place digest) → s.low < place
      → (slot : Slot) × (s.slot place ≡ Some slot) × (slot.prepared ≡ true) × (slot.digest ≡ digest)
  pub slot_commit :
      (place : ℕ) (slot : Slot) → s.slot place ≡ Some slot → slot.prepared ≡ true
      → Contains s.said (Commit s.view place slot.digest)
  pub slot_quorum :
      (place : ℕ) (slot : Slot) → s.slot place ≡ Some slot → slot.committed ≡ true
      → AtLeast (size g) (quorum_of g.f) (λ k. Told g sent k (Commit s.view place slot.digest))
  -- behind each of its COMMITs is a quorum
  pub behind_commit :
      (view place : ℕ) (digest : List ℕ) → Contains s.said (Commit view place digest)
      → AtLeast (size g) (quorum_of g.f) (λ k. Backs g sent k view place digest)
  -- its view changes are true, and what it would report now is
  pub state_true : TellsTrue g me s.said (report_of s s.view [] s.prepared s.pre_prepared)
  pub changes_true : (change : ViewChange) → Contains s.said (say.ViewChange change) → TellsTrue g me s.said change
  -- it takes part in a view above 0 by a NEW_VIEW with grounds, and its floor is that choice's end
  pub entered :
      s.active ≡ true → 0 < s.view
      → (new : NewView) × (s.new_view ≡ Some new) × (new.view ≡ s.view) × HasGrounds g sent new
      × (s.floor ≡ last_of new.choice)
  -- what it says again was said: in a view above 0 its view change for the view; and as the primary the NEW_VIEW by
  -- which it entered, and PRE_PREPARE of each slot above its floor
  pub change_said :
      0 < s.view → (change : ViewChange) × (change.view ≡ s.view) × Contains s.said (say.ViewChange change)
  pub start_said : me ≡ primary g s.view → (new : NewView) → s.new_view ≡ Some new → Contains s.said (say.NewView new)
  pub proposals_said :
      me ≡ primary g s.view → (place : ℕ) (slot : Slot) → s.slot place ≡ Some slot → s.floor < place
      → Contains s.said (PrePrepare s.view place slot.digest)
  -- it has a reason for each digest for which it stands
  pub reason : (view place : ℕ) (digest : List ℕ) → Stood g me s.said view place digest → HasReason g sent view place digest
  -- it acknowledges, and names in a NEW_VIEW, only digests of view changes that it heard from the replica named
  pub acked :
      (view index : ℕ) (digest : List ℕ) → Contains s.said (Ack view index digest)
      → (change : ViewChange) × IsHeard g sent view index change × (g.digest_of change ≡ digest)
  pub named :
      (new : NewView) → Contains s.said (say.NewView new) → (n : Named) → Contains new.named n
      → (change : ViewChange) × IsHeard g sent new.view n.index change × (g.digest_of change ≡ n.digest)

-- the group keeps: each correct replica does, and what was sent in its name is what it said
pub record GroupKeeps (g : Group) (cores : ℕ → Core) (sent : Sent) : Type 0 where
  pub each : (i : ℕ) → IsCorrect g i → Keeps g sent i (cores i)
  pub said : (i : ℕ) → IsCorrect g i → (x : Statement) → Contains (cores i).said x → Contains sent (i, x)
  pub only_said : (i : ℕ) → IsCorrect g i → (x : Statement) → Contains sent (i, x) → Contains (cores i).said x

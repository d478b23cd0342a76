-- A correct voter, as far as agreement goes, and the steps that it may take, after the protocol of Castro and Liskov
-- (1999, 2002); the rules of view changes are this project's own. docs/PROTOCOL.md tells them. A step may do what a
-- voter may do, and more: what only progress asks for is left out, as how many acknowledgements make a primary offer.
use Rattle.std.specs.Prelude.{ℕ, ◌≡◌, ◌+◌, ◌*◌, ◌<◌, ◌≤◌, ◌⊎◌, Bool, true, false, if◌then◌else◌, List, [], ◌∷◌, ◌++◌, Option, Some, None, nat_lt, ◌==◌, max}
use Rattle.std.specs.List.{Contains}
use Rattle.pws_base.specs.Shapes.{quorum_of}
use Rattle.pws_msg.specs.declared.changes.Checkpoint.{Checkpoint}
use Rattle.pws_msg.specs.declared.changes.PRow.{PRow}
use Rattle.pws_msg.specs.declared.changes.QRow.{QRow}
use Rattle.pws_msg.specs.declared.changes.Seen.{Seen}
use Rattle.pws_msg.specs.declared.changes.ViewChange.{ViewChange}
use Rattle.pws_msg.specs.declared.changes.NewView.{NewView}
use Rattle.pws_change.specs.declared.heard.Heard.{Heard}
use Rattle.pws_change.specs.Agreements.{Agrees}
use Rattle.pws_change.specs.Choices.{last_of}
use Rattle.pws_change.specs.Valid.{IsValid}
use Rattle.pws_safety.specs.Replicas.{AtLeast}
use Rattle.pws_safety.specs.Statement.{Statement, PrePrepare, Prepare, Commit, Ack}
use Rattle.pws_safety.specs.Statement as say
use Rattle.pws_safety.specs.Statements.{Group, Sent, Told, Gives, size, primary}

-- what a voter accepted at a place in its view, whether it said COMMIT of it, and whether it heard a quorum say so
pub record Slot : Type 0 where
  pub digest : List ℕ
  pub prepared : Bool
  pub committed : Bool

abbrev pub accepted : List ℕ → Slot
accepted digest = record { digest = digest; prepared = false; committed = false }

abbrev pub prepared_slot : List ℕ → Slot
prepared_slot digest = record { digest = digest; prepared = true; committed = false }

abbrev pub committed_slot : List ℕ → Slot
committed_slot digest = record { digest = digest; prepared = true; committed = true }

-- the part of a voter's state that agreement rests on
pub record Core : Type 0 where
  pub view : ℕ
  -- whether it takes part in the view, or has only moved to it
  pub active : Bool
  -- at or below the low mark it keeps nothing
  pub low : ℕ
  -- at or below the floor it accepts nothing more in this view: there the choice of the new view stands
  pub floor : ℕ
  -- the highest place at which it accepted something in this view, or 0
  pub last : ℕ
  pub slot : ℕ → Option Slot
  -- the latest digest that it prepared at a place in the views before, and the digests that it accepted
  pub prepared : List PRow
  pub pre_prepared : List QRow
  -- the NEW_VIEW by which it entered its view
  pub new_view : Option NewView
  -- all that it said
  pub said : List Statement

-- view 0 needs no new view: each voter is active in it from the start
abbrev pub new_core : Core
new_core = record {
  view = 0;
  active = true;
  low = 0;
  floor = 0;
  last = 0;
  slot = λ place. None;
  prepared = [];
  pre_prepared = [];
  new_view = None;
  said = [];
}

-- the slots with this one at the place
abbrev pub with_slot : (ℕ → Option Slot) → ℕ → Slot → ℕ → Option Slot
with_slot slots place slot q = if q == place then Some slot else slots q

-- the slots above a place
abbrev pub above : ℕ → (ℕ → Option Slot) → ℕ → Option Slot
above low slots q = if nat_lt low q then slots q else None

-- it accepts the digest at the place, and says so
abbrev pub after_accept : Core → ℕ → List ℕ → Statement → Core
after_accept s place digest x = record s {
  slot = with_slot s.slot place (accepted digest);
  last = max s.last place;
  said = x ∷ s.said;
}

-- the slot at the place is prepared, and it says COMMIT
abbrev pub after_prepare : Core → ℕ → List ℕ → Core
after_prepare s place digest = record s {
  slot = with_slot s.slot place (prepared_slot digest);
  said = Commit s.view place digest ∷ s.said;
}

-- the slot at the place is committed
abbrev pub after_commit : Core → ℕ → List ℕ → Core
after_commit s place digest = record s { slot = with_slot s.slot place (committed_slot digest) }

-- the low mark rises, and what it keeps of earlier views is trimmed to these rows
abbrev pub after_lower : Core → ℕ → List PRow → List QRow → Core
after_lower s low prepared pre_prepared = record s {
  low = low;
  slot = above low s.slot;
  prepared = prepared;
  pre_prepared = pre_prepared;
}

-- what is left of rows that are trimmed to a low mark: old rows alone, and of the prepared set all above the mark
pub record IsTrimmed (s : Core) (low : ℕ) (prepared : List PRow) (pre_prepared : List QRow) : Type 0 where
  pub prepared_old : (r : PRow) → Contains prepared r → Contains s.prepared r
  pub prepared_kept : (r : PRow) → Contains s.prepared r → low < r.place → Contains prepared r
  pub pre_prepared_old : (q : QRow) → Contains pre_prepared q → Contains s.pre_prepared q

-- what it reports as it moves to a view
abbrev pub report_of : Core → ℕ → List Checkpoint → List PRow → List QRow → ViewChange
report_of s view checkpoints prepared pre_prepared = record {
  view = view;
  low = s.low;
  checkpoints = checkpoints;
  prepared = prepared;
  pre_prepared = pre_prepared;
}

-- it moves to a view: it takes part in nothing until it enters, and says what it reports
abbrev pub after_move : Core → ℕ → List Checkpoint → List PRow → List QRow → Core
after_move s view checkpoints prepared pre_prepared = record s {
  view = view;
  active = false;
  last = 0;
  slot = λ place. None;
  prepared = prepared;
  pre_prepared = pre_prepared;
  new_view = None;
  said = say.ViewChange (report_of s view checkpoints prepared pre_prepared) ∷ s.said;
}

-- a row that stands for a prepared slot, with the view that it leaves
abbrev pub IsPreparedBy : Core → PRow → Type 0
IsPreparedBy s r =
    (slot : Slot) × (s.slot r.place ≡ Some slot) × (slot.prepared ≡ true) × (r.digest ≡ slot.digest)
    × (r.view ≡ s.view)

-- a digest that an older row has with this view, or that of an accepted slot with the view that it leaves
abbrev pub IsSeenBy : Core → ℕ → Seen → Type 0
IsSeenBy s place seen =
    ((row : QRow) × Contains s.pre_prepared row × (row.place ≡ place) × Contains row.digests seen)
    ⊎ ((slot : Slot) × (s.slot place ≡ Some slot) × (seen.digest ≡ slot.digest) × (seen.view ≡ s.view))

-- as it leaves a view, it has a row of that view for each prepared slot, it loses a row only to such a one at its
-- place, and it adds nothing else; and the pre-prepared set has what it had and the accepted slots, or less
pub record IsNoted (s : Core) (prepared : List PRow) (pre_prepared : List QRow) : Type 0 where
  pub from : (r : PRow) → Contains prepared r → Contains s.prepared r ⊎ IsPreparedBy s r
  pub slots :
      (place : ℕ) (slot : Slot) → s.slot place ≡ Some slot → slot.prepared ≡ true
      → (r : PRow) × Contains prepared r × (r.place ≡ place) × (r.view ≡ s.view)
  pub no_earlier :
      (r : PRow) → Contains s.prepared r
      → (q : PRow) × Contains prepared q × (q.place ≡ r.place) × ((q.view ≡ r.view) ⊎ (q.view ≡ s.view))
  pub seen : (row : QRow) → Contains pre_prepared row → (e : Seen) → Contains row.digests e → IsSeenBy s row.place e

-- it takes part in its view by this NEW_VIEW
abbrev pub after_enter : Core → NewView → (ℕ → Option Slot) → ℕ → List Statement → Core
after_enter s new slots last says = record s {
  active = true;
  floor = last_of new.choice;
  last = last;
  slot = slots;
  new_view = Some new;
  said = says ++ s.said;
}

-- as it enters a view it accepts of the chosen digests those whose places are above its low mark, or fewer, and
-- nothing else; `last` is then the highest of the places at which it accepted one, or 0
pub record AcceptsChosen (s : Core) (new : NewView) (slots : ℕ → Option Slot) (last : ℕ) : Type 0 where
  pub each :
      (place : ℕ) (slot : Slot) → slots place ≡ Some slot
      → (s.low < place) × (place ≤ last) × Gives new.choice place slot.digest × (slot ≡ accepted slot.digest)
  pub highest : (last ≡ 0) ⊎ ((slot : Slot) × (slots last ≡ Some slot))

-- a backup says PREPARE of each chosen digest that it accepts, and of nothing else
pub record PreparesChosen (s : Core) (slots : ℕ → Option Slot) (says : List Statement) : Type 0 where
  pub each : (place : ℕ) (slot : Slot) → slots place ≡ Some slot → Contains says (Prepare s.view place slot.digest)
  pub only :
      (x : Statement) → Contains says x
      → (place : ℕ) × (slot : Slot) × (slots place ≡ Some slot) × (x ≡ Prepare s.view place slot.digest)

-- a valid view change for the view, one of those that occur, that can be heard as the replica's
pub record IsHeard (g : Group) (sent : Sent) (view index : ℕ) (change : ViewChange) : Type 0 where
  pub replica : index < size g
  pub told : Told g sent index (say.ViewChange change)
  pub in_view : change.view ≡ view
  pub valid : IsValid change
  pub occurs : g.occurs change ≡ true

-- a view change that a NEW_VIEW of the view names, by its sender and its digest, is had: it is a valid one for the view
-- with this digest, and it can be heard from its sender, or f replicas acknowledged the digest, none of them its sender
-- or the primary; then anybody may have passed it on
pub record IsHad (g : Group) (sent : Sent) (view : ℕ) (heard : Heard) : Type 0 where
  pub replica : heard.index < size g
  pub digest : g.digest_of heard.change ≡ heard.digest
  pub in_view : heard.change.view ≡ view
  pub valid : IsValid heard.change
  pub occurs : g.occurs heard.change ≡ true
  pub source :
      Told g sent heard.index (say.ViewChange heard.change)
      ⊎ AtLeast (size g) g.f (λ k. (k ≡ heard.index → ⊥) × (k ≡ primary g view → ⊥) × Told g sent k (Ack view heard.index heard.digest))

-- the step of a correct replica in a group, where these statements were sent before
pub data Step (g : Group) (sent : Sent) (me : ℕ) : Core → Core → Type 0 where
  -- the primary proposes a backed event for the next place, and accepts it
  propose :
      (s : Core) (place : ℕ) (digest : List ℕ) → s.active ≡ true → me ≡ primary g s.view
      → place ≡ max s.floor s.last + 1 → s.low < place → g.backed digest ≡ true
      → Step g sent me s (after_accept s place digest (PrePrepare s.view place digest))
  -- a backup accepts what the primary proposes where it accepted nothing in this view, above the floor
  accept :
      (s : Core) (place : ℕ) (digest : List ℕ) → s.active ≡ true → (me ≡ primary g s.view → ⊥)
      → s.floor < place → s.low < place → s.slot place ≡ None → g.backed digest ≡ true
      → Told g sent (primary g s.view) (PrePrepare s.view place digest)
      → Step g sent me s (after_accept s place digest (Prepare s.view place digest))
  -- 2f backups, maybe itself among them, said PREPARE of what it accepted
  prepare :
      (s : Core) (place : ℕ) (digest : List ℕ) → s.active ≡ true → s.slot place ≡ Some (accepted digest)
      → AtLeast (size g) (2 * g.f) (λ k. (k ≡ primary g s.view → ⊥) × Told g sent k (Prepare s.view place digest))
      → Step g sent me s (after_prepare s place digest)
  -- a quorum, maybe itself in it, said COMMIT of what it prepared
  commit :
      (s : Core) (place : ℕ) (digest : List ℕ) → s.active ≡ true
      → s.slot place ≡ Some (prepared_slot digest)
      → AtLeast (size g) (quorum_of g.f) (λ k. Told g sent k (Commit s.view place digest))
      → Step g sent me s (after_commit s place digest)
  -- a checkpoint is stable: what is at or below its place is dropped
  lower :
      (s : Core) (low : ℕ) (prepared : List PRow) (pre_prepared : List QRow) → s.low ≤ low
      → IsTrimmed s low prepared pre_prepared
      → Step g sent me s (after_lower s low prepared pre_prepared)
  -- it moves to a later view
  move :
      (s : Core) (view : ℕ) (checkpoints : List Checkpoint) (prepared : List PRow) (pre_prepared : List QRow)
      → s.view < view → IsNoted s prepared pre_prepared
      → Step g sent me s (after_move s view checkpoints prepared pre_prepared)
  -- it acknowledges a view change of its view that it heard
  ack :
      (s : Core) (index : ℕ) (change : ViewChange) → s.active ≡ false → IsHeard g sent s.view index change
      → Step g sent me s (record s { said = Ack s.view index (g.digest_of change) ∷ s.said })
  -- the primary of the view starts it from view changes that it heard
  offer :
      (s : Core) (new : NewView) (heard : List Heard) (slots : ℕ → Option Slot) (last : ℕ) → s.active ≡ false
      → me ≡ primary g s.view → new.view ≡ s.view
      → Agrees g.f new heard
      → ((h : Heard) → Contains heard h → (g.digest_of h.change ≡ h.digest) × IsHeard g sent s.view h.index h.change)
      → AcceptsChosen s new slots last
      → Step g sent me s (after_enter s new slots last (say.NewView new ∷ []))
  -- a backup enters the view by the primary's NEW_VIEW, all of whose named view changes are had
  enter :
      (s : Core) (new : NewView) (heard : List Heard) (slots : ℕ → Option Slot) (last : ℕ) (says : List Statement)
      → s.active ≡ false → (me ≡ primary g s.view → ⊥) → new.view ≡ s.view
      → Told g sent (primary g s.view) (say.NewView new)
      → Agrees g.f new heard → ((h : Heard) → Contains heard h → IsHad g sent s.view h)
      → AcceptsChosen s new slots last → PreparesChosen s slots says
      → Step g sent me s (after_enter s new slots last says)

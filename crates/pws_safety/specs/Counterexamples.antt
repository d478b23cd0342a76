-- Rules that look as good, and lead to disagreement: each is added to those of a correct replica, and a run of a trusted
-- group is shown in which two correct replicas commit two digests at one place. So each of the rules in its stead is
-- needed.
use Rattle.std.specs.Prelude.{ℕ, ◌≡◌, ◌+◌, ◌-◌, ◌*◌, ◌<◌, ◌≤◌, ◌⊎◌, true, false, List, [], ◌∷◌, Option, Some, map, length, nat_lt, IsTrue, ◌==◌}
use Rattle.std.specs.List.{Contains, count_by, list_all}
use Rattle.pws_base.specs.Shapes.{quorum_of}
use Rattle.pws_msg.specs.declared.changes.Checkpoint.{Checkpoint}
use Rattle.pws_msg.specs.declared.changes.Choice.{Choice}
use Rattle.pws_msg.specs.declared.changes.QRow.{QRow}
use Rattle.pws_msg.specs.declared.changes.Seen.{Seen}
use Rattle.pws_msg.specs.declared.changes.NewView.{NewView}
use Rattle.pws_change.specs.declared.heard.Heard.{Heard}
use Rattle.pws_change.specs.Agreements.{Agrees, name_of}
use Rattle.pws_change.specs.Changes.{has_entry, allows_entry}
use Rattle.pws_change.specs.Choices.{IsStart, last_place, last_of, chosen_at}
use Rattle.pws_change.specs.Rising.{rises}
use Rattle.pws_safety.specs.Replicas.{AtLeast}
use Rattle.pws_safety.specs.Statement.{Statement, PrePrepare, Prepare, Commit}
use Rattle.pws_safety.specs.Statement as say
use Rattle.pws_safety.specs.Statements.{Group, Sent, Told, Gives, IsCorrect, size, primary}
use Rattle.pws_safety.specs.Voters.{Slot, Core, new_core, accepted, prepared_slot, committed_slot, after_accept, after_prepare, after_commit, after_move, after_enter, AcceptsChosen, PreparesChosen, IsHeard, IsHad, Step}
use Rattle.pws_safety.specs.Runs.{Sends, Repeats, IsTrusted, with_core}

-- the states and statements that a group can reach where correct replicas follow one more rule
pub data ReachedWith (Rule : Group → Sent → ℕ → Core → Core → Type 0) (g : Group) : (ℕ → Core) → Sent → Type 0 where
  start : ReachedWith Rule g (λ i. new_core) []
  step :
      (cores : ℕ → Core) (before after : Sent) (i : ℕ) (s : Core)
      → ReachedWith Rule g cores before → IsCorrect g i → Step g before i (cores i) s → Sends g i s before after
      → ReachedWith Rule g (with_core cores i s) after
  again :
      (cores : ℕ → Core) (before after : Sent) → ReachedWith Rule g cores before → Repeats g before after
      → ReachedWith Rule g cores after
  ruled :
      (cores : ℕ → Core) (before after : Sent) (i : ℕ) (s : Core)
      → ReachedWith Rule g cores before → IsCorrect g i → Rule g before i (cores i) s → Sends g i s before after
      → ReachedWith Rule g (with_core cores i s) after

-- a correct replica committed this digest at the place
abbrev pub HasCommitted : Group → (ℕ → Core) → ℕ → ℕ → List ℕ → Type 0
HasCommitted g cores i place digest =
    IsCorrect g i × ((cores i).slot place ≡ Some (committed_slot digest))

-- two correct replicas committed two digests at one place
pub record Disagreement (g : Group) (cores : ℕ → Core) : Type 0 where
  pub one : ℕ
  pub other : ℕ
  pub place : ℕ
  pub digest : List ℕ
  pub other_digest : List ℕ
  pub committed : HasCommitted g cores one place digest
  pub other_committed : HasCommitted g cores other place other_digest
  pub differ : digest ≡ other_digest → ⊥

-- with this rule a trusted group can disagree
pub record Misleads (Rule : Group → Sent → ℕ → Core → Core → Type 0) : Type 0 where
  pub group : Group
  pub cores : ℕ → Core
  pub sent : Sent
  pub trusted : IsTrusted group
  pub reached : ReachedWith Rule group cores sent
  pub disagreement : Disagreement group cores

-- a quorum of 2f: the primary and 2f - 1 others prepare, and 2f COMMITs commit
pub data QuorumOfTwoF (g : Group) (sent : Sent) (me : ℕ) : Core → Core → Type 0 where
  prepare :
      (s : Core) (place : ℕ) (digest : List ℕ) → s.active ≡ true → s.slot place ≡ Some (accepted digest)
      → AtLeast (size g) (2 * g.f - 1) (λ k. (k ≡ primary g s.view → ⊥) × Told g sent k (Prepare s.view place digest))
      → QuorumOfTwoF g sent me s (after_prepare s place digest)
  commit :
      (s : Core) (place : ℕ) (digest : List ℕ) → s.active ≡ true
      → s.slot place ≡ Some (prepared_slot digest)
      → AtLeast (size g) (2 * g.f) (λ k. Told g sent k (Commit s.view place digest))
      → QuorumOfTwoF g sent me s (after_commit s place digest)

-- a second vote at a place of one view, where the place has a slot already
pub data VotesTwice (g : Group) (sent : Sent) (me : ℕ) : Core → Core → Type 0 where
  accept :
      (s : Core) (place : ℕ) (digest : List ℕ) → s.active ≡ true → (me ≡ primary g s.view → ⊥)
      → s.floor < place → s.low < place → g.backed digest ≡ true
      → Told g sent (primary g s.view) (PrePrepare s.view place digest)
      → VotesTwice g sent me s (after_accept s place digest (Prepare s.view place digest))

-- a move that forgets what was prepared and accepted in the view that it leaves
pub data ForgetsSlots (g : Group) (sent : Sent) (me : ℕ) : Core → Core → Type 0 where
  move :
      (s : Core) (view : ℕ) (checkpoints : List Checkpoint) → s.view < view
      → ForgetsSlots g sent me s (after_move s view checkpoints s.prepared s.pre_prepared)

-- as it enters a view it can accept a digest at a place that is one of the 32 above its low mark, where its pre-prepared
-- set has room: a row there has the digest, or fewer than 16
pub record CanAccept (s : Core) (place : ℕ) (digest : List ℕ) : Type 0 where
  pub above : s.low < place
  pub within : place ≤ s.low + 32
  pub room :
      (row : QRow) → Contains s.pre_prepared row → row.place ≡ place
      → (length row.digests < 16) ⊎ ((seen : Seen) × Contains row.digests seen × (seen.digest ≡ digest))

-- it accepts each chosen digest that it can
abbrev pub AcceptsAllItCan : Core → NewView → (ℕ → Option Slot) → Type 0
AcceptsAllItCan s new slots =
    (place : ℕ) (digest : List ℕ) → Gives new.choice place digest → CanAccept s place digest
    → slots place ≡ Some (accepted digest)

-- a floor that is the checkpoint alone, and not the last chosen place, though each chosen digest is accepted that can be
pub data CheckpointFloor (g : Group) (sent : Sent) (me : ℕ) : Core → Core → Type 0 where
  offer :
      (s : Core) (new : NewView) (heard : List Heard) (slots : ℕ → Option Slot) (last : ℕ) → s.active ≡ false
      → me ≡ primary g s.view → new.view ≡ s.view
      → Agrees g.f new heard
      → ((h : Heard) → Contains heard h → (g.digest_of h.change ≡ h.digest) × IsHeard g sent s.view h.index h.change)
      → AcceptsChosen s new slots last → AcceptsAllItCan s new slots
      → CheckpointFloor g sent me s (record (after_enter s new slots last (say.NewView new ∷ [])) { floor = new.choice.place })
  enter :
      (s : Core) (new : NewView) (heard : List Heard) (slots : ℕ → Option Slot) (last : ℕ) (says : List Statement)
      → s.active ≡ false → (me ≡ primary g s.view → ⊥) → new.view ≡ s.view
      → Told g sent (primary g s.view) (say.NewView new)
      → Agrees g.f new heard → ((h : Heard) → Contains heard h → IsHad g sent s.view h)
      → AcceptsChosen s new slots last → AcceptsAllItCan s new slots → PreparesChosen s slots says
      → CheckpointFloor g sent me s (record (after_enter s new slots last says) { floor = new.choice.place })

-- a choice without witnesses: an entry is chosen by the first part of its condition alone
pub record GivesUnwitnessed (f : ℕ) (heard : List Heard) (c : Choice) : Type 0 where
  pub start : IsStart f heard c.place c.digest
  pub last : last_of c ≡ last_place c.place heard
  pub chosen :
      (place : ℕ) → c.place < place → place ≤ last_of c
      → (view : ℕ) × (1 ≤ count_by (has_entry place (chosen_at c place) view) heard)
      × (quorum_of f ≤ count_by (allows_entry place (chosen_at c place) view) heard)

pub record AgreesUnwitnessed (f : ℕ) (new : NewView) (heard : List Heard) : Type 0 where
  pub rises : IsTrue (rises (λ a b. nat_lt a.index b.index) new.named)
  pub many : quorum_of f ≤ length new.named
  pub named : new.named ≡ map name_of heard
  pub views : IsTrue (list_all (λ h. h.change.view == new.view) heard)
  pub choice : GivesUnwitnessed f heard new.choice

pub data ChoiceWithoutWitnesses (g : Group) (sent : Sent) (me : ℕ) : Core → Core → Type 0 where
  offer :
      (s : Core) (new : NewView) (heard : List Heard) (slots : ℕ → Option Slot) (last : ℕ) → s.active ≡ false
      → me ≡ primary g s.view → new.view ≡ s.view
      → AgreesUnwitnessed g.f new heard
      → ((h : Heard) → Contains heard h → (g.digest_of h.change ≡ h.digest) × IsHeard g sent s.view h.index h.change)
      → AcceptsChosen s new slots last
      → ChoiceWithoutWitnesses g sent me s (after_enter s new slots last (say.NewView new ∷ []))
  enter :
      (s : Core) (new : NewView) (heard : List Heard) (slots : ℕ → Option Slot) (last : ℕ) (says : List Statement)
      → s.active ≡ false → (me ≡ primary g s.view → ⊥) → new.view ≡ s.view
      → Told g sent (primary g s.view) (say.NewView new)
      → AgreesUnwitnessed g.f new heard → ((h : Heard) → Contains heard h → IsHad g sent s.view h)
      → AcceptsChosen s new slots last → PreparesChosen s slots says
      → ChoiceWithoutWitnesses g sent me s (after_enter s new slots last says)

-- The facts on what was sent from which agreement follows, with no step of a voter looked at again.
use Rattle.std.specs.Prelude.{ℕ, ◌≡◌, ◌<◌, ◌≤◌, List}
use Rattle.std.specs.List.{Contains}
use Rattle.pws_base.specs.Shapes.{quorum_of}
use Rattle.pws_msg.specs.declared.changes.PRow.{PRow}
use Rattle.pws_msg.specs.declared.changes.QRow.{QRow}
use Rattle.pws_msg.specs.declared.changes.Seen.{Seen}
use Rattle.pws_msg.specs.declared.changes.ViewChange.{ViewChange}
use Rattle.pws_safety.specs.Replicas.{AtLeast, IsSound}
use Rattle.pws_safety.specs.Statement.{Commit}
use Rattle.pws_safety.specs.Statement as say
use Rattle.pws_safety.specs.Statements.{Group, Sent, StandsFor, Backs, IsCorrect, size}
use Rattle.pws_safety.specs.Kept.{HasReason}

-- a correct replica stands for at most one digest at a place of a view, and its view changes for a view are one
pub record OneVoicePerView (g : Group) (sent : Sent) : Type 0 where
  pub one_digest :
      (i view place : ℕ) (d e : List ℕ) → IsCorrect g i → StandsFor g sent i view place d
      → StandsFor g sent i view place e → d ≡ e
  pub one_change :
      (i : ℕ) (c e : ViewChange) → IsCorrect g i → Contains sent (i, say.ViewChange c)
      → Contains sent (i, say.ViewChange e) → c.view ≡ e.view → c ≡ e

-- behind a correct replica's COMMIT the correct replicas that stand for its digest and the compromised ones are
-- together a quorum
abbrev pub CommitHasQuorum : Group → Sent → Type 0
CommitHasQuorum g sent =
    (i view place : ℕ) (digest : List ℕ) → IsCorrect g i → Contains sent (i, Commit view place digest)
    → AtLeast (size g) (quorum_of g.f) (λ k. Backs g sent k view place digest)

-- in a correct replica's view change the prepared set has rows of its COMMITs of earlier views alone, and above its low
-- mark, where it sent COMMIT in an earlier view, one of that view or a later one; and it stands for what its
-- pre-prepared set has
pub record ReportsItsCommits (g : Group) (sent : Sent) : Type 0 where
  pub row_is_commit :
      (i : ℕ) (change : ViewChange) → IsCorrect g i → Contains sent (i, say.ViewChange change)
      → (r : PRow) → Contains change.prepared r → (r.view < change.view) × Contains sent (i, Commit r.view r.place r.digest)
  pub row_is_latest :
      (i : ℕ) (change : ViewChange) → IsCorrect g i → Contains sent (i, say.ViewChange change)
      → (view place : ℕ) (digest : List ℕ) → Contains sent (i, Commit view place digest) → view < change.view
      → change.low < place
      → (r : PRow) × Contains change.prepared r × (r.place ≡ place) × (view ≤ r.view)
  pub seen_stands :
      (i : ℕ) (change : ViewChange) → IsCorrect g i → Contains sent (i, say.ViewChange change)
      → (row : QRow) → Contains change.pre_prepared row → (e : Seen) → Contains row.digests e
      → StandsFor g sent i e.view row.place e.digest

-- above view 0 what a correct replica stands for was chosen, or stands above all that was, and then it is backed, as
-- in view 0
abbrev pub StandsOnAChoice : Group → Sent → Type 0
StandsOnAChoice g sent =
    (i view place : ℕ) (digest : List ℕ) → IsCorrect g i → StandsFor g sent i view place digest
    → HasReason g sent view place digest

pub record Facts (g : Group) (sent : Sent) : Type 0 where
  pub sound : IsSound g.f g.compromised
  pub one_voice : OneVoicePerView g sent
  pub commit_has_quorum : CommitHasQuorum g sent
  pub reports_its_commits : ReportsItsCommits g sent
  pub stands_on_a_choice : StandsOnAChoice g sent

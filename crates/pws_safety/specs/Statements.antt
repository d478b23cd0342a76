-- The statements of a group, and what follows from them that was said: for which digests a replica stands, and which
-- are settled. The terms are this project's own.
use Rattle.std.specs.Prelude.{ℕ, ◌≡◌, ◌<◌, ◌≤◌, ◌⊎◌, Bool, true, false, List}
use Rattle.std.specs.List.{Contains}
use Rattle.pws_base.specs.Shapes.{size_of_group, weak_of, primary_of}
use Rattle.pws_msg.specs.declared.changes.ViewChange.{ViewChange}
use Rattle.pws_msg.specs.declared.changes.Choice.{Choice}
use Rattle.pws_change.specs.Choices.{last_of, chosen_at}
use Rattle.pws_safety.specs.Replicas.{AtLeast}
use Rattle.pws_safety.specs.Statement.{Statement, PrePrepare, Prepare, Commit, Ack}
use Rattle.pws_safety.specs.Statement as say

-- a group in a run, as far as agreement goes
pub record Group : Type 0 where
  -- how many compromised replicas it is to bear
  pub f : ℕ
  -- which of its replicas are compromised
  pub compromised : ℕ → Bool
  -- the digest of a view change, by which others name it
  pub digest_of : ViewChange → List ℕ
  -- whether a view change is among those of which a digest is taken in the run: no two of these may collide
  pub occurs : ViewChange → Bool
  -- whether a digest is that of an event that is backed: it is what others asked for, or what enough replicas said
  pub backed : List ℕ → Bool

abbrev pub size : Group → ℕ
size g = size_of_group g.f

-- the primary of a view
abbrev pub primary : Group → ℕ → ℕ
primary g view = primary_of g.f view

-- a replica of the group that follows the rules
abbrev pub IsCorrect : Group → ℕ → Type 0
IsCorrect g i = (i < size g) × (g.compromised i ≡ false)

-- what was sent so far, each statement with its sender's index
abbrev pub Sent : Type 0
Sent = List (ℕ × Statement)

-- a statement that can be heard as this replica's: a correct replica said it, and a compromised one may have said
-- anything. It may be heard at any time after it was said, by anybody, as often as one likes, or never
abbrev pub Told : Group → Sent → ℕ → Statement → Type 0
Told g sent k said = (g.compromised k ≡ true) ⊎ Contains sent (k, said)

-- the choice of a new view gives this digest at the place
abbrev pub Gives : Choice → ℕ → List ℕ → Type 0
Gives choice place digest = (choice.place < place) × (place ≤ last_of choice) × (chosen_at choice place ≡ digest)

-- by this statement the replica i stands for the digest at the place in the view: it is its PREPARE of these, or, as
-- the view's primary, its PRE_PREPARE of these or its NEW_VIEW, whose choice gives the digest at the place
abbrev pub StandsBy : Group → ℕ → Statement → ℕ → ℕ → List ℕ → Type 0
StandsBy g i (PrePrepare u q e) view place digest = (u ≡ view) × (q ≡ place) × (e ≡ digest) × (i ≡ primary g view)
StandsBy g i (Prepare u q e) view place digest = (u ≡ view) × (q ≡ place) × (e ≡ digest)
StandsBy g i (Commit u q e) view place digest = ⊥
StandsBy g i (say.ViewChange change) view place digest = ⊥
StandsBy g i (say.NewView new) view place digest = (new.view ≡ view) × Gives new.choice place digest × (i ≡ primary g view)
StandsBy g i (Ack u j e) view place digest = ⊥

-- the replica i stands for the digest at the place in the view
abbrev pub StandsFor : Group → Sent → ℕ → ℕ → ℕ → List ℕ → Type 0
StandsFor g sent i view place digest = (said : Statement) × Contains sent (i, said) × StandsBy g i said view place digest

-- a compromised replica may be counted behind every digest, and a correct one behind those for which it stands
abbrev pub Backs : Group → Sent → ℕ → ℕ → ℕ → List ℕ → Type 0
Backs g sent k view place digest = (g.compromised k ≡ true) ⊎ StandsFor g sent k view place digest

-- a digest is settled at a place in a view where at least f + 1 correct replicas sent a COMMIT of these
abbrev pub IsSettled : Group → Sent → ℕ → ℕ → List ℕ → Type 0
IsSettled g sent view place digest =
    AtLeast (size g) (weak_of g.f) (λ i. (g.compromised i ≡ false) × Contains sent (i, Commit view place digest))

-- What follows from the definition of the choice alone; this project's own.
use Rattle.std.specs.Prelude.{◌≡◌, ℕ, ◌<◌, ◌≤◌, ◌⊎◌, ◌↔◌, ◌&&◌, Bool, List, All, IsTrue}
use Rattle.std.specs.List.{count_by, list_any}
use Rattle.pws_base.specs.Shapes.{quorum_of, weak_of}
use Rattle.pws_msg.specs.declared.changes.Choice.{Choice}
use Rattle.pws_msg.specs.declared.changes.NewView.{NewView}
use Rattle.pws_msg.specs.declared.changes.ViewChange.{ViewChange}
use Rattle.pws_change.specs.declared.heard.Heard.{Heard}
use Rattle.pws_change.specs.declared.decisions.Decision.{Decision}
use Rattle.pws_change.specs.declared.decisions.Decision.TheVariants.{Chosen}
use Rattle.pws_change.specs.Changes.{has_entry, is_witness, covers, lacks}
use Rattle.pws_change.specs.Choices.{IsChoice, last_of, chosen_at}
use Rattle.pws_change.specs.Decisions.{decision_of}
use Rattle.pws_change.specs.Agreements.{Agrees, agrees_by}
use Rattle.pws_change.specs.Valid.{IsValid, is_valid}

-- at most one decision is that of a list of changes
abbrev pub ChoiceIsUnique : Type 0
ChoiceIsUnique = (f : ℕ) (changes : List Heard) (a b : Decision) → IsChoice f changes a → IsChoice f changes b → a ≡ b

-- and it has one: that of the function
abbrev pub DecisionIsChoice : Type 0
DecisionIsChoice = (f : ℕ) (changes : List Heard) → IsChoice f changes (decision_of f changes)

-- the test of a view change decides whether it is valid
abbrev pub ValidIsTested : Type 0
ValidIsTested = (c : ViewChange) → IsTrue (is_valid c) ↔ IsValid c

-- the test of a new view decides whether it agrees with view changes
abbrev pub AgreesIsTested : Type 0
AgreesIsTested = (f : ℕ) (new : NewView) (changes : List Heard) → IsTrue (agrees_by f new changes) ↔ Agrees f new changes

-- each quorum of changes with a low mark below the place has one among them whose prepared set has there this entry, or
-- one of a later view
abbrev pub EachQuorumCovers : ℕ → List Heard → ℕ → List ℕ → ℕ → Type 0
EachQuorumCovers f changes place digest view =
    (among : Heard → Bool) → ((h : Heard) → IsTrue (among h) → h.change.low < place) → quorum_of f ≤ count_by among changes
    → IsTrue (list_any (λ h. among h && covers place digest view h) changes)

-- what is kept at a place: the digest is chosen there, or that of an entry of a later view, of which f + 1 changes are
-- witnesses
abbrev pub IsKept : ℕ → List Heard → Choice → ℕ → List ℕ → ℕ → Type 0
IsKept f changes c place digest view =
    (place ≤ last_of c)
    × ((chosen_at c place ≡ digest)
    ⊎ ((v : ℕ) × (view < v) × (1 ≤ count_by (has_entry place (chosen_at c place) v) changes) × (weak_of f ≤ count_by (is_witness place (chosen_at c place) v) changes)))

-- the law of the choice: what each quorum of valid changes covers at a place above the checkpoint is kept
abbrev pub CoveredIsKept : Type 0
CoveredIsKept =
    (f : ℕ) (changes : List Heard) (c : Choice) (place : ℕ) (digest : List ℕ) (view : ℕ)
    → All (λ h. IsValid h.change) changes
    → IsChoice f changes (Chosen c)
    → c.place < place
    → EachQuorumCovers f changes place digest view
    → IsKept f changes c place digest view

-- the same with a count: what fewer than a quorum lack is kept
abbrev pub HardlyLackedIsKept : Type 0
HardlyLackedIsKept =
    (f : ℕ) (changes : List Heard) (c : Choice) (place : ℕ) (digest : List ℕ) (view : ℕ)
    → All (λ h. IsValid h.change) changes
    → IsChoice f changes (Chosen c)
    → c.place < place
    → count_by (lacks place digest view) changes < quorum_of f
    → IsKept f changes c place digest view

-- What a new view keeps of a list of view changes, after the decision procedure of Castro and Liskov (2002), Practical
-- Byzantine Fault Tolerance and Proactive Recovery; that a digest is taken by its order, and the limits, are this
-- project's own. Each condition is a count over the whole list; f is the number of replicas that may be compromised.
use Rattle.std.specs.Prelude.{◌≡◌, ℕ, ◌+◌, ◌-◌, ◌<◌, ◌≤◌, ◌⊎◌, List, [], length, max, min, slice_index_or, IsTrue}
use Rattle.std.specs.List.{count_by, flat_map, fold}
use Rattle.pws_base.specs.Limits.{place_window}
use Rattle.pws_base.specs.Shapes.{quorum_of, weak_of}
use Rattle.pws_event.specs.Events.{digest_of}
use Rattle.pws_event.specs.declared.events.Event.TheVariants as event
use Rattle.pws_msg.specs.declared.changes.PRow.{PRow}
use Rattle.pws_msg.specs.declared.changes.Choice.{Choice}
use Rattle.pws_change.specs.declared.heard.Heard.{Heard}
use Rattle.pws_change.specs.declared.decisions.Decision.{Decision}
use Rattle.pws_change.specs.declared.decisions.Decision.TheVariants.{Chosen, Undecided}
use Rattle.pws_change.specs.Changes.{is_low_by, has_checkpoint, has_entry, allows_entry, is_witness, has_no_entry}
use Rattle.pws_change.specs.Rising.{is_digest_at_most}

-- a checkpoint that a view may start from: a quorum of changes have a low mark at or below its place, and f + 1 have it
pub record MayStart (f : ℕ) (changes : List Heard) (place : ℕ) (digest : List ℕ) : Type 0 where
  pub reached : quorum_of f ≤ count_by (is_low_by place) changes
  pub held : weak_of f ≤ count_by (has_checkpoint place digest) changes

-- the checkpoint: of those that a view may start from, the one of the highest place, and of two there the least digest
pub record IsStart (f : ℕ) (changes : List Heard) (place : ℕ) (digest : List ℕ) : Type 0 where
  pub may : MayStart f changes place digest
  pub highest : (p : ℕ) (d : List ℕ) → MayStart f changes p d → p ≤ place
  pub least : (d : List ℕ) → MayStart f changes place d → IsTrue (is_digest_at_most digest d)

-- a view may start from no checkpoint
abbrev pub HasNoStart : ℕ → List Heard → Type 0
HasNoStart f changes = (p : ℕ) (d : List ℕ) → ¬ (MayStart f changes p d)

-- the rows of all prepared sets
abbrev pub prepared_rows : List Heard → List PRow
prepared_rows changes = flat_map (λ h. h.change.prepared) changes

-- the highest place that a prepared set names, or 0
abbrev pub highest_place : List Heard → ℕ
highest_place changes = fold (λ place r. max place r.place) 0 (prepared_rows changes)

-- the last chosen place after a checkpoint: the highest that is named, but at most 32 after it; the checkpoint's own
-- place where none is chosen
abbrev pub last_place : ℕ → List Heard → ℕ
last_place start changes = max start (min (highest_place changes) (start + place_window))

-- condition A for an entry of a prepared set: some change has it, a quorum of changes with a low mark below the place
-- have there no other entry that isn't of an earlier view, and f + 1 pre-prepared its digest in its view or later
pub record MeetsA (f : ℕ) (changes : List Heard) (place : ℕ) (digest : List ℕ) (view : ℕ) : Type 0 where
  pub named : 1 ≤ count_by (has_entry place digest view) changes
  pub allowed : quorum_of f ≤ count_by (allows_entry place digest view) changes
  pub witnessed : weak_of f ≤ count_by (is_witness place digest view) changes

-- condition B: a quorum of changes with a low mark below the place have no entry there
abbrev pub MeetsB : ℕ → List Heard → ℕ → Type 0
MeetsB f changes place = quorum_of f ≤ count_by (has_no_entry place) changes

-- of the entries that meet A, one of the highest view, and of these the one of the least digest
pub record IsBestEntry (f : ℕ) (changes : List Heard) (place : ℕ) (digest : List ℕ) (view : ℕ) : Type 0 where
  pub meets : MeetsA f changes place digest view
  pub highest : (d : List ℕ) (v : ℕ) → MeetsA f changes place d v → v ≤ view
  pub least : (d : List ℕ) → MeetsA f changes place d view → IsTrue (is_digest_at_most digest d)

-- no entry meets A
abbrev pub HasNoA : ℕ → List Heard → ℕ → Type 0
HasNoA f changes place = (d : List ℕ) (v : ℕ) → ¬ (MeetsA f changes place d v)

-- the digest of Null
abbrev pub null_digest : List ℕ
null_digest = digest_of event.Null

-- the digest that is chosen at a place: of the best entry that meets A; Null's where none meets A and B holds
abbrev pub IsChosenAt : ℕ → List Heard → ℕ → List ℕ → Type 0
IsChosenAt f changes place digest = ((view : ℕ) × IsBestEntry f changes place digest view) ⊎ (HasNoA f changes place × MeetsB f changes place × (digest ≡ null_digest))

-- neither A nor B holds at a place
abbrev pub IsUndecidedAt : ℕ → List Heard → ℕ → Type 0
IsUndecidedAt f changes place = HasNoA f changes place × ¬ (MeetsB f changes place)

-- the last place of a choice
abbrev pub last_of : Choice → ℕ
last_of c = c.place + length c.chosen

-- the digest of a choice at a place after its checkpoint
abbrev pub chosen_at : Choice → ℕ → List ℕ
chosen_at c place = slice_index_or c.chosen (place - (c.place + 1)) []

-- a choice that a list of changes gives
pub record GivesChoice (f : ℕ) (changes : List Heard) (c : Choice) : Type 0 where
  pub start : IsStart f changes c.place c.digest
  pub last : last_of c ≡ last_place c.place changes
  pub chosen : (place : ℕ) → c.place < place → place ≤ last_of c → IsChosenAt f changes place (chosen_at c place)

-- the first place that a list of changes leaves undecided, after the checkpoint
pub record LeavesUndecided (f : ℕ) (changes : List Heard) (start : ℕ) (digest : List ℕ) (place : ℕ) : Type 0 where
  pub checkpoint : IsStart f changes start digest
  pub after : start < place
  pub within : place ≤ last_place start changes
  pub undecided : IsUndecidedAt f changes place
  pub first : (p : ℕ) → start < p → p < place → ¬ (IsUndecidedAt f changes p)

-- what is decided by a list of changes: a choice; or undecided, at 0 where there is no checkpoint, and else at the first
-- chosen place where neither A nor B holds
abbrev pub IsChoice : ℕ → List Heard → Decision → Type 0
IsChoice f changes (Chosen c) = GivesChoice f changes c
IsChoice f changes (Undecided place) = ((place ≡ 0) × HasNoStart f changes) ⊎ ((start : ℕ) × (digest : List ℕ) × LeavesUndecided f changes start digest place)

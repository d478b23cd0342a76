-- For proofs alone. What is the best of the checkpoints and of the entries that were looked at.
use Rattle.std.specs.Prelude.{◌==◌, ◌&&◌, ◌||◌, not, Bool, List, Option, Some, None, IsTrue}
use Rattle.std.specs.List.{list_any, list_all}
use Rattle.std.specs.Str.{bytes_eq}
use Rattle.pws_msg.specs.declared.changes.Checkpoint.{Checkpoint}
use Rattle.pws_msg.specs.declared.changes.PRow.{PRow}
use Rattle.pws_change.specs.Best.{Rank, is_no_better}
use Rattle.pws_change.specs.Changes.{is_entry}

-- what is the best of some items that pass a test: none where none passes; else one of them that passes, than which none
-- that passes is better
abbrev pub IsBest : {X : Type 0} → (X → Bool) → (X → Rank) → (X → X → Bool) → List X → Option X → Type 0
IsBest ok rank same items None = IsTrue (list_all (λ x. not (ok x)) items)
IsBest ok rank same items (Some b) = IsTrue (ok b) × IsTrue (list_any (same b) items) × IsTrue (list_all (λ x. not (ok x) || is_no_better (rank x) (rank b)) items)

-- whether two are the same
abbrev pub is_same_checkpoint : Checkpoint → Checkpoint → Bool
is_same_checkpoint b c = c.place == b.place && bytes_eq c.digest b.digest

abbrev pub is_same_row : PRow → PRow → Bool
is_same_row b r = is_entry b.place b.digest b.view r

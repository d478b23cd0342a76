-- Reading has an answer for each text.
use Rattle.std.specs.Prelude.{◌⊎◌, ℕ, List, Ok, Err}
use Rattle.pws_tree.specs.Trees.{Tree}
use Rattle.pws_mark.specs.Reading.{Reads}
use Rattle.pws_mark.specs.declared.errors.MarkError.{MarkError}
use Rattle.pws_mark.specs.declared.errors.ReadError.TheVariants as read_error

abbrev pub TextsAreAnswered : Type 0
TextsAreAnswered = (bytes : List ℕ) → ((t : Tree) × Reads bytes (Ok t)) ⊎ ((e : MarkError) × Reads bytes (Err (read_error.Mark e)))

-- What reading answers; the order of the refusals and their places are this project's own rule.
use Rattle.std.specs.Prelude.{◌≡◌, ℕ, ◌<◌, ◌≤◌, List, [], length, Result, Ok, Err}
use Rattle.std.specs.Str.{IsUtf8, IsValidUpTo}
use Rattle.pws_tree.specs.Trees.{Tree}
use Rattle.pws_mark.specs.Documents.{Document}
use Rattle.pws_mark.specs.Beginnings.{Spells}
use Rattle.pws_mark.specs.Meaning.{meaning}
use Rattle.pws_mark.specs.Faults.{faults}
use Rattle.pws_mark.specs.Causes.{IsLeastCause}
use Rattle.pws_mark.specs.declared.errors.MarkKind.{MarkKind}
use Rattle.pws_mark.specs.declared.errors.MarkKind.TheVariants as kind
use Rattle.pws_mark.specs.declared.errors.MarkError.{MarkError}
use Rattle.pws_mark.specs.declared.errors.ReadError.{ReadError}
use Rattle.pws_mark.specs.declared.errors.ReadError.TheVariants as read_error

-- the text stands for this tree
pub record Means (bytes : List ℕ) (t : Tree) : Type 0 where
  pub document : Document
  pub spells : Spells document bytes
  pub faultless : faults document ≡ []
  pub tree : meaning document ≡ t

-- more than 32,768 bytes are refused first, and then what isn't UTF-8
abbrev pub Refuses : List ℕ → MarkError → MarkKind → Type 0
Refuses bytes e kind.Size = (32768 < length bytes) × (e.at ≡ 32768)
Refuses bytes e kind.Utf8 = (length bytes ≤ 32768) × IsValidUpTo bytes e.at
Refuses bytes e _ = (length bytes ≤ 32768) × IsUtf8 bytes × IsLeastCause bytes e

-- what reading answers; for want of memory there is no rule
abbrev pub Reads : List ℕ → Result Tree ReadError → Type 0
Reads bytes (Ok t) = (length bytes ≤ 32768) × IsUtf8 bytes × Means bytes t
Reads bytes (Err (read_error.Mark e)) = Refuses bytes e e.kind
Reads bytes (Err read_error.Memory) = Unit {0}

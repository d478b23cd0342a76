-- The lines of a text; this project's own rules.
use Rattle.std.specs.Prelude.{ℕ, ◌==◌, not, Bool, true, false, if◌then◌else◌, List, [], ◌∷◌, length}
use Rattle.std.specs.List.{slice_split, list_all}

-- a line without its line feed, and whether it has one
pub record TextLine : Type 0 where
  pub bytes : List ℕ
  pub ended : Bool

-- the lines of the pieces between line feeds: the last piece has no line feed, and is no line where it is empty
abbrev pub lines_from : List (List ℕ) → List TextLine
lines_from [] = []
lines_from (rest ∷ []) = if length rest == 0 then [] else record { bytes = rest; ended = false } ∷ []
lines_from (bytes ∷ more ∷ pieces) = record { bytes = bytes; ended = true } ∷ lines_from (more ∷ pieces)

unfoldable pub lines_of : List ℕ → List TextLine
lines_of text = lines_from (slice_split (λ b. b == 10) text)

-- a line holds no line feed
abbrev pub is_line : List ℕ → Bool
is_line bytes = list_all (λ b. not (b == 10)) bytes

-- Texts of the grammar, and beginnings of them.
use Rattle.std.specs.Prelude.{◌≡◌, ℕ, suc, ◌<◌, ◌≤◌, List, ◌++◌, length, take, IsTrue}
use Rattle.pws_mark.specs.Documents.{Document, spell}
use Rattle.pws_mark.specs.Grammar.{is_document}

-- the document is in the grammar, and these bytes spell it
pub record Spells (d : Document) (bytes : List ℕ) : Type 0 where
  pub lawful : IsTrue (is_document d)
  pub spelled : spell d ≡ bytes

abbrev pub IsText : List ℕ → Type 0
IsText bytes = (d : Document) × Spells d bytes

-- the document is spelled by these bytes and then others
abbrev pub Completes : Document → List ℕ → Type 0
Completes d front = (rest : List ℕ) × Spells d (front ++ rest)

abbrev pub IsViable : List ℕ → Type 0
IsViable front = (d : Document) × Completes d front

-- the longest prefix of these bytes that is a prefix of some text of the grammar has so many bytes
pub record IsLongest (bytes : List ℕ) (n : ℕ) : Type 0 where
  pub within : n ≤ length bytes
  pub viable : IsViable (take n bytes)
  pub next : n < length bytes → ¬ (IsViable (take (suc n) bytes))

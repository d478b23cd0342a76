-- The canonical text of a lawful tree stands for that tree, and no other tree has it; texts are UTF-8.
use Rattle.std.specs.Prelude.{◌≡◌, ◌↔◌, ℕ, ◌^◌, ◌<◌, ◌≤◌, List, length, IsTrue, Ok}
use Rattle.std.specs.Str.{IsUtf8}
use Rattle.pws_tree.specs.Lawful.{is_lawful}
use Rattle.pws_tree.specs.Trees.{Tree}
use Rattle.pws_mark.specs.Beginnings.{IsText}
use Rattle.pws_mark.specs.Canonical.{canonical}
use Rattle.pws_mark.specs.Reading.{Means, Reads}

-- a document of the grammar is spelled so, has no fault, and stands for the tree; texts are shorter than 2 ^ 64 bytes
abbrev pub CanonicalStands : Type 0
CanonicalStands = (t : Tree) → IsTrue (is_lawful t) → length (canonical t) < 2 ^ 64 → Means (canonical t) t

-- reading may answer the tree, where the text is no longer than may be read
abbrev pub CanonicalMayBeRead : Type 0
CanonicalMayBeRead = (t : Tree) → IsTrue (is_lawful t) → length (canonical t) ≤ 32768 → Reads (canonical t) (Ok t)

-- two trees have one canonical text exactly where they are the same
abbrev pub CanonicalTellsApart : Type 0
CanonicalTellsApart = (t u : Tree) → IsTrue (is_lawful t) → IsTrue (is_lawful u) → length (canonical t) < 2 ^ 64 → (canonical t ≡ canonical u) ↔ (t ≡ u)

-- each text of the grammar is UTF-8
abbrev pub TextsAreUtf8 : Type 0
TextsAreUtf8 = (bytes : List ℕ) → IsText bytes → IsUtf8 bytes

-- The one tree that a text stands for. It is given by the reader that takes one character after another; that this is the
-- tree that the text means is the law `TreesAreMeant`, so nobody has to believe the reader's definitions.
use Rattle.std.specs.Prelude.{◌≡◌, ◌↔◌, ℕ, ◌≤◌, Bool, true, false, ◌&&◌, nat_le, if◌then◌else◌, List, [], ◌∷◌, length, chars, Option, Some, None, Result, Ok, Err}
use Rattle.std.specs.Str.{is_utf8}
use Rattle.pws_tree.specs.Trees.{Tree, Nodes, NoNode, TextThen, QualifiedThen, ElementThen}
use Rattle.pws_mark.specs.Outcome.{found}
use Rattle.pws_mark.specs.ReaderLaws.{read_events}
use Rattle.pws_mark.specs.Reading.{Means, Reads}
use Rattle.pws_mark.specs.Scan.{run, start, is_whole}
use Rattle.pws_mark.specs.States.{State}
use Rattle.pws_mark.specs.declared.errors.MarkError.{MarkError}
use Rattle.pws_mark.specs.declared.errors.MarkKind.{MarkKind}
use Rattle.pws_mark.specs.declared.errors.ReadError.{ReadError}
use Rattle.pws_mark.specs.declared.errors.ReadError.TheVariants as read_error

abbrev pub is_nothing : List (MarkKind × ℕ) → Bool
is_nothing [] = true
is_nothing (f ∷ fs) = false

-- the root among the nodes of what is open
abbrev pub root_among : List Nodes → Option Tree
root_among [] = None
root_among (NoNode ∷ stack) = None
root_among (TextThen t rest ∷ stack) = None
root_among (QualifiedThen n rest ∷ stack) = None
root_among (ElementThen n attrs inner rest ∷ stack) = Some (record { name = n; attrs = attrs; children = inner })

-- what was read to here is a text, and nothing refuses it
abbrev pub ended_with : Option State → List (MarkKind × ℕ) → Option Tree
ended_with None finds = None
ended_with (Some s) finds = if is_whole s && is_nothing finds then root_among (read_events s.outer.events) else None

-- the tree of a text of UTF-8 that has at most 32,768 bytes, where it stands for one
unfoldable pub tree_of : List ℕ → Option Tree
tree_of bytes = if nat_le (length bytes) 32768 && is_utf8 bytes then ended_with (run start (chars bytes)) (found (chars bytes)) else None

-- it is the tree that the text means, so there is one at most
abbrev pub TreesAreMeant : Type 0
TreesAreMeant = (bytes : List ℕ) (t : Tree) → length bytes ≤ 32768 → (tree_of bytes ≡ Some t) ↔ Means bytes t

abbrev pub IsTreeOf : List ℕ → Result Tree ReadError → Type 0
IsTreeOf bytes (Ok t) = tree_of bytes ≡ Some t
IsTreeOf bytes (Err (read_error.Mark e)) = tree_of bytes ≡ None
IsTreeOf bytes (Err read_error.Memory) = Unit {0}

-- reading answers it, and refuses the text where there is none
abbrev pub ReadingGivesTheTree : Type 0
ReadingGivesTheTree = (bytes : List ℕ) (answer : Result Tree ReadError) → Reads bytes answer → IsTreeOf bytes answer

-- and it refuses a text in one way
abbrev pub OneRefusal : Type 0
OneRefusal = (bytes : List ℕ) (d e : MarkError) → Reads bytes (Err (read_error.Mark d)) → Reads bytes (Err (read_error.Mark e)) → d ≡ e

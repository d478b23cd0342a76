-- How the reader that takes one character after another and the definitions of documents agree. It is here for the
-- proofs: of other crates' contracts only what it has of events stands behind `tree_of` (`TreeOf`), where a law says what
-- that means without it.
use Rattle.std.specs.Prelude.{◌≡◌, ◌⊎◌, ℕ, suc, ◌<◌, ◌≤◌, Bool, true, false, ◌&&◌, List, [], ◌∷◌, ◌++◌, length, take, Some, IsTrue, encode_utf8, encode_utf8_all}
use Rattle.std.specs.Option.{is_some}
use Rattle.pws_tree.specs.Lawful.{is_lawful}
use Rattle.pws_tree.specs.Trees.{Tree, Nodes, NoNode, ElementThen, add_text, add_qualified, add_element}
use Rattle.pws_mark.specs.Documents.{Document, spell, spell_head, spell_prolog}
use Rattle.pws_mark.specs.Grammar.{is_document}
use Rattle.pws_mark.specs.Faults.{faults}
use Rattle.pws_mark.specs.Meaning.{in_order, meaning}
use Rattle.pws_mark.specs.Noted.{noted, SameFaults}
use Rattle.pws_mark.specs.Places.{is_inside}
use Rattle.pws_mark.specs.Scan.{region, step, run, start, is_whole, is_within}
use Rattle.pws_mark.specs.Spelling.{write}
use Rattle.pws_mark.specs.States.{State}
use Rattle.pws_mark.specs.declared.modes.Event.{Event}
use Rattle.pws_mark.specs.declared.modes.Event.TheVariants as event
use Rattle.pws_mark.specs.declared.modes.Region.{Region}
use Rattle.pws_mark.specs.declared.modes.Region.TheVariants as region_is
use Rattle.pws_mark.specs.declared.modes.Mode.{Mode}
use Rattle.pws_mark.specs.declared.modes.Mode.TheVariants as mode

-- a document's characters spell it
abbrev pub WritesSpell : Type 0
WritesSpell = (d : Document) → IsTrue (is_document d) → encode_utf8_all (write d) ≡ spell d

-- What events stand for, read from the right: the nodes of the open elements, the innermost first.
abbrev pub read_event : Event → List Nodes → List Nodes
read_event event.Close stack = NoNode ∷ stack
read_event (event.Text t) stack = add_text t stack
read_event (event.Qualified n) stack = add_qualified n stack
read_event (event.Open n attrs) stack = add_element n (in_order attrs) stack

unfoldable pub read_events : List Event → List Nodes
read_events [] = NoNode ∷ []
read_events (e ∷ es) = read_event e (read_events es)

abbrev pub Builds : List Event → Tree → Type 0
Builds events t = read_events events ≡ ElementThen t.name t.attrs t.children NoNode ∷ []

-- the reader takes a document whole, notes its faults, and builds what it means
pub record Follows (d : Document) : Type 0 where
  pub last : State
  pub runs : run start (write d) ≡ Some last
  pub whole : is_whole last ≡ true
  pub notes : SameFaults (noted start (write d)) (faults d)
  pub builds : faults d ≡ [] → Builds last.outer.events (meaning d)

abbrev pub DocumentsAreFollowed : Type 0
DocumentsAreFollowed = (d : Document) → IsTrue (is_document d) → Follows d

-- whether a document type is told apart here: no start tag has begun, outside of the declaration and of comments
abbrev pub is_early_in : Mode → Bool
is_early_in (mode.Start marked) = true
is_early_in (mode.HeadOpened at) = true
is_early_in (mode.Content n after_return) = true
is_early_in (mode.Opened at) = true
is_early_in mode.Bang = true
is_early_in mode.Dash = true
is_early_in _ = false

abbrev pub is_before : Region → Bool
is_before region_is.Before = true
is_before _ = false

abbrev pub is_early : State → Bool
is_early s = is_early_in s.mode && is_before (region s.outer)

-- the place is behind the head of the document and not behind its prolog
pub record IsInProlog (d : Document) (at : ℕ) : Type 0 where
  pub behind : length (spell_head d) ≤ at
  pub before : at ≤ length (spell_prolog d)

-- what was read begins a document; it is the whole one where a text may end here, and one whose element hasn't begun
-- where that may be
pub record Begins (s : State) (front : List ℕ) : Type 0 where
  pub document : Document
  pub lawful : IsTrue (is_document document)
  pub rest : List ℕ
  pub written : write document ≡ front ++ rest
  pub whole : is_whole s ≡ true → rest ≡ []
  pub early : is_early s ≡ true → IsInProlog document s.at

abbrev pub RunsBegin : Type 0
RunsBegin = (front : List ℕ) (s : State) → run start front ≡ Some s → Begins s front

-- where the reader stands in a document
pub record IsPlaced (d : Document) (s : State) : Type 0 where
  pub inside : is_inside d s.at ≡ is_within s.mode
  pub early : IsInProlog d s.at → is_within s.mode ≡ false → is_early s ≡ true

abbrev pub RunsArePlaced : Type 0
RunsArePlaced = (d : Document) (front rest : List ℕ) (s : State) → IsTrue (is_document d) → write d ≡ front ++ rest → run start front ≡ Some s → IsPlaced d s

-- the place is the number of bytes that were read
abbrev pub PlacesCount : Type 0
PlacesCount = (front : List ℕ) (s : State) → run start front ≡ Some s → s.at ≡ length (encode_utf8_all front)

-- these bytes begin a character that the reader takes
pub record BeginsTaken (s : State) (part : List ℕ) : Type 0 where
  pub char : ℕ
  pub takes : is_some (step s char) ≡ true
  pub rest : List ℕ
  pub bytes : encode_utf8 char ≡ part ++ rest

-- how many bytes of a character that isn't taken are those of one that is
pub record Shares (s : State) (c k : ℕ) : Type 0 where
  pub within : k < length (encode_utf8 c)
  pub some : (k ≡ 0) ⊎ BeginsTaken s (take k (encode_utf8 c))
  pub most : BeginsTaken s (take (suc k) (encode_utf8 c)) → ⊥

-- a document that has no faults stands for a lawful tree
abbrev pub FaultlessIsLawful : Type 0
FaultlessIsLawful = (d : Document) → IsTrue (is_document d) → faults d ≡ [] → IsTrue (is_lawful (meaning d))

-- What a text is refused for, by where the reader that takes one character after another stops. It is here for the
-- proofs: of other crates' contracts it stands behind `tree_of` alone (`TreeOf`), where a law says what that means without
-- it.
use Rattle.std.specs.Prelude.{◌≡◌, ◌↔◌, ℕ, ◌+◌, ◌-◌, Bool, true, false, not, ◌&&◌, List, [], ◌∷◌, ◌++◌, map, Option, Some, None, IsTrue, Contains, codes, encode_utf8_all}
use Rattle.std.specs.Str.{all_scalars}
use Rattle.pws_tree.specs.Lawful.{is_lawful}
use Rattle.pws_tree.specs.Trees.{Tree}
use Rattle.pws_mark.specs.Causes.{IsCause, IsLeastCause}
use Rattle.pws_mark.specs.Faults.{Fault}
use Rattle.pws_mark.specs.Least.{lowered}
use Rattle.pws_mark.specs.Noted.{if_found, noted}
use Rattle.pws_mark.specs.Places.{is_at}
use Rattle.pws_mark.specs.ReaderLaws.{Shares, Builds, is_early}
use Rattle.pws_mark.specs.Reading.{Means}
use Rattle.pws_mark.specs.Scan.{step, run, start, is_whole, is_within}
use Rattle.pws_mark.specs.States.{State}
use Rattle.pws_mark.specs.declared.errors.MarkError.{MarkError}
use Rattle.pws_mark.specs.declared.errors.MarkKind.{MarkKind}
use Rattle.pws_mark.specs.declared.errors.MarkKind.TheVariants as kind
use Rattle.pws_mark.specs.declared.modes.Declaring.TheVariants as declaring
use Rattle.pws_mark.specs.declared.modes.Mode.{Mode}
use Rattle.pws_mark.specs.declared.modes.Mode.TheVariants as mode

abbrev pub find_of : Fault → MarkKind × ℕ
find_of f = (f.kind, f.at)

-- what is noted over these characters, without where it is complete
unfoldable pub found : List ℕ → List (MarkKind × ℕ)
found front = map find_of (noted start front)

-- how many bytes before stands the < of what may be a processing instruction
abbrev pub question_before : Mode → Option ℕ
question_before (mode.Opened at) = Some 1
question_before (mode.Declaring (declaring.Word n)) = Some (n + 2)
question_before _ = None

abbrev pub is_bang : Mode → Bool
is_bang mode.Bang = true
is_bang _ = false

abbrev pub question_finds : List ℕ → ℕ → Option ℕ → List (MarkKind × ℕ)
question_finds bytes at None = []
question_finds bytes at (Some before) = if_found (is_at bytes (at - before) (codes "<?")) kind.Instruction (at - before)

-- a document type or a processing instruction where the reader stops
unfoldable pub stop_finds : State → List ℕ → List (MarkKind × ℕ)
stop_finds s bytes =
    if_found (is_early s && is_at bytes s.at (codes "<!DOCTYPE")) kind.Doctype s.at
    ++ (if_found (is_early s && (is_bang s.mode && is_at bytes (s.at - 2) (codes "<!DOCTYPE"))) kind.Doctype (s.at - 2)
    ++ (if_found (not (is_within s.mode) && is_at bytes s.at (codes "<?")) kind.Instruction s.at
    ++ question_finds bytes s.at (question_before s.mode)))

-- the reader stops at a character that it doesn't take, of which so many bytes are those of one that it takes; or at the
-- end, where a text may not end
abbrev pub StopsAt : State → List ℕ → ℕ → Type 0
StopsAt s [] k = (is_whole s ≡ false) × (k ≡ 0)
StopsAt s (c ∷ cs) k = (step s c ≡ None) × Shares s c k

-- these are all that refuses the text
abbrev pub AreCauses : List ℕ → List (MarkKind × ℕ) → Type 0
AreCauses bytes finds = (k : MarkKind) (at : ℕ) → IsCause bytes k at ↔ Contains finds (k, at)

-- where the reader stops
abbrev pub StopsTell : Type 0
StopsTell =
    (front rest : List ℕ) (s : State) (k : ℕ) → all_scalars (front ++ rest) ≡ true → run start front ≡ Some s → StopsAt s rest k →
    let bytes = encode_utf8_all (front ++ rest) in
    AreCauses bytes (found front ++ (stop_finds s bytes ++ (kind.Syntax, s.at + k) ∷ []))

-- where it comes to the end, and a text may end there
abbrev pub EndsTell : Type 0
EndsTell =
    (chars : List ℕ) (s : State) → all_scalars chars ≡ true → run start chars ≡ Some s → is_whole s ≡ true →
    AreCauses (encode_utf8_all chars) (found chars)

-- and nothing is noted
abbrev pub EndsMean : Type 0
EndsMean =
    (chars : List ℕ) (s : State) (t : Tree) → all_scalars chars ≡ true → run start chars ≡ Some s → is_whole s ≡ true → found chars ≡ [] → Builds s.outer.events t →
    Means (encode_utf8_all chars) t

-- there is a tree, and it is lawful
abbrev pub EndsBuild : Type 0
EndsBuild =
    (chars : List ℕ) (s : State) → all_scalars chars ≡ true → run start chars ≡ Some s → is_whole s ≡ true → found chars ≡ [] →
    (t : Tree) × Builds s.outer.events t × IsTrue (is_lawful t)

-- the least of all that refuses a text
abbrev pub LeastTells : Type 0
LeastTells = (bytes : List ℕ) (finds : List (MarkKind × ℕ)) (e : MarkError) → AreCauses bytes finds → lowered None finds ≡ Some e → IsLeastCause bytes e

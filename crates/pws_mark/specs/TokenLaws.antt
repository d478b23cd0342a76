-- How the reader takes the parts of a document. It is here for the proofs alone: no contract of another crate names it.
use Rattle.std.specs.Prelude.{◌≡◌, ◌≢◌, ℕ, ◌+◌, Bool, false, not, ◌&&◌, ◌||◌, ◌==◌, if◌then◌else◌, List, [], ◌∷◌, ◌++◌, length, map, Some, IsTrue, encode_utf8, encode_utf8_all}
use Rattle.std.specs.List.{list_all}
use Rattle.pws_mark.specs.Bindings.{piece_char, value_of, is_char}
use Rattle.pws_mark.specs.Documents.{Piece, Attribute, Tag, Document, spell_piece, spell_attribute, spell_tag, spell_head, section_start, section_end, comment_start, comment_end}
use Rattle.pws_mark.specs.Faults.{Fault, piece_faults, value_faults, depth_faults}
use Rattle.pws_mark.specs.Grammar.{is_tag, is_declaration}
use Rattle.pws_mark.specs.Meaning.{char_text}
use Rattle.pws_mark.specs.Noted.{start_finds, hollow_finds, end_finds, noted}
use Rattle.pws_mark.specs.Scan.{region, text_bytes, run, start, outside}
use Rattle.pws_mark.specs.Spelling.{write_piece, write_tag, write_head}
use Rattle.pws_mark.specs.States.{Open, Outer, State, started, hollowed, ended, taken}
use Rattle.pws_mark.specs.Tokens.{is_white, is_name, is_piece, is_text_char, is_section, is_comment}
use Rattle.pws_mark.specs.declared.errors.MarkKind.{MarkKind}
use Rattle.pws_mark.specs.declared.modes.ReadAttribute.{ReadAttribute}
use Rattle.pws_mark.specs.declared.modes.ReadTag.{ReadTag}
use Rattle.pws_mark.specs.declared.modes.Region.TheVariants as region_is
use Rattle.pws_mark.specs.declared.modes.Mode.{Mode}
use Rattle.pws_mark.specs.declared.modes.Mode.TheVariants as mode

abbrev pub state : ℕ → Mode → Outer → State
state at mode outer = record { at = at; mode = mode; outer = outer }

-- the reader takes these characters from one state to another, and notes these faults
pub record Goes (s : State) (cs : List ℕ) (t : State) (fs : List Fault) : Type 0 where
  pub runs : run s cs ≡ Some t
  pub notes : noted s cs ≡ fs

abbrev pub ending : ℕ → List (MarkKind × ℕ) → List Fault
ending end finds = map (λ f. record { kind = f.0; at = f.1; end = end }) finds

-- what is kept of attributes, from this place on
abbrev pub attributes_read : ℕ → List Attribute → List ReadAttribute
attributes_read at [] = []
attributes_read at (a ∷ more) =
    record { name = a.name; at = at + length (encode_utf8_all a.gap); value = value_of a.value } ∷ attributes_read (at + length (spell_attribute a)) more

-- and of a tag whose < is at this place
abbrev pub tag_read : ℕ → Tag → ReadTag
tag_read at tag = record { at = at; name = tag.name; attributes = attributes_read (at + (1 + length (encode_utf8_all tag.name))) tag.attributes }

-- the faults of the values of attributes, from this place on
abbrev pub values_faults : ℕ → List Attribute → List Fault
values_faults at [] = []
values_faults at (a ∷ more) =
    let name_at = at + length (encode_utf8_all a.gap) in
    let value_at = name_at + (length (encode_utf8_all a.name) + (length (encode_utf8_all a.before) + (length (encode_utf8_all a.after) + 2))) in
    value_faults value_at a.value ++ values_faults (at + length (spell_attribute a)) more

-- what is noted in a tag before its end
abbrev pub early_faults : ℕ → ℕ → Tag → List Fault
early_faults level at tag = depth_faults level at tag.name ++ values_faults (at + (1 + length (encode_utf8_all tag.name))) tag.attributes

-- a start tag behind its <
abbrev pub StartsAreTaken : Type 0
StartsAreTaken =
    (o : Outer) (at : ℕ) (tag : Tag) → region o ≢ region_is.Behind → IsTrue (is_tag tag) →
    let end = at + (2 + length (spell_tag tag)) in
    Goes (state (at + 1) (mode.Opened at) o) (write_tag tag ++ 62 ∷ []) (state end (mode.Content 0 false) (started o (tag_read at tag)))
    (early_faults (length o.opens) at tag ++ ending end (start_finds o (tag_read at tag)))

-- an empty tag behind its <
abbrev pub HollowsAreTaken : Type 0
HollowsAreTaken =
    (o : Outer) (at : ℕ) (tag : Tag) → region o ≢ region_is.Behind → IsTrue (is_tag tag) →
    let end = at + (3 + length (spell_tag tag)) in
    Goes (state (at + 1) (mode.Opened at) o) (write_tag tag ++ 47 ∷ 62 ∷ []) (state end (mode.Content 0 false) (hollowed o (tag_read at tag)))
    (early_faults (length o.opens) at tag ++ ending end (hollow_finds o (tag_read at tag)))

-- an end tag
abbrev pub EndsAreTaken : Type 0
EndsAreTaken =
    (o : Outer) (x : Open) (xs : List Open) (at n : ℕ) (after_return : Bool) (gap : List ℕ) → o.opens ≡ x ∷ xs → IsTrue (is_name x.name) → IsTrue (list_all is_white gap) →
    let end = at + (3 + length (encode_utf8_all x.name ++ encode_utf8_all gap)) in
    Goes (state at (mode.Content n after_return) o) (60 ∷ 47 ∷ (x.name ++ (gap ++ 62 ∷ []))) (state end (mode.Content 0 false) (ended x xs o.events o.text))
    (ending end (end_finds o.opens))

-- how many of ]] stand there, behind this piece
abbrev pub brackets_behind : ℕ → Piece → ℕ
brackets_behind n piece = if is_char 93 piece then (if n == 2 then 2 else n + 1) else 0

abbrev pub piece_bytes : Bool → Piece → List ℕ
piece_bytes after_return piece =
    if is_char 13 piece then 10 ∷ [] else if after_return && is_char 10 piece then [] else char_text (piece_char piece)

-- a piece of content
abbrev pub PiecesAreTaken : Type 0
PiecesAreTaken =
    (o : Outer) (at n : ℕ) (after_return : Bool) (piece : Piece) → region o ≡ region_is.Inside → IsTrue (is_piece is_text_char piece) → (n == 2 && is_char 62 piece) ≡ false →
    let end = at + length (spell_piece piece) in
    Goes (state at (mode.Content n after_return) o) (write_piece piece) (state end (mode.Content (brackets_behind n piece) (is_char 13 piece)) (taken o at (piece_char piece) (piece_bytes after_return piece)))
    (piece_faults at piece)

-- the characters of a CDATA section, from this place on
abbrev pub all_taken : Outer → ℕ → Bool → List ℕ → Outer
all_taken o at after_return [] = o
all_taken o at after_return (c ∷ cs) = all_taken (taken o at (Some c) (text_bytes after_return c)) (at + length (encode_utf8 c)) (c == 13) cs

abbrev pub SectionsAreTaken : Type 0
SectionsAreTaken =
    (o : Outer) (at n : ℕ) (after_return : Bool) (chars : List ℕ) → region o ≡ region_is.Inside → IsTrue (is_section chars) →
    Goes (state at (mode.Content n after_return) o) (section_start ++ (chars ++ section_end))
    (state (at + length (section_start ++ (encode_utf8_all chars ++ section_end))) (mode.Content 0 false) (all_taken o (at + length section_start) false chars)) []

-- a comment, anywhere
abbrev pub CommentsAreTaken : Type 0
CommentsAreTaken =
    (o : Outer) (at n : ℕ) (after_return : Bool) (chars : List ℕ) → IsTrue (is_comment chars) →
    Goes (state at (mode.Content n after_return) o) (comment_start ++ (chars ++ comment_end))
    (state (at + length (comment_start ++ (encode_utf8_all chars ++ comment_end))) (mode.Content 0 false) o) []

-- what may come behind the head of a document: white space, or < and then no question mark
abbrev pub may_follow : List ℕ → Bool
may_follow [] = false
may_follow (c ∷ []) = is_white c
may_follow (c ∷ d ∷ cs) = is_white c || (c == 60 && not (d == 63))

-- a byte order mark and a declaration, either of them or neither: the reader stands as behind a declaration
pub record HeadIsTaken (d : Document) (cs : List ℕ) : Type 0 where
  pub runs : run start (write_head d ++ cs) ≡ run (state (length (spell_head d)) (mode.Content 0 false) outside) cs
  pub notes : noted start (write_head d ++ cs) ≡ noted (state (length (spell_head d)) (mode.Content 0 false) outside) cs

abbrev pub HeadsAreTaken : Type 0
HeadsAreTaken = (d : Document) (cs : List ℕ) → IsTrue (is_declaration d.declaration) → IsTrue (may_follow cs) → HeadIsTaken d cs

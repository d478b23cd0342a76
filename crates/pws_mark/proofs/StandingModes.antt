-- What was read, by where the reader is.
use Rattle.std.proofs.Common.{◌≡◌, ℕ, ◌≤◌, ◌<◌, Bool, true, false, not, ◌||◌, List, [], ◌∷◌, ◌++◌, map, take, length, refl, ap, sym, ◌∙◌, append_assoc, append-nil, Option}
use Rattle.std.specs.Prelude.{if◌then◌else◌, codes}
use Rattle.std.specs.List.{list_all, flat_map}
use Rattle.std.specs.Str.{bytes_eq, str_to_ascii_lowercase}
use Rattle.pws_mark.specs.Documents.{Piece, Attribute, Pseudo, section_start, comment_start}
use Rattle.pws_mark.specs.Grammar.{is_pseudo, is_optional}
use Rattle.pws_mark.specs.Scan.{region, region_in, section_word, part_word, literal_word, as_compared}
use Rattle.pws_mark.specs.Spelling.{write_piece, write_attribute, write_pseudo, write_optional}
use Rattle.pws_mark.specs.States.{Open, Outer}
use Rattle.pws_mark.specs.Tokens.{is_white, is_gap, is_name, is_piece, is_value_char, is_quote, is_attribute}
use Rattle.pws_mark.specs.declared.modes.Declaring.{Declaring}
use Rattle.pws_mark.specs.declared.modes.Declaring.TheVariants as declaring
use Rattle.pws_mark.specs.declared.modes.Literal.{Literal}
use Rattle.pws_mark.specs.declared.modes.Literal.TheVariants as literal
use Rattle.pws_mark.specs.declared.modes.Mode.{Mode}
use Rattle.pws_mark.specs.declared.modes.Mode.TheVariants as mode
use Rattle.pws_mark.specs.declared.modes.Part.{Part}
use Rattle.pws_mark.specs.declared.modes.Part.TheVariants as part
use Rattle.pws_mark.specs.declared.modes.ReadName.{ReadName}
use Rattle.pws_mark.specs.declared.modes.ReadTag.{ReadTag}
use Rattle.pws_mark.specs.declared.modes.ReadValue.{ReadValue}
use Rattle.pws_mark.specs.declared.modes.Reference.{Reference}
use Rattle.pws_mark.specs.declared.modes.Region.{Region}
use Rattle.pws_mark.specs.declared.modes.Region.TheVariants as region_is
use Rattle.pws_mark.proofs.Following.{marks_behind}
use Rattle.pws_mark.proofs.Standing.{Context, Before, Inside, Behind, LawfulContext, Agrees, At, written, names_of, frame_names, is_inside, may_open, innermost}
use Rattle.pws_mark.proofs.StandingTokens.{NameSoFar, RefHolds, CommentHolds, SectionHolds}

-- so many of ]] stand before what comes
abbrev pub MarksAre : Context → ℕ → Type 0
MarksAre (Before h) n = Unit {0}
MarksAre (Inside h f fs) n = marks_behind f.done 0 ≡ n
MarksAre (Behind h root after) n = Unit {0}

pub record InContent (n : ℕ) (o : Outer) (front : List ℕ) : Type 0 where
  pub here : At o front []
  pub marks : MarksAre here.context n

pub record InTextReference (r : Reference) (o : Outer) (front : List ℕ) : Type 0 where
  pub chars : List ℕ
  pub here : At o front (38 ∷ chars)
  pub inside : is_inside here.context ≡ true
  pub holds : RefHolds r chars

pub record InComment (n : ℕ) (o : Outer) (front : List ℕ) : Type 0 where
  pub chars : List ℕ
  pub here : At o front (comment_start ++ chars)
  pub holds : CommentHolds n chars

pub record InSectionWord (n : ℕ) (o : Outer) (front : List ℕ) : Type 0 where
  pub here : At o front (60 ∷ 33 ∷ 91 ∷ take n section_word)
  pub inside : is_inside here.context ≡ true
  pub few : n < 6

pub record InSection (n : ℕ) (o : Outer) (front : List ℕ) : Type 0 where
  pub chars : List ℕ
  pub here : At o front (section_start ++ chars)
  pub inside : is_inside here.context ≡ true
  pub holds : SectionHolds n chars

-- what was read of a tag: its name, and attributes
abbrev pub tag_front : List ℕ → List Attribute → List ℕ → List ℕ
tag_front name attributes more = 60 ∷ (name ++ (flat_map write_attribute attributes ++ more))

pub record InTagName (t : ReadTag) (starts : Bool) (o : Outer) (front : List ℕ) : Type 0 where
  pub here : At o front (60 ∷ t.name)
  pub may : may_open here.context ≡ true
  pub name : NameSoFar starts t.name

pub record InTheTag (word : List ℕ) (more : List ℕ) (o : Outer) (front : List ℕ) : Type 0 where
  pub attributes : List Attribute
  pub here : At o front (tag_front word attributes more)
  pub may : may_open here.context ≡ true
  pub name : is_name word ≡ true
  pub lawful : list_all is_attribute attributes ≡ true

pub record InTag (t : ReadTag) (spaced : Bool) (o : Outer) (front : List ℕ) : Type 0 where
  pub gap : List ℕ
  pub tag : InTheTag t.name gap o front
  pub white : list_all is_white gap ≡ true
  pub some : spaced ≡ true → is_gap gap ≡ true

pub record InSlash (t : ReadTag) (o : Outer) (front : List ℕ) : Type 0 where
  pub gap : List ℕ
  pub tag : InTheTag t.name (gap ++ 47 ∷ []) o front
  pub white : list_all is_white gap ≡ true

pub record InAttributeName (t : ReadTag) (n : ReadName) (starts : Bool) (o : Outer) (front : List ℕ) : Type 0 where
  pub gap : List ℕ
  pub tag : InTheTag t.name (gap ++ n.name) o front
  pub white : is_gap gap ≡ true
  pub name : NameSoFar starts n.name

pub record InBeforeEquals (t : ReadTag) (n : ReadName) (o : Outer) (front : List ℕ) : Type 0 where
  pub gap : List ℕ
  pub before : List ℕ
  pub tag : InTheTag t.name (gap ++ (n.name ++ before)) o front
  pub white : is_gap gap ≡ true
  pub name : is_name n.name ≡ true
  pub before_white : list_all is_white before ≡ true

pub record InAfterEquals (t : ReadTag) (n : ReadName) (o : Outer) (front : List ℕ) : Type 0 where
  pub gap : List ℕ
  pub before : List ℕ
  pub after : List ℕ
  pub tag : InTheTag t.name (gap ++ (n.name ++ (before ++ 61 ∷ after))) o front
  pub white : is_gap gap ≡ true
  pub name : is_name n.name ≡ true
  pub before_white : list_all is_white before ≡ true
  pub after_white : list_all is_white after ≡ true

pub record InValue (t : ReadTag) (n : ReadName) (v : ReadValue) (more : List ℕ) (o : Outer) (front : List ℕ) : Type 0 where
  pub gap : List ℕ
  pub before : List ℕ
  pub after : List ℕ
  pub pieces : List Piece
  pub tag : InTheTag t.name (gap ++ (n.name ++ (before ++ 61 ∷ (after ++ v.quote ∷ (flat_map write_piece pieces ++ more))))) o front
  pub white : is_gap gap ≡ true
  pub name : is_name n.name ≡ true
  pub before_white : list_all is_white before ≡ true
  pub after_white : list_all is_white after ≡ true
  pub quote : is_quote v.quote ≡ true
  pub lawful : list_all (is_piece (is_value_char v.quote)) pieces ≡ true

pub record InValueReference (tag : ReadTag) (name : ReadName) (v : ReadValue) (r : Reference) (o : Outer) (front : List ℕ) : Type 0 where
  pub chars : List ℕ
  pub value : InValue tag name v (38 ∷ chars) o front
  pub holds : RefHolds r chars

pub record InEndName (n : ℕ) (o : Outer) (front : List ℕ) : Type 0 where
  pub done : List ℕ
  pub todo : List ℕ
  pub here : At o front (60 ∷ 47 ∷ done)
  pub inside : is_inside here.context ≡ true
  pub name : innermost here.context ≡ done ++ todo
  pub size : length done ≡ n

pub record InEndGap (o : Outer) (front : List ℕ) : Type 0 where
  pub gap : List ℕ
  pub name : List ℕ
  pub here : At o front (60 ∷ 47 ∷ (name ++ gap))
  pub inside : is_inside here.context ≡ true
  pub is : innermost here.context ≡ name
  pub white : list_all is_white gap ≡ true

-- a byte order mark or none
abbrev pub mark_text : Bool → List ℕ
mark_text mark = if mark then 0xFEFF ∷ [] else []

pub record IsOutside (o : Outer) : Type 0 where
  pub opens : o.opens ≡ []
  pub behind : o.behind ≡ false

pub record InStart (marked : Bool) (o : Outer) (front : List ℕ) : Type 0 where
  pub outside : IsOutside o
  pub is : front ≡ mark_text (not marked)

pub record InHeadOpened (o : Outer) (front : List ℕ) : Type 0 where
  pub outside : IsOutside o
  pub mark : Bool
  pub is : front ≡ mark_text mark ++ 60 ∷ []

-- the parts of a declaration that were read
pub data Declared : Type 0 where
  None_read : Declared
  Version_read : Pseudo → Declared
  Encoding_read : Pseudo → Pseudo → Declared
  All_read : Pseudo → Option Pseudo → Pseudo → Declared

abbrev pub is_version : Pseudo → Bool
is_version x = is_pseudo (λ v. bytes_eq v (codes "1.0")) x

abbrev pub is_encoding : Pseudo → Bool
is_encoding x = is_pseudo (λ v. bytes_eq (str_to_ascii_lowercase v) (codes "utf-8")) x

abbrev pub is_standalone : Pseudo → Bool
is_standalone x = is_pseudo (λ v. bytes_eq v (codes "yes") || bytes_eq v (codes "no")) x

abbrev pub LawfulDeclared : Declared → Type 0
LawfulDeclared None_read = Unit {0}
LawfulDeclared (Version_read v) = is_version v ≡ true
LawfulDeclared (Encoding_read v e) = (is_version v ≡ true) × (is_encoding e ≡ true)
LawfulDeclared (All_read v e s) = (is_version v ≡ true) × (is_optional (λ w. bytes_eq (str_to_ascii_lowercase w) (codes "utf-8")) e ≡ true) × (is_standalone s ≡ true)

abbrev pub write_declared : Declared → List ℕ
write_declared None_read = codes "<?xml"
write_declared (Version_read v) = codes "<?xml" ++ write_pseudo (codes "version") v
write_declared (Encoding_read v e) = codes "<?xml" ++ (write_pseudo (codes "version") v ++ write_pseudo (codes "encoding") e)
write_declared (All_read v e s) = codes "<?xml" ++ (write_pseudo (codes "version") v ++ (write_optional (codes "encoding") e ++ write_pseudo (codes "standalone") s))

-- which part may come behind
abbrev pub part_of : Declared → Part
part_of None_read = part.Version
part_of (Version_read v) = part.Encoding
part_of (Encoding_read v e) = part.Standalone
part_of (All_read v e s) = part.End

-- this part may come behind these
abbrev pub may_come : Declared → Part → Bool
may_come None_read part.Version = true
may_come (Version_read v) part.Encoding = true
may_come (Version_read v) part.Standalone = true
may_come (Encoding_read v e) part.Standalone = true
may_come _ _ = false

-- what was read of a declaration
pub record Declares (more : List ℕ) (o : Outer) (front : List ℕ) : Type 0 where
  pub outside : IsOutside o
  pub mark : Bool
  pub read : Declared
  pub lawful : LawfulDeclared read
  pub is : front ≡ mark_text mark ++ (write_declared read ++ more)

pub record InWord (n : ℕ) (o : Outer) (front : List ℕ) : Type 0 where
  pub outside : IsOutside o
  pub mark : Bool
  pub few : n < 4
  pub is : front ≡ mark_text mark ++ 60 ∷ 63 ∷ take n (codes "xml")

pub record InGap (p : Part) (spaced : Bool) (o : Outer) (front : List ℕ) : Type 0 where
  pub gap : List ℕ
  pub declares : Declares gap o front
  pub comes : part_of declares.read ≡ p
  pub white : list_all is_white gap ≡ true
  pub some : spaced ≡ true → is_gap gap ≡ true
  pub first : p ≡ part.Version → spaced ≡ true

pub record InPart (p : Part) (more : List ℕ) (o : Outer) (front : List ℕ) : Type 0 where
  pub gap : List ℕ
  pub declares : Declares (gap ++ more) o front
  pub may : may_come declares.read p ≡ true
  pub white : is_gap gap ≡ true

pub record InPartName (p : Part) (n : ℕ) (o : Outer) (front : List ℕ) : Type 0 where
  pub at : InPart p (take n (part_word p)) o front
  pub few : n ≤ length (part_word p)

pub record InPartBefore (p : Part) (o : Outer) (front : List ℕ) : Type 0 where
  pub before : List ℕ
  pub at : InPart p (part_word p ++ before) o front
  pub white : list_all is_white before ≡ true

pub record InPartAfter (p : Part) (more : List ℕ) (o : Outer) (front : List ℕ) : Type 0 where
  pub before : List ℕ
  pub after : List ℕ
  pub at : InPart p (part_word p ++ (before ++ 61 ∷ (after ++ more))) o front
  pub before_white : list_all is_white before ≡ true
  pub after_white : list_all is_white after ≡ true

abbrev pub part_with : Literal → Part
part_with literal.One = part.Version
part_with literal.Utf8 = part.Encoding
part_with literal.Yes = part.Standalone
part_with literal.No = part.Standalone

pub record InLiteral (l : Literal) (q n : ℕ) (o : Outer) (front : List ℕ) : Type 0 where
  pub chars : List ℕ
  pub todo : List ℕ
  pub at : InPartAfter (part_with l) (q ∷ chars) o front
  pub quote : is_quote q ≡ true
  pub word : literal_word l ≡ map (as_compared l) chars ++ todo
  pub size : length chars ≡ n

pub record InChoice (q : ℕ) (o : Outer) (front : List ℕ) : Type 0 where
  pub at : InPartAfter part.Standalone (q ∷ []) o front
  pub quote : is_quote q ≡ true

pub record InDeclarationEnd (o : Outer) (front : List ℕ) : Type 0 where
  pub gap : List ℕ
  pub declares : Declares (gap ++ 63 ∷ []) o front
  pub some : part_of declares.read ≡ part.Version → ⊥
  pub white : list_all is_white gap ≡ true

abbrev pub InDeclaring : Declaring → Outer → List ℕ → Type 0
InDeclaring (declaring.Word n) o front = InWord n o front
InDeclaring (declaring.Gap p spaced) o front = InGap p spaced o front
InDeclaring (declaring.Name p n) o front = InPartName p n o front
InDeclaring (declaring.BeforeEquals p) o front = InPartBefore p o front
InDeclaring (declaring.AfterEquals p) o front = InPartAfter p [] o front
InDeclaring (declaring.Choice quote) o front = InChoice quote o front
InDeclaring (declaring.Value l quote n) o front = InLiteral l quote n o front
InDeclaring declaring.End o front = InDeclarationEnd o front

-- what was read where the reader is in this mode
abbrev pub StandsIn : Mode → Outer → List ℕ → Type 0
StandsIn (mode.Start marked) o front = InStart marked o front
StandsIn (mode.HeadOpened at) o front = InHeadOpened o front
StandsIn (mode.Declaring d) o front = InDeclaring d o front
StandsIn (mode.Content n ret) o front = InContent n o front
StandsIn (mode.TextReference at r) o front = InTextReference r o front
StandsIn (mode.Opened at) o front = At o front (60 ∷ [])
StandsIn mode.Bang o front = At o front (60 ∷ 33 ∷ [])
StandsIn mode.Dash o front = At o front (60 ∷ 33 ∷ 45 ∷ [])
StandsIn (mode.Comment n) o front = InComment n o front
StandsIn (mode.SectionWord n) o front = InSectionWord n o front
StandsIn (mode.Section n ret) o front = InSection n o front
StandsIn (mode.TagName tag starts) o front = InTagName tag starts o front
StandsIn (mode.InTag tag spaced) o front = InTag tag spaced o front
StandsIn (mode.Slash tag) o front = InSlash tag o front
StandsIn (mode.AttributeName tag name starts) o front = InAttributeName tag name starts o front
StandsIn (mode.BeforeEquals tag name) o front = InBeforeEquals tag name o front
StandsIn (mode.AfterEquals tag name) o front = InAfterEquals tag name o front
StandsIn (mode.Value tag name v) o front = InValue tag name v [] o front
StandsIn (mode.ValueReference tag name v at r) o front = InValueReference tag name v r o front
StandsIn (mode.EndName n) o front = InEndName n o front
StandsIn mode.EndGap o front = InEndGap o front

abbrev pub Stands : Mode × Outer → List ℕ → Type 0
Stands z front = StandsIn z.0 z.1 front

-- one character more
abbrev pub at_more : (o : Outer) (front part more : List ℕ) (c : ℕ) → part ++ c ∷ [] ≡ more → At o front part → At o (front ++ c ∷ []) more
at_more o front part more c e h = record {
  context = h.context;
  lawful = h.lawful;
  agrees = h.agrees;
  front_is = ap (λ z. z ++ c ∷ []) h.front_is ∙ (append_assoc (written h.context) part (c ∷ []) ∙ ap (λ z. written h.context ++ z) e);
}

-- a token is whole
abbrev pub at_turned : (o p : Outer) (front part : List ℕ) (c : ℕ) (h : At o front part) (x : Context) → LawfulContext x → Agrees x p → written x ≡ written h.context ++ (part ++ c ∷ []) → At p (front ++ c ∷ []) []
at_turned o p front part c h x lawful agrees is = record {
  context = x;
  lawful = lawful;
  agrees = agrees;
  front_is = ap (λ z. z ++ c ∷ []) h.front_is ∙ (append_assoc (written h.context) part (c ∷ []) ∙ (sym is ∙ sym (append-nil (written x))));
}

abbrev pub region_of : Context → Region
region_of (Before h) = region_is.Before
region_of (Inside h f fs) = region_is.Inside
region_of (Behind h root after) = region_is.Behind

pub region_agrees : (x : Context) (o : Outer) → Agrees x o → region o ≡ region_of x
region_agrees (Before h) o agrees = ap (λ os. region_in os o.behind) agrees.0 ∙ ap (λ b. region_in [] b) agrees.1
region_agrees (Inside h f fs) o agrees = some o.opens agrees
  where
    some : (os : List Open) → names_of os ≡ frame_names (f ∷ fs) → region_in os o.behind ≡ region_is.Inside
    some [] e = absurd cc
    some (y ∷ ys) e = refl
region_agrees (Behind h root after) o agrees = ap (λ os. region_in os o.behind) agrees.0 ∙ ap (λ b. region_in [] b) agrees.1

-- The grammar as a reader that takes one character after another, and how far it comes. It is here for the proofs: of
-- other crates' contracts it stands behind `tree_of` alone (`TreeOf`), where a law says what that means without it.
use Rattle.std.specs.Prelude.{ℕ, ◌+◌, ◌-◌, ◌*◌, Bool, true, false, not, ◌&&◌, ◌||◌, ◌==◌, nat_le, if◌then◌else◌, List, [], ◌∷◌, ◌++◌, length, slice_get, option_map, Option, Some, None, unwrap_or, codes, encode_utf8}
use Rattle.std.specs.Char.{to_ascii_lowercase}
use Rattle.pws_tree.specs.Characters.{is_xml_char, is_name_start, is_name_char}
use Rattle.pws_mark.specs.Bindings.{char_at, entity_char}
use Rattle.pws_mark.specs.Digits.{is_digit, is_hexadecimal, digit_number}
use Rattle.pws_mark.specs.Meaning.{char_text}
use Rattle.pws_mark.specs.States.{Open, Outer, State, started, hollowed, ended, is_empty, taken}
use Rattle.pws_mark.specs.Tokens.{is_white, is_quote, is_text_char, is_value_char}
use Rattle.pws_mark.specs.declared.modes.Reference.{Reference}
use Rattle.pws_mark.specs.declared.modes.Reference.TheVariants as reference
use Rattle.pws_mark.specs.declared.modes.ReferenceStep.{ReferenceStep}
use Rattle.pws_mark.specs.declared.modes.ReferenceStep.TheVariants as stepped
use Rattle.pws_mark.specs.declared.modes.Region.{Region}
use Rattle.pws_mark.specs.declared.modes.Region.TheVariants as region_is
use Rattle.pws_mark.specs.declared.modes.Part.{Part}
use Rattle.pws_mark.specs.declared.modes.Part.TheVariants as part
use Rattle.pws_mark.specs.declared.modes.Literal.{Literal}
use Rattle.pws_mark.specs.declared.modes.Literal.TheVariants as literal
use Rattle.pws_mark.specs.declared.modes.Declaring.{Declaring}
use Rattle.pws_mark.specs.declared.modes.Declaring.TheVariants as declaring
use Rattle.pws_mark.specs.declared.modes.ReadTag.{ReadTag}
use Rattle.pws_mark.specs.declared.modes.ReadName.{ReadName}
use Rattle.pws_mark.specs.declared.modes.ReadValue.{ReadValue}
use Rattle.pws_mark.specs.declared.modes.Mode.{Mode}
use Rattle.pws_mark.specs.declared.modes.Mode.TheVariants as mode

-- no XML character has this number or one above it
abbrev pub capped : ℕ → ℕ
capped n = if nat_le 0x110000 n then 0x110000 else n

abbrev pub number_step : ℕ → ℕ → ℕ → ℕ
number_step base n c = capped (n * base + digit_number c)

unfoldable pub reference_step : Reference → ℕ → Option ReferenceStep
reference_step reference.Begun c =
    if is_name_start c then Some (stepped.More (reference.Entity (c ∷ []) false))
    else if c == 35 then Some (stepped.More reference.Number)
    else None
reference_step (reference.Entity name true) c = if is_name_start c then Some (stepped.More (reference.Entity (name ++ c ∷ []) false)) else None
reference_step (reference.Entity name false) c =
    if is_name_char c then Some (stepped.More (reference.Entity (name ++ c ∷ []) false))
    else if c == 58 then Some (stepped.More (reference.Entity (name ++ c ∷ []) true))
    else if c == 59 then Some (stepped.Done (entity_char name))
    else None
reference_step reference.Number c =
    if is_digit c then Some (stepped.More (reference.Decimal (number_step 10 0 c)))
    else if c == 120 then Some (stepped.More reference.HexadecimalBegun)
    else None
reference_step reference.HexadecimalBegun c = if is_hexadecimal c then Some (stepped.More (reference.Hexadecimal (number_step 16 0 c))) else None
reference_step (reference.Decimal n) c =
    if is_digit c then Some (stepped.More (reference.Decimal (number_step 10 n c)))
    else if c == 59 then Some (stepped.Done (char_at n))
    else None
reference_step (reference.Hexadecimal n) c =
    if is_hexadecimal c then Some (stepped.More (reference.Hexadecimal (number_step 16 n c)))
    else if c == 59 then Some (stepped.Done (char_at n))
    else None

-- the words of a declaration
unfoldable pub part_word : Part → List ℕ
part_word part.Version = codes "version"
part_word part.Encoding = codes "encoding"
part_word part.Standalone = codes "standalone"
part_word part.End = []

unfoldable pub literal_word : Literal → List ℕ
literal_word literal.One = codes "1.0"
literal_word literal.Utf8 = codes "utf-8"
literal_word literal.Yes = codes "yes"
literal_word literal.No = codes "no"

abbrev pub as_compared : Literal → ℕ → ℕ
as_compared literal.Utf8 c = to_ascii_lowercase c
as_compared _ c = c

-- what may come behind a value
abbrev pub part_behind : Literal → Part
part_behind literal.One = part.Encoding
part_behind literal.Utf8 = part.Standalone
part_behind literal.Yes = part.End
part_behind literal.No = part.End

-- whether the character at this place of a word is this one, and whether the word ends there
abbrev pub has_at : List ℕ → ℕ → ℕ → Bool
has_at word n c = unwrap_or (option_map (λ d. d == c) (slice_get word n)) false

abbrev pub value_begins : Part → ℕ → Option Declaring
value_begins part.Version c = Some (declaring.Value literal.One c 0)
value_begins part.Encoding c = Some (declaring.Value literal.Utf8 c 0)
value_begins part.Standalone c = Some (declaring.Choice c)
value_begins part.End c = None

-- behind white space or none, before these parts
abbrev pub gap_step : Part → Bool → ℕ → Option Declaring
gap_step part.Version spaced c = if c == 118 && spaced then Some (declaring.Name part.Version 1) else None
gap_step part.Encoding spaced c =
    if c == 101 && spaced then Some (declaring.Name part.Encoding 1)
    else if c == 115 && spaced then Some (declaring.Name part.Standalone 1)
    else if c == 63 then Some declaring.End
    else None
gap_step part.Standalone spaced c =
    if c == 115 && spaced then Some (declaring.Name part.Standalone 1)
    else if c == 63 then Some declaring.End
    else None
gap_step part.End spaced c = if c == 63 then Some declaring.End else None

-- in a declaration; nothing where the character doesn't fit, and no place in it where it ends
unfoldable pub declaring_step : Declaring → ℕ → Option (Option Declaring)
declaring_step (declaring.Word n) c =
    if has_at (codes "xml") n c then Some (Some (declaring.Word (n + 1)))
    else if n == 3 && is_white c then Some (Some (declaring.Gap part.Version true))
    else None
declaring_step (declaring.Gap p spaced) c =
    if is_white c then Some (Some (declaring.Gap p true))
    else option_map (λ d. Some d) (gap_step p spaced c)
declaring_step (declaring.Name p n) c =
    if has_at (part_word p) n c then Some (Some (declaring.Name p (n + 1)))
    else if n == length (part_word p) && is_white c then Some (Some (declaring.BeforeEquals p))
    else if n == length (part_word p) && c == 61 then Some (Some (declaring.AfterEquals p))
    else None
declaring_step (declaring.BeforeEquals p) c =
    if is_white c then Some (Some (declaring.BeforeEquals p))
    else if c == 61 then Some (Some (declaring.AfterEquals p))
    else None
declaring_step (declaring.AfterEquals p) c =
    if is_white c then Some (Some (declaring.AfterEquals p))
    else if is_quote c then option_map (λ d. Some d) (value_begins p c)
    else None
declaring_step (declaring.Choice q) c =
    if c == 121 then Some (Some (declaring.Value literal.Yes q 1))
    else if c == 110 then Some (Some (declaring.Value literal.No q 1))
    else None
declaring_step (declaring.Value l q n) c =
    if has_at (literal_word l) n (as_compared l c) then Some (Some (declaring.Value l q (n + 1)))
    else if n == length (literal_word l) && c == q then Some (Some (declaring.Gap (part_behind l) false))
    else None
declaring_step declaring.End c = if c == 62 then Some None else None

-- where the reader is next, and what is around it
abbrev pub Next : Type 0
Next = Option (Mode × Outer)

abbrev pub to : Outer → Mode → Option (Mode × Outer)
to o m = Some (m, o)

-- what is around stays
abbrev pub stays : Outer → Option Mode → Option (Mode × Outer)
stays o m = option_map (λ x. (x, o)) m

-- how many of two marks side by side stand there, behind this character
abbrev pub marks_after : ℕ → ℕ → ℕ → ℕ
marks_after mark n c = if c == mark then (if n == 2 then 2 else n + 1) else 0

-- a tag begins at this place
abbrev pub tag_begins : ℕ → ℕ → Mode
tag_begins at c = mode.TagName (record { at = at; name = c ∷ []; attributes = [] }) false

-- before the element, or inside it, or behind it
abbrev pub region_in : List Open → Bool → Region
region_in [] false = region_is.Before
region_in [] true = region_is.Behind
region_in (x ∷ xs) behind = region_is.Inside

abbrev pub region : Outer → Region
region o = region_in o.opens o.behind

-- how a character of text is kept (XML 1.0 fifth edition, section 2.11)
abbrev pub text_bytes : Bool → ℕ → List ℕ
text_bytes after_return c = if c == 13 then 10 ∷ [] else if after_return && c == 10 then [] else encode_utf8 c

abbrev pub content_step : Region → Outer → ℕ → ℕ → Bool → ℕ → Next
content_step region_is.Inside o at n after_return c =
    if is_text_char c && not (n == 2 && c == 62) then to (taken o at (Some c) (text_bytes after_return c)) (mode.Content (marks_after 93 n c) (c == 13))
    else if c == 60 then to o (mode.Opened at)
    else if c == 38 then to o (mode.TextReference at reference.Begun)
    else None
content_step _ o at n after_return c =
    if is_white c then to o (mode.Content 0 false)
    else if c == 60 then to o (mode.Opened at)
    else None

-- behind a < that stands at this place
abbrev pub opened_step : Region → ℕ → ℕ → Option Mode
opened_step region_is.Before at c =
    if is_name_start c then Some (tag_begins at c)
    else if c == 33 then Some mode.Bang
    else None
opened_step region_is.Inside at c =
    if is_name_start c then Some (tag_begins at c)
    else if c == 33 then Some mode.Bang
    else if c == 47 then Some (mode.EndName 0)
    else None
opened_step region_is.Behind at c = if c == 33 then Some mode.Bang else None

abbrev pub bang_step : Region → ℕ → Option Mode
bang_step region_is.Inside c =
    if c == 45 then Some mode.Dash
    else if c == 91 then Some (mode.SectionWord 0)
    else None
bang_step _ c = if c == 45 then Some mode.Dash else None

abbrev pub comment_step : ℕ → ℕ → Option Mode
comment_step n c =
    if n == 2 then (if c == 62 then Some (mode.Content 0 false) else None)
    else if is_xml_char c then Some (mode.Comment (marks_after 45 n c))
    else None

unfoldable pub section_word : List ℕ
section_word = codes "CDATA["

abbrev pub section_word_step : ℕ → ℕ → Option Mode
section_word_step n c =
    if has_at section_word n c then Some (if n == 5 then mode.Section 0 false else mode.SectionWord (n + 1))
    else None

-- brackets that stand before this place are text, as the section goes on
abbrev pub brackets_taken : Outer → ℕ → ℕ → Outer
brackets_taken o at n =
    if n == 0 then o
    else if n == 1 then taken o (at - 1) (Some 93) (93 ∷ [])
    else taken (taken o (at - 2) (Some 93) (93 ∷ [])) (at - 1) (Some 93) (93 ∷ [])

-- whether a CR stands right before, where so many brackets do
abbrev pub section_step : Outer → ℕ → ℕ → Bool → ℕ → Next
section_step o at n after_return c =
    if c == 93 then
    (if n == 2 then to (taken o (at - 2) (Some 93) (93 ∷ [])) (mode.Section 2 false)
    else to o (mode.Section (n + 1) after_return))
    else if n == 2 && c == 62 then to o (mode.Content 0 false)
    else if is_xml_char c then
    to (taken (brackets_taken o at n) at (Some c) (text_bytes (n == 0 && after_return) c)) (mode.Section 0 (c == 13))
    else None

-- behind the name of a tag, or an attribute; whether white space stands before
abbrev pub tag_step : Outer → ReadTag → ℕ → Next
tag_step o tag c =
    if is_white c then to o (mode.InTag tag true)
    else if c == 47 then to o (mode.Slash tag)
    else if c == 62 then to (started o tag) (mode.Content 0 false)
    else None

abbrev pub tag_name_step : Outer → ReadTag → Bool → ℕ → Next
tag_name_step o tag true c =
    if is_name_start c then to o (mode.TagName (record { at = tag.at; name = tag.name ++ c ∷ []; attributes = tag.attributes }) false)
    else None
tag_name_step o tag false c =
    if is_name_char c then to o (mode.TagName (record { at = tag.at; name = tag.name ++ c ∷ []; attributes = tag.attributes }) false)
    else if c == 58 then to o (mode.TagName (record { at = tag.at; name = tag.name ++ c ∷ []; attributes = tag.attributes }) true)
    else tag_step o tag c

abbrev pub in_tag_step : Outer → ℕ → ReadTag → Bool → ℕ → Next
in_tag_step o at tag spaced c =
    if spaced && is_name_start c then to o (mode.AttributeName tag (record { at = at; name = c ∷ [] }) false)
    else tag_step o tag c

abbrev pub attribute_name_step : ReadTag → ReadName → Bool → ℕ → Option Mode
attribute_name_step tag name true c =
    if is_name_start c then Some (mode.AttributeName tag (record { at = name.at; name = name.name ++ c ∷ [] }) false)
    else None
attribute_name_step tag name false c =
    if is_name_char c then Some (mode.AttributeName tag (record { at = name.at; name = name.name ++ c ∷ [] }) false)
    else if c == 58 then Some (mode.AttributeName tag (record { at = name.at; name = name.name ++ c ∷ [] }) true)
    else if is_white c then Some (mode.BeforeEquals tag name)
    else if c == 61 then Some (mode.AfterEquals tag name)
    else None

abbrev pub before_equals_step : ReadTag → ReadName → ℕ → Option Mode
before_equals_step tag name c =
    if is_white c then Some (mode.BeforeEquals tag name)
    else if c == 61 then Some (mode.AfterEquals tag name)
    else None

abbrev pub after_equals_step : ReadTag → ReadName → ℕ → Option Mode
after_equals_step tag name c =
    if is_white c then Some (mode.AfterEquals tag name)
    else if is_quote c then Some (mode.Value tag name (record { quote = c; text = Some []; after_return = false }))
    else None

-- how a character of a value is kept (XML 1.0 fifth edition, sections 2.11 and 3.3.3)
abbrev pub value_bytes : Bool → ℕ → List ℕ
value_bytes after_return c =
    if after_return && c == 10 then []
    else if c == 9 || (c == 10 || c == 13) then 32 ∷ []
    else encode_utf8 c

abbrev pub value_with : ReadValue → ℕ → ReadValue
value_with v c = record { quote = v.quote; text = option_map (λ t. t ++ value_bytes v.after_return c) v.text; after_return = c == 13 }

-- a reference in a value is complete
abbrev pub value_with_reference : ReadValue → Option ℕ → ReadValue
value_with_reference v None = record { quote = v.quote; text = None; after_return = false }
value_with_reference v (Some c) = record { quote = v.quote; text = option_map (λ t. t ++ encode_utf8 c) v.text; after_return = false }

abbrev pub with_attribute : ReadTag → ReadName → ReadValue → ReadTag
with_attribute tag name v = record {
  at = tag.at;
  name = tag.name;
  attributes = tag.attributes ++ record { name = name.name; at = name.at; value = v.text } ∷ [];
}

abbrev pub value_step : ℕ → ReadTag → ReadName → ReadValue → ℕ → Option Mode
value_step at tag name v c =
    if is_value_char v.quote c then Some (mode.Value tag name (value_with v c))
    else if c == 38 then Some (mode.ValueReference tag name v at reference.Begun)
    else if c == v.quote then Some (mode.InTag (with_attribute tag name v) false)
    else None

abbrev pub in_value : ReadTag → ReadName → ReadValue → ℕ → ReferenceStep → Mode
in_value tag name v at (stepped.More r) = mode.ValueReference tag name v at r
in_value tag name v at (stepped.Done c) = mode.Value tag name (value_with_reference v c)

abbrev pub in_text : Outer → ℕ → ReferenceStep → Next
in_text o at (stepped.More r) = to o (mode.TextReference at r)
in_text o at (stepped.Done c) = to (taken o at c (char_text c)) (mode.Content 0 false)

abbrev pub either : {A : Type 0} → Option A → (A → Next) → Next
either None more = None
either (Some x) more = more x

-- the character at a place of the innermost element's name, and the name's end
abbrev pub name_has : List Open → ℕ → ℕ → Bool
name_has [] n c = false
name_has (x ∷ xs) n c = has_at x.name n c

abbrev pub name_ends : List Open → ℕ → Bool
name_ends [] n = false
name_ends (x ∷ xs) n = n == length x.name

-- in an end tag, of which so many characters of the name were read
abbrev pub end_name_step : Outer → List Open → ℕ → ℕ → Next
end_name_step o [] n c = None
end_name_step o (x ∷ xs) n c =
    if has_at x.name n c then to o (mode.EndName (n + 1))
    else if n == length x.name && is_white c then to o mode.EndGap
    else if n == length x.name && c == 62 then to (ended x xs o.events o.text) (mode.Content 0 false)
    else None

abbrev pub end_gap_step : Outer → List Open → ℕ → Next
end_gap_step o [] c = None
end_gap_step o (x ∷ xs) c =
    if is_white c then to o mode.EndGap
    else if c == 62 then to (ended x xs o.events o.text) (mode.Content 0 false)
    else None

abbrev pub start_step : ℕ → Bool → ℕ → Option Mode
start_step at marked c =
    if is_white c then Some (mode.Content 0 false)
    else if c == 60 then Some (mode.HeadOpened at)
    else if marked && c == 0xFEFF then Some (mode.Start false)
    else None

abbrev pub head_opened_step : ℕ → ℕ → Option Mode
head_opened_step at c =
    if c == 63 then Some (mode.Declaring (declaring.Word 0))
    else opened_step region_is.Before at c

abbrev pub in_declaration : Option Declaring → Mode
in_declaration None = mode.Content 0 false
in_declaration (Some d) = mode.Declaring d

unfoldable pub next : Mode → Outer → ℕ → ℕ → Next
next (mode.Start marked) o at c = stays o (start_step at marked c)
next (mode.HeadOpened place) o at c = stays o (head_opened_step place c)
next (mode.Declaring d) o at c = stays o (option_map in_declaration (declaring_step d c))
next (mode.Content n after_return) o at c = content_step (region o) o at n after_return c
next (mode.TextReference place r) o at c = either (reference_step r c) (in_text o place)
next (mode.Opened place) o at c = stays o (opened_step (region o) place c)
next mode.Bang o at c = stays o (bang_step (region o) c)
next mode.Dash o at c = stays o (if c == 45 then Some (mode.Comment 0) else None)
next (mode.Comment n) o at c = stays o (comment_step n c)
next (mode.SectionWord n) o at c = stays o (section_word_step n c)
next (mode.Section n after_return) o at c = section_step o at n after_return c
next (mode.TagName tag starts) o at c = tag_name_step o tag starts c
next (mode.InTag tag spaced) o at c = in_tag_step o at tag spaced c
next (mode.Slash tag) o at c = if c == 62 then to (hollowed o tag) (mode.Content 0 false) else None
next (mode.AttributeName tag name starts) o at c = stays o (attribute_name_step tag name starts c)
next (mode.BeforeEquals tag name) o at c = stays o (before_equals_step tag name c)
next (mode.AfterEquals tag name) o at c = stays o (after_equals_step tag name c)
next (mode.Value tag name v) o at c = stays o (value_step at tag name v c)
next (mode.ValueReference tag name v place r) o at c = stays o (option_map (in_value tag name v place) (reference_step r c))
next (mode.EndName n) o at c = end_name_step o o.opens n c
next mode.EndGap o at c = end_gap_step o o.opens c

-- a character is taken, or it doesn't fit
abbrev pub step : State → ℕ → Option State
step s c = option_map (λ n. record { at = s.at + length (encode_utf8 c); mode = n.0; outer = n.1 }) (next s.mode s.outer s.at c)

abbrev pub then_run : Option State → (State → Option State) → Option State
then_run None more = None
then_run (Some s) more = more s

unfoldable pub run : State → List ℕ → Option State
run s [] = Some s
run s (c ∷ cs) = then_run (step s c) (λ t. run t cs)

abbrev pub outside : Outer
outside = record { opens = []; behind = false; events = []; text = [] }

abbrev pub start : State
start = record { at = 0; mode = mode.Start true; outer = outside }

-- whether a text may end here
abbrev pub is_whole_in : Mode → Outer → Bool
is_whole_in (mode.Content n after_return) o = is_empty o.opens && o.behind
is_whole_in _ o = false

abbrev pub is_whole : State → Bool
is_whole s = is_whole_in s.mode s.outer

-- whether a place is inside of a comment or a CDATA section
abbrev pub is_within : Mode → Bool
is_within (mode.Comment n) = true
is_within (mode.Section n after_return) = true
is_within _ = false

-- The parts of the documents that are in the grammar: white space, names, references, attributes, CDATA sections and
-- comments. The numbers of productions are those of XML 1.0 fifth edition; production 5, Name, is taken as names without
-- colons that are joined by colons.
use Rattle.std.specs.Prelude.{ℕ, Bool, true, false, not, ◌&&◌, ◌||◌, ◌==◌, if◌then◌else◌, List, [], ◌∷◌, ◌++◌, nat_eq}
use Rattle.std.specs.List.{list_all, starts_with}
use Rattle.std.specs.Str.{bytes_eq}
use Rattle.pws_tree.specs.Characters.{is_xml_char, is_name_start, is_name_char}
use Rattle.pws_mark.specs.Documents.{Piece, Char, Entity, Decimal, Hexadecimal, Attribute, section_end}
use Rattle.pws_mark.specs.Digits.{is_digit, is_hexadecimal}

-- production 3, S
abbrev pub is_white : ℕ → Bool
is_white c = c == 32 || (c == 9 || (c == 10 || c == 13))

abbrev pub is_gap : List ℕ → Bool
is_gap chars = not (bytes_eq chars []) && list_all is_white chars

-- a name goes on, where its next character has to start a part or not
abbrev pub goes_on : Bool → List ℕ → Bool
goes_on starts [] = not starts
goes_on true (c ∷ cs) = is_name_start c && goes_on false cs
goes_on false (c ∷ cs) = if c == 58 then goes_on true cs else is_name_char c && goes_on false cs

unfoldable pub is_name : List ℕ → Bool
is_name chars = goes_on true chars

-- a character of this set, or a reference
abbrev pub is_piece : (ℕ → Bool) → Piece → Bool
is_piece allowed (Char c) = allowed c
is_piece allowed (Entity name) = is_name name
is_piece allowed (Decimal digits) = not (bytes_eq digits []) && list_all is_digit digits
is_piece allowed (Hexadecimal digits) = not (bytes_eq digits []) && list_all is_hexadecimal digits

-- production 14, CharData, character by character
abbrev pub is_text_char : ℕ → Bool
is_text_char c = is_xml_char c && (not (c == 60) && not (c == 38))

-- production 10, AttValue, between these quotes
abbrev pub is_value_char : ℕ → ℕ → Bool
is_value_char quote c = is_text_char c && not (c == quote)

abbrev pub is_quote : ℕ → Bool
is_quote c = c == 34 || c == 39

abbrev pub is_attribute : Attribute → Bool
is_attribute a =
    is_gap a.gap && (is_name a.name && (list_all is_white a.before && (list_all is_white a.after && (is_quote a.quote && list_all (is_piece (is_value_char a.quote)) a.value))))

-- whether a list of characters has these side by side
abbrev pub has_within : List ℕ → List ℕ → Bool
has_within chars [] = false
has_within chars (c ∷ cs) = starts_with nat_eq (c ∷ cs) chars || has_within chars cs

-- production 20, CData
abbrev pub is_section : List ℕ → Bool
is_section chars = list_all is_xml_char chars && not (has_within section_end chars)

-- production 15: no two hyphens stand side by side, the first of the end's among them
abbrev pub is_comment : List ℕ → Bool
is_comment chars = list_all is_xml_char chars && not (has_within (45 ∷ 45 ∷ []) (chars ++ 45 ∷ []))

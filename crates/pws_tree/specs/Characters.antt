-- Sets of characters, as ranges of code points (XML 1.0 fifth edition, sections 2.2 and 2.3).
use Rattle.std.specs.Prelude.{ℕ, Bool, false, ◌&&◌, ◌||◌, nat_le, List, [], ◌∷◌, chars}
use Rattle.std.specs.List.{list_any, list_all}
use Rattle.std.specs.Str.{is_utf8}

-- whether a character is in one of the ranges, each given by its first and its last character
abbrev pub is_in : List (ℕ × ℕ) → ℕ → Bool
is_in ranges c = list_any (λ r. nat_le r.0 c && nat_le c r.1) ranges

-- whether one of the ranges has a character from the first to the last, which isn't below it
abbrev pub meets : List (ℕ × ℕ) → ℕ → ℕ → Bool
meets ranges first last = list_any (λ r. nat_le r.0 last && nat_le first r.1) ranges

-- production 2, Char
unfoldable pub xml_ranges : List (ℕ × ℕ)
xml_ranges = (0x9, 0xA) ∷ (0xD, 0xD) ∷ (0x20, 0xD7FF) ∷ (0xE000, 0xFFFD) ∷ (0x10000, 0x10FFFF) ∷ []

-- production 4, NameStartChar, without the colon, which parts a prefix from a local part (Namespaces in XML 1.0, section 4)
unfoldable pub name_start_ranges : List (ℕ × ℕ)
name_start_ranges =
    (0x41, 0x5A) ∷ (0x5F, 0x5F) ∷ (0x61, 0x7A) ∷ (0xC0, 0xD6) ∷ (0xD8, 0xF6) ∷ (0xF8, 0x2FF) ∷ (0x370, 0x37D)
    ∷ (0x37F, 0x1FFF) ∷ (0x200C, 0x200D) ∷ (0x2070, 0x218F) ∷ (0x2C00, 0x2FEF) ∷ (0x3001, 0xD7FF)
    ∷ (0xF900, 0xFDCF) ∷ (0xFDF0, 0xFFFD) ∷ (0x10000, 0xEFFFF) ∷ []

-- production 4a, NameChar, what it has besides
unfoldable pub name_more_ranges : List (ℕ × ℕ)
name_more_ranges = (0x2D, 0x2E) ∷ (0x30, 0x39) ∷ (0xB7, 0xB7) ∷ (0x300, 0x36F) ∷ (0x203F, 0x2040) ∷ []

abbrev pub is_xml_char : ℕ → Bool
is_xml_char c = is_in xml_ranges c

abbrev pub is_name_start : ℕ → Bool
is_name_start c = is_in name_start_ranges c

abbrev pub is_name_char : ℕ → Bool
is_name_char c = is_in name_start_ranges c || is_in name_more_ranges c

-- production 4 of Namespaces in XML 1.0, NCName: a name without a colon
abbrev pub are_a_name : List ℕ → Bool
are_a_name [] = false
are_a_name (c ∷ cs) = is_name_start c && list_all is_name_char cs

-- bytes that are the UTF-8 of XML characters
unfoldable pub is_xml_text : List ℕ → Bool
is_xml_text bytes = is_utf8 bytes && list_all is_xml_char (chars bytes)

-- bytes that are the UTF-8 of a name without a colon
unfoldable pub is_local_name : List ℕ → Bool
is_local_name bytes = is_utf8 bytes && are_a_name (chars bytes)

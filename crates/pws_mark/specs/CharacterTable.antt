-- Characters at and beside the ends of the ranges, each with whether a name may begin with it, whether a name may go
-- on with it, and whether a text may have it.
use Rattle.std.specs.Prelude.{◌≡◌, ℕ, Bool, true, false, not, ◌&&◌, if◌then◌else◌, List, [], ◌∷◌}
use Rattle.std.specs.List.{list_all}
use Rattle.pws_tree.specs.Characters.{is_name_start, is_name_char}
use Rattle.pws_mark.specs.Tokens.{is_text_char}

unfoldable pub character_table : List (ℕ × Bool × Bool × Bool)
character_table =
    (0x8, false, false, false) ∷
    (0xB, false, false, false) ∷
    (0xC, false, false, false) ∷
    (0xE, false, false, false) ∷
    (0x1F, false, false, false) ∷
    (0x2C, false, false, true) ∷
    (0x2D, false, true, true) ∷
    (0x2E, false, true, true) ∷
    (0x30, false, true, true) ∷
    (0x39, false, true, true) ∷
    (0x40, false, false, true) ∷
    (0x41, true, true, true) ∷
    (0x5A, true, true, true) ∷
    (0x5B, false, false, true) ∷
    (0x5E, false, false, true) ∷
    (0x5F, true, true, true) ∷
    (0x60, false, false, true) ∷
    (0x61, true, true, true) ∷
    (0x7A, true, true, true) ∷
    (0x7B, false, false, true) ∷
    (0xB6, false, false, true) ∷
    (0xB7, false, true, true) ∷
    (0xB8, false, false, true) ∷
    (0xBF, false, false, true) ∷
    (0xC0, true, true, true) ∷
    (0xD6, true, true, true) ∷
    (0xD7, false, false, true) ∷
    (0xD8, true, true, true) ∷
    (0xF6, true, true, true) ∷
    (0xF7, false, false, true) ∷
    (0xF8, true, true, true) ∷
    (0x2FF, true, true, true) ∷
    (0x300, false, true, true) ∷
    (0x36F, false, true, true) ∷
    (0x370, true, true, true) ∷
    (0x37D, true, true, true) ∷
    (0x37E, false, false, true) ∷
    (0x37F, true, true, true) ∷
    (0x1FFF, true, true, true) ∷
    (0x2000, false, false, true) ∷
    (0x200B, false, false, true) ∷
    (0x200C, true, true, true) ∷
    (0x200D, true, true, true) ∷
    (0x200E, false, false, true) ∷
    (0x203E, false, false, true) ∷
    (0x203F, false, true, true) ∷
    (0x2040, false, true, true) ∷
    (0x2041, false, false, true) ∷
    (0x206F, false, false, true) ∷
    (0x2070, true, true, true) ∷
    (0x218F, true, true, true) ∷
    (0x2190, false, false, true) ∷
    (0x2BFF, false, false, true) ∷
    (0x2C00, true, true, true) ∷
    (0x2FEF, true, true, true) ∷
    (0x2FF0, false, false, true) ∷
    (0x3000, false, false, true) ∷
    (0x3001, true, true, true) ∷
    (0xD7FF, true, true, true) ∷
    (0xE000, false, false, true) ∷
    (0xF8FF, false, false, true) ∷
    (0xF900, true, true, true) ∷
    (0xFDCF, true, true, true) ∷
    (0xFDD0, false, false, true) ∷
    (0xFDEF, false, false, true) ∷
    (0xFDF0, true, true, true) ∷
    (0xFFFD, true, true, true) ∷
    (0xFFFE, false, false, false) ∷
    (0xFFFF, false, false, false) ∷
    (0x10000, true, true, true) ∷
    (0xEFFFF, true, true, true) ∷
    (0xF0000, false, false, true) ∷
    (0x10FFFF, false, false, true) ∷
    []

abbrev pub is_same : Bool → Bool → Bool
is_same a b = if a then b else not b

-- the sets of characters answer as each line of the table does
abbrev pub CharactersAgree : Type 0
CharactersAgree =
    list_all (λ line. is_same line.1 (is_name_start line.0) && (is_same line.2 (is_name_char line.0) && is_same line.3 (is_text_char line.0))) character_table
    ≡ true

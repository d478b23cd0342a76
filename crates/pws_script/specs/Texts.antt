-- The texts and names that a script spells.
use Rattle.std.specs.Prelude.{ℕ, ◌==◌, ◌&&◌, ◌||◌, not, Bool, nat_le, List, length}
use Rattle.std.specs.List.{list_all}
use Rattle.std.specs.Str.{chars, is_utf8}

-- XML 1.0 fifth edition, production 2, Char
abbrev pub is_character : ℕ → Bool
is_character c =
    c == 9 || c == 10 || c == 13 || (nat_le 0x20 c && nat_le c 0xD7FF) || (nat_le 0xE000 c && nat_le c 0xFFFD) || (nat_le 0x10000 c && nat_le c 0x10FFFF)

-- a text of a literal: UTF-8, of XML characters, at most 4,096 bytes; this project's own rule
unfoldable pub is_text : List ℕ → Bool
is_text bytes = is_utf8 bytes && list_all is_character (chars bytes) && nat_le (length bytes) 4096

-- a line holds no line feed
abbrev pub is_line : List ℕ → Bool
is_line bytes = list_all (λ b. not (b == 10)) bytes

-- a byte of a word: neither a space nor a line feed
abbrev pub is_word_byte : ℕ → Bool
is_word_byte b = not (b == 32) && not (b == 10)

unfoldable pub is_word : List ℕ → Bool
is_word bytes = list_all is_word_byte bytes

-- a name: a word that isn't empty, in UTF-8; this project's own rule
unfoldable pub is_name : List ℕ → Bool
is_name bytes = nat_le 1 (length bytes) && is_utf8 bytes && is_word bytes

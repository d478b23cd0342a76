-- Lower-case hexadecimal: RFC 4648 section 8 (base 16), with the digits in lower case alone.
use Rattle.std.specs.Prelude.{◌≡◌, ℕ, Bool, nat_le, ◌&&◌, ◌||◌, if◌then◌else◌, List, Option, Some, None, Result, Ok, Err}
use Rattle.std.specs.List.{list_all}
use Rattle.std.specs.Result.{result_ok}
use Rattle.hex.specs.Hex.{decode_of}
use Rattle.pws_sched.specs.declared.hexadecimal.HexError.{HexError}
use Rattle.pws_sched.specs.declared.hexadecimal.HexError.TheVariants as hex_error

-- whether c is one of `0` to `9` (48 to 57) and `a` to `f` (97 to 102)
abbrev pub is_lower_digit : ℕ → Bool
is_lower_digit c = (nat_le 48 c && nat_le c 57) || (nat_le 97 c && nat_le c 102)

-- the bytes that a text spells, where it is lower-case hexadecimal
abbrev pub lower_hex : List ℕ → Option (List ℕ)
lower_hex text = if list_all is_lower_digit text then result_ok (decode_of text) else None

-- the bytes that were read are those that the text spells, unless memory ran out
abbrev pub GivesBytes : {A : Type 0} → (A → List ℕ) → Result A HexError → Option (List ℕ) → Type 0
GivesBytes view (Ok bytes) wanted = wanted ≡ Some (view bytes)
GivesBytes view (Err hex_error.NotHexadecimal) wanted = wanted ≡ None
GivesBytes view (Err hex_error.Memory) wanted = Unit {0}

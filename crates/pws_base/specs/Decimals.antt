-- Numbers in decimal digits without leading zeros; this project's own rule.
use Rattle.std.specs.Prelude.{ℕ, ◌^◌, ◌==◌, ◌&&◌, ◌||◌, not, Bool, nat_lt, nat_le, if◌then◌else◌, List, length, slice_index, Option, Some, None}
use Rattle.std.specs.List.{list_all}
use Rattle.std.specs.Str.Parse.{digits_value}

-- the bytes of 0 to 9
abbrev pub is_digit : ℕ → Bool
is_digit b = nat_le 48 b && nat_le b 57

-- decimal digits, at least one, and no zero before another digit
abbrev pub is_decimal : List ℕ → Bool
is_decimal word = list_all is_digit word && nat_lt 0 (length word) && (length word == 1 || not (slice_index word 0 == 48))

-- the number below 2^64 of which the word is the decimal
unfoldable pub number_of : List ℕ → Option ℕ
number_of word =
    if is_decimal word && nat_lt (digits_value 10 word) (2 ^ 64) then Some (digits_value 10 word) else None

-- a number, where it is below a limit
abbrev pub below : ℕ → Option ℕ → Option ℕ
below limit (Some n) = if nat_lt n limit then Some n else None
below limit None = None

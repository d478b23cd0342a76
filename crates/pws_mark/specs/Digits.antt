-- The digits of references to characters (XML 1.0 fifth edition, production 66).
use Rattle.std.specs.Prelude.{ℕ, ◌-◌, Bool, ◌&&◌, ◌||◌, nat_le, if◌then◌else◌}

abbrev pub is_digit : ℕ → Bool
is_digit c = nat_le 48 c && nat_le c 57

abbrev pub is_hexadecimal : ℕ → Bool
is_hexadecimal c = is_digit c || ((nat_le 65 c && nat_le c 70) || (nat_le 97 c && nat_le c 102))

-- what a digit stands for, in the bases 10 and 16
abbrev pub digit_number : ℕ → ℕ
digit_number c = if nat_le c 57 then c - 48 else if nat_le c 70 then c - 55 else c - 87

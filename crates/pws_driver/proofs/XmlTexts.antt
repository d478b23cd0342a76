-- Texts of XML characters.
use Rattle.std.proofs.Common.{◌≡◌, ℕ, ◌<◌, ◌^◌, ◌&&◌, Bool, true, false, List, [], ◌∷◌, length, decimal, nat_le, refl, rules, sym, arith, subst}
use Rattle.std.specs.List.{list_all}
use Rattle.std.specs.Str.{IsUtf8, is_utf8, chars}
use Rattle.std.proofs.lemmas.Bool.Decides.{nat_tests}
use Rattle.std.proofs.lemmas.Str.{is_utf8-from_IsUtf8, IsUtf8-from_is_utf8, IsUtf8-from_ascii, chars-IsAscii}
use Rattle.std.proofs.lemmas.Str.Parse.{IsDigitsTest, IsNumeralModel, numerals_by_value}
use Rattle.std.proofs.lemmas.Fmt.{IsAscii-decimal, digits_decimal}
use Rattle.std.specs.Str.Parse.{digits_value}
use Rattle.pws_script.specs.Texts.{is_character, is_text}
use Rattle.pws_tree.specs.Characters.{is_xml_char, is_xml_text, xml_ranges}

-- ---- tests joined by 'and'

first_true : (a b : Bool) → (a && b) ≡ true → a ≡ true
first_true true b h = refl
first_true false b h = h

second_true : (a b : Bool) → (a && b) ≡ true → b ≡ true
second_true true b h = h
second_true false b h = absurd (cc)

both_true : (a b : Bool) → a ≡ true → b ≡ true → (a && b) ≡ true
both_true true b h g = g
both_true false b h g = h

xml_from : (t : List ℕ) → IsUtf8 t → list_all is_xml_char (chars t) ≡ true → is_xml_text t ≡ true
unfolding is_xml_text
xml_from t u h = both_true (is_utf8 t) (list_all is_xml_char (chars t)) (is_utf8-from_IsUtf8 t u) h

-- ---- literals

-- a character of a literal is one that XML has
character_xml : (c : ℕ) → is_character c ≡ true → is_xml_char c ≡ true
unfolding xml_ranges
character_xml c h = grind (arith, nat_tests, h)

characters_xml : (cs : List ℕ) → list_all is_character cs ≡ true → list_all is_xml_char cs ≡ true
characters_xml [] h = refl
characters_xml (c ∷ cs) h = both_true (is_xml_char c) (list_all is_xml_char cs) (character_xml c (first_true (is_character c) (list_all is_character cs) h)) (characters_xml cs (second_true (is_character c) (list_all is_character cs) h))

pub literal_xml : (t : List ℕ) → is_text t ≡ true → is_xml_text t ≡ true
unfolding is_text
literal_xml t h =
    let text = first_true (is_utf8 t && list_all is_character (chars t)) (nat_le (length t) 4096) h in
    xml_from t (IsUtf8-from_is_utf8 t (first_true (is_utf8 t) (list_all is_character (chars t)) text)) (characters_xml (chars t) (second_true (is_utf8 t) (list_all is_character (chars t)) text))

-- ---- numbers

abbrev is_digit : ℕ → Bool
is_digit b = nat_le 48 b && nat_le b 57

tells_digits : IsDigitsTest (λ ds. list_all is_digit ds ≡ true)
tells_digits = search rules

digits_model : IsNumeralModel (λ ds. list_all is_digit ds ≡ true) (digits_value 10)
digits_model = numerals_by_value _ tells_digits

digit_xml : (c : ℕ) → is_digit c ≡ true → is_xml_char c ≡ true
unfolding xml_ranges
digit_xml c h = grind (arith, nat_tests, h)

digits_xml : (cs : List ℕ) → list_all is_digit cs ≡ true → list_all is_xml_char cs ≡ true
digits_xml [] h = refl
digits_xml (c ∷ cs) h = both_true (is_xml_char c) (list_all is_xml_char cs) (digit_xml c (first_true (is_digit c) (list_all is_digit cs) h)) (digits_xml cs (second_true (is_digit c) (list_all is_digit cs) h))

pub decimal_xml : (n : ℕ) → n < 2 ^ 64 → is_xml_text (decimal n) ≡ true
decimal_xml n h =
    let ascii = IsAscii-decimal n h in
    xml_from (decimal n) (IsUtf8-from_ascii (decimal n) ascii)
    (subst (λ cs. list_all is_xml_char cs ≡ true) (sym (chars-IsAscii (decimal n) ascii)) (digits_xml (decimal n) (digits_decimal digits_model n h)))

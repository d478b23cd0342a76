-- Decimals are read and written alike.
use Rattle.std.proofs.Common.{◌≡◌, ℕ, ◌<◌, ◌^◌, ◌&&◌, ◌||◌, ◌==◌, not, Bool, true, false, List, [], ◌∷◌, length, get_or, Some, None, Result, Ok, Err, rules, arith, refl, sym, ◌∙◌, decimal, nat_lt, nat_le, ap, if◌then◌else◌, zero, suc, lit<}
use Rattle.std.specs.List.{list_all}
use Rattle.std.specs.Str.Parse.{digits_value, ParsesUnsigned}
use Rattle.std.specs.Result.{result_ok, OkIff}
use Rattle.std.proofs.lemmas.Bool.Decides.{nat_tests}
use Rattle.std.proofs.lemmas.Str.Parse.{IsDigitsTest, IsNumeralModel, numerals_by_value, parse_digits}
use Rattle.std.proofs.lemmas.Fmt.{digits_decimal, digits_value-decimal, decimal-digits_value, decimal_nonempty, first_decimal, decimal_digit}
use Rattle.std.specs.Str.{IsAscii, IsUtf8}
use Rattle.std.proofs.lemmas.Str.{IsUtf8-from_ascii}
use Rattle.std.proofs.lemmas.Bool.{and_parts}
use Rattle.pws_base.specs.Decimals.{is_digit, is_decimal, number_of}
use Rattle.pws_base.specs.Laws.{NumbersAreDecimals}

tells_digits : IsDigitsTest (λ ds. list_all is_digit ds ≡ true)
tells_digits = search rules

pub digits_model : IsNumeralModel (λ ds. list_all is_digit ds ≡ true) (digits_value 10)
digits_model = numerals_by_value _ tells_digits

-- what is known of a decimal
pub record Decimal (word : List ℕ) : Type 0 where
  pub digits : list_all is_digit word ≡ true
  pub some : 0 < length word
  pub first : get_or word 0 0 ≡ 48 → length word ≡ 1

decimal_parts : (word : List ℕ) (a b c d : Bool) → a && b && (c || not d) ≡ true → (a ≡ true) × (b ≡ true) × (d ≡ true → c ≡ true)
decimal_parts word true true true d h = (refl, refl, λ _. refl)
decimal_parts word true true false true h = (refl, refl, λ _. h)
decimal_parts word true true false false h = (refl, refl, λ k. cc)
decimal_parts word true false c d h = absurd (cc)
decimal_parts word false b c d h = absurd (cc)

pub decimal_known : (word : List ℕ) → is_decimal word ≡ true → Decimal word
decimal_known word h =
    let parts = decimal_parts word (list_all is_digit word) (nat_lt 0 (length word)) (length word == 1) (get_or word 0 0 == 48) h in
    record {
      digits = parts.0;
      some = grind (arith, nat_tests, parts.1);
      first = λ e. grind (arith, nat_tests, parts.2);
    }

number_is : (word : List ℕ) → is_decimal word ≡ true → digits_value 10 word < 2 ^ 64 → number_of word ≡ Some (digits_value 10 word)
unfolding number_of
number_is word d l =
    let less : nat_lt (digits_value 10 word) (2 ^ 64) ≡ true = grind (arith, nat_tests, l) in
    rw (d, less) refl

number_is_none : (word : List ℕ) → is_decimal word ≡ true → ¬ (digits_value 10 word < 2 ^ 64) → number_of word ≡ None
unfolding number_of
number_is_none word d l =
    let more : nat_lt (digits_value 10 word) (2 ^ 64) ≡ false = grind (arith, nat_tests, l) in
    rw (d, more) refl

parsed_as : {E : Type 0} (word : List ℕ) (r : Result ℕ E) → is_decimal word ≡ true → 0 < length word → OkIff r ((0 < length word) × (digits_value 10 word < 2 ^ 64)) (digits_value 10 word) → result_ok r ≡ number_of word
parsed_as word (Ok n) h s o = ap Some o.1 ∙ sym (number_is word h o.0.1)
parsed_as word (Err e) h s o = sym (number_is_none word h (λ l. o (s, l)))

-- a decimal is parsed as the number of which it is the decimal
pub number_parsed : {E : Type 0} (word : List ℕ) (r : Result ℕ E) → is_decimal word ≡ true → ParsesUnsigned 64 10 word r → result_ok r ≡ number_of word
number_parsed word r h p =
    let known = decimal_known word h in
    parsed_as word r h known.some (parse_digits digits_model 64 word r p known.digits)

is_decimal_from : (word : List ℕ) → Decimal word → is_decimal word ≡ true
is_decimal_from word k =
    let some : nat_lt 0 (length word) ≡ true = grind (arith, nat_tests, k.some) in
    let rest : (length word == 1) || not (get_or word 0 0 == 48) ≡ true = grind (arith, nat_tests, k.first) in
    rw (k.digits, some, rest) refl

first_of : (n : ℕ) → n < 2 ^ 64 → get_or (decimal n) 0 0 ≡ 48 → length (decimal n) ≡ 1
first_of zero h e = ap length (decimal_digit 0 (lit< tt))
first_of (suc n) h e =
    let above : 48 < get_or (decimal (suc n)) 0 0 = first_decimal (suc n) (omega arith) h in
    absurd (omega arith)

decimal_digits : (n : ℕ) → n < 2 ^ 64 → Decimal (decimal n)
decimal_digits n h =
    record {
      digits = digits_decimal digits_model n h;
      some = decimal_nonempty n h;
      first = first_of n h;
    }

-- the decimal of a number is read as this number
pub number_of-decimal : (n : ℕ) → n < 2 ^ 64 → number_of (decimal n) ≡ Some n
number_of-decimal n h =
    let value = digits_value-decimal digits_model n h in
    let less : digits_value 10 (decimal n) < 2 ^ 64 = rw value h in
    number_is (decimal n) (is_decimal_from (decimal n) (decimal_digits n h)) less ∙ ap Some value

both_hold : (d l : Bool) (v n : ℕ) → (if d && l then Some v else None) ≡ Some n → (d ≡ true) × (l ≡ true) × (v ≡ n)
both_hold true true v n h = (refl, refl, cc)
both_hold true false v n h = absurd (cc)
both_hold false l v n h = absurd (cc)

-- a word that is read as a number is the decimal of this number
pub decimal-number_of : (word : List ℕ) (n : ℕ) → number_of word ≡ Some n → (decimal n ≡ word) × (n < 2 ^ 64)
unfolding number_of
decimal-number_of word n h =
    let both = both_hold (is_decimal word) (nat_lt (digits_value 10 word) (2 ^ 64)) (digits_value 10 word) n h in
    let known = decimal_known word both.0 in
    let less : digits_value 10 word < 2 ^ 64 = grind (arith, nat_tests, both.1) in
    let same : digits_value 10 word ≡ n = both.2 in
    let spelled : decimal (digits_value 10 word) ≡ word = decimal-digits_value digits_model word known.digits known.some known.first less in
    (ap decimal (sym same) ∙ spelled, omega arith)

digits_ascii_from : (b : ℕ) (bs : List ℕ) → is_digit b && list_all is_digit bs ≡ true → (b < 128) × (list_all is_digit bs ≡ true)
digits_ascii_from b bs h =
    let parts = and_parts (is_digit b) (list_all is_digit bs) h in
    (grind (arith, nat_tests, (and_parts (nat_le 48 b) (nat_le b 57) parts.0).1), parts.1)

digits_ascii : (word : List ℕ) → list_all is_digit word ≡ true → IsAscii word
digits_ascii [] h i = omega arith
digits_ascii (b ∷ bs) h zero = (digits_ascii_from b bs h).0
digits_ascii (b ∷ bs) h (suc i) = digits_ascii bs (digits_ascii_from b bs h).1 i

-- a decimal is UTF-8
pub decimal_utf8 : (word : List ℕ) → is_decimal word ≡ true → IsUtf8 word
decimal_utf8 word h = IsUtf8-from_ascii word (digits_ascii word (decimal_known word h).digits)

-- what is no decimal is no number
pub no_decimal : (word : List ℕ) → is_decimal word ≡ false → None ≡ number_of word
unfolding number_of
no_decimal word h = rw h refl

-- words are read as the numbers whose decimals they are, and decimals are read back
pub numbers_are_decimals : NumbersAreDecimals
numbers_are_decimals word n =
    (λ h. let r = decimal-number_of word n h in (r.1, r.0), λ h. ap number_of (sym h.1) ∙ number_of-decimal n h.0)

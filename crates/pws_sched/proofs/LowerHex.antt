-- Lower-case hexadecimal both ways: a text in it is the encoding of what it spells, and an encoding spells its bytes.
use Rattle.std.proofs.Common.{◌≡◌, ℕ, zero, suc, ◌+◌, ◌*◌, ◌/◌, ◌%◌, ◌<◌, ◌==◌, Bool, true, false, ◌&&◌, cond, inl, inr, List, [], ◌∷◌, slice_index, Option, Some, None, unwrap_or, Result, Ok, Err, refl, sym, ap, ◌∙◌, arith}
use Rattle.std.proofs.lemmas.Bool.{and_parts, cases_lt, eqb-true}
use Rattle.std.proofs.lemmas.List.Elements.{All-cons, All-head, All-nil, All-tail}
use Rattle.std.proofs.lemmas.List.Sums.{AllPass-from_list_all, list_all-from_AllPass}
use Rattle.std.specs.List.{AllPass, list_all}
use Rattle.std.specs.Result.{result_ok, result_unwrap_or}
use Rattle.hex.specs.Hex.{IsBytes, decode_of, decode_pairs, digit_or_error, hex_digit_value, encode_lower, encode_with, lower_digits, pair_value, value_at, ◌>>=◌}
use Rattle.hex.specs.declared.error.FromHexError.{FromHexError}
use Rattle.hex.proofs.HexLemmas.{decode_of-ok, decode_of-even, decode_of-encode_lower}
use Rattle.pws_sched.specs.Hexadecimal.{is_lower_digit, lower_hex}

-- ---- one digit

-- whether the digit c, if it is in lower case, stands in the table at its value
abbrev stands : ℕ → Bool
stands c = cond (is_lower_digit c) (slice_index lower_digits (unwrap_or (hex_digit_value c) 99) == c) true

abbrev all_stand : ℕ → Bool
all_stand zero = true
all_stand (suc n) = stands n && all_stand n

all_stand-at : (n k : ℕ) → all_stand n ≡ true → k < n → stands k ≡ true
all_stand-at zero k h lt = absurd (omega arith)
all_stand-at (suc n) k h lt =
    let parts = and_parts (stands n) (all_stand n) h in
    elim (cases_lt k n) [
      | inl below ↦ all_stand-at n k parts.1 below
      | inr top ↦
          let e : k ≡ n = omega arith in
          rw e parts.0
    ]

lower_small : (c : ℕ) → is_lower_digit c ≡ true → c < 103
lower_small c h = grind arith

-- a lower-case digit stands in the table at its value
digit_stands : (c v : ℕ) → is_lower_digit c ≡ true → hex_digit_value c ≡ Some v → slice_index lower_digits v ≡ c
digit_stands c v low h =
    let test = all_stand-at 103 c refl (lower_small c low) in
    let here : (slice_index lower_digits (unwrap_or (hex_digit_value c) 99) == c) ≡ true = rw low at test in
    let equal = eqb-true _ _ here in
    rw h at equal

-- ---- a text

-- what an `Ok` after `>>=` shows
bind_ok : {A B : Type 0} (r : Result A FromHexError) (f : A → Result B FromHexError) (y : B) → (r >>= f) ≡ Ok y → (x : A) × (r ≡ Ok x) × (f x ≡ Ok y)
bind_ok (Ok x) f y h = (x, refl, h)
bind_ok (Err e) f y h = cc h

digit_read : (c i : ℕ) (o : Option ℕ) (v : ℕ) → digit_or_error c i o ≡ Ok v → o ≡ Some v
digit_read c i (Some w) v h = ap Some (ap (λ (r : Result ℕ FromHexError). result_unwrap_or r 0) h)
digit_read c i None v h = cc h

hex_digit_value-small : (c v : ℕ) → hex_digit_value c ≡ Some v → v < 16
hex_digit_value-small c v h = grind (arith)

encode-decode_pairs : (i : ℕ) (s bytes : List ℕ) → AllPass is_lower_digit s → decode_pairs i s ≡ Ok bytes → encode_lower bytes ≡ s
unfolding decode_pairs encode_with
encode-decode_pairs i [] bytes low h =
    let e : [] ≡ bytes = ap (λ (r : Result (List ℕ) FromHexError). result_unwrap_or r []) h in
    rw (← e) refl
encode-decode_pairs i (a ∷ []) bytes low h = cc h
encode-decode_pairs i (a ∷ b ∷ rest) bytes low h =
    let p0 = bind_ok (pair_value a b i) _ bytes h in
    let p1 = bind_ok (value_at a i) _ p0.0 p0.1 in
    let p2 = bind_ok (value_at b (i + 1)) _ p0.0 p1.2 in
    let p3 = bind_ok (decode_pairs (i + 2) rest) _ bytes p0.2 in
    let e : p0.0 ∷ p3.0 ≡ bytes = ap (λ (r : Result (List ℕ) FromHexError). result_unwrap_or r []) p3.2 in
    let byte : p1.0 * 16 + p2.0 ≡ p0.0 = ap (λ (r : Result ℕ FromHexError). result_unwrap_or r 0) p2.2 in
    let ra = digit_read a i (hex_digit_value a) p1.0 p1.1 in
    let rb = digit_read b (i + 1) (hex_digit_value b) p2.0 p2.1 in
    let va = hex_digit_value-small a p1.0 ra in
    let vb = hex_digit_value-small b p2.0 rb in
    let tail = All-tail (λ c. is_lower_digit c ≡ true) a (b ∷ rest) low in
    let sa = digit_stands a p1.0 (All-head (λ c. is_lower_digit c ≡ true) a (b ∷ rest) low) ra in
    let sb = digit_stands b p2.0 (All-head (λ c. is_lower_digit c ≡ true) b rest tail) rb in
    let high : p0.0 / 16 ≡ p1.0 = omega arith in
    let under : p0.0 % 16 ≡ p2.0 = omega arith in
    let ih = encode-decode_pairs (i + 2) rest p3.0 (All-tail (λ c. is_lower_digit c ≡ true) b rest tail) p3.1 in
    rw (← e, high, under, sa, sb, ih) refl

-- ---- an encoding is in lower case

abbrev table_low : ℕ → Bool
table_low zero = true
table_low (suc n) = is_lower_digit (slice_index lower_digits n) && table_low n

table_low-at : (n k : ℕ) → table_low n ≡ true → k < n → is_lower_digit (slice_index lower_digits k) ≡ true
table_low-at zero k h lt = absurd (omega arith)
table_low-at (suc n) k h lt =
    let parts = and_parts (is_lower_digit (slice_index lower_digits n)) (table_low n) h in
    elim (cases_lt k n) [
      | inl below ↦ table_low-at n k parts.1 below
      | inr top ↦
          let e : k ≡ n = omega arith in
          rw e parts.0
    ]

pub AllPass-encode_lower : (xs : List ℕ) → IsBytes xs → AllPass is_lower_digit (encode_lower xs)
unfolding encode_with
AllPass-encode_lower [] h = All-nil (λ c. is_lower_digit c ≡ true)
AllPass-encode_lower (b ∷ rest) h =
    let fits : b < 256 = h 0 in
    All-cons (λ c. is_lower_digit c ≡ true) (slice_index lower_digits (b / 16)) (slice_index lower_digits (b % 16) ∷ encode_lower rest)
    (table_low-at 16 (b / 16) refl (omega arith))
    (All-cons (λ c. is_lower_digit c ≡ true) (slice_index lower_digits (b % 16)) (encode_lower rest)
    (table_low-at 16 (b % 16) refl (omega arith))
    (AllPass-encode_lower rest (λ k. h (suc k))))

-- ---- both ways

result_ok_some : (r : Result (List ℕ) FromHexError) (bytes : List ℕ) → result_ok r ≡ Some bytes → r ≡ Ok bytes
result_ok_some (Ok x) bytes h = ap Ok (ap (λ o. unwrap_or o x) h)
result_ok_some (Err e) bytes h = cc h

guarded : {A : Type 0} (b : Bool) (o : Option A) (y : A) → cond b o None ≡ Some y → (b ≡ true) × (o ≡ Some y)
guarded true o y h = (refl, h)
guarded false o y h = cc h

-- the encoding of bytes spells them
pub lower_hex-encode_lower : (bytes : List ℕ) → IsBytes bytes → lower_hex (encode_lower bytes) ≡ Some bytes
lower_hex-encode_lower bytes h =
    let low = list_all-from_AllPass is_lower_digit (encode_lower bytes) (AllPass-encode_lower bytes h) in
    rw (low, decode_of-encode_lower bytes h) refl

-- a text that spells bytes is their encoding
pub encode_lower-lower_hex : (text bytes : List ℕ) → lower_hex text ≡ Some bytes → (encode_lower bytes ≡ text) × IsBytes bytes
encode_lower-lower_hex text bytes h =
    let read = guarded (list_all is_lower_digit text) (result_ok (decode_of text)) bytes h in
    let ok = result_ok_some (decode_of text) bytes read.1 in
    let even = (decode_of-ok text bytes ok).0 in (
      encode-decode_pairs 0 text bytes (AllPass-from_list_all is_lower_digit text read.0) (sym (decode_of-even text even) ∙ ok),
      (decode_of-ok text bytes ok).3,
    )

-- The characters that begin with the same bytes.
use Rattle.std.proofs.Common.{◌≡◌, ◌⊎◌, inl, inr, ℕ, ◌+◌, ◌-◌, ◌/◌, ◌%◌, ◌<◌, ◌≤◌, nat_le, nat_lt, Bool, true, false, cond, List, [], ◌∷◌, ◌++◌, refl, ap, sym, ◌∙◌, arith}
use Rattle.std.specs.Prelude.{if◌then◌else◌, encode_utf8}
use Rattle.std.proofs.lemmas.Bool.{cases_lt, lt-ltb, le-ltb, leb-true, leb-false}
use lib.Utf8.{encode}

abbrev pub next_byte : ℕ → ℕ
next_byte n = 128 + n % 64

abbrev pub two_bytes : ℕ → List ℕ
two_bytes c = (192 + c / 64) ∷ next_byte c ∷ []

abbrev pub three_bytes : ℕ → List ℕ
three_bytes c = (224 + c / 4096) ∷ next_byte (c / 64) ∷ next_byte c ∷ []

abbrev pub four_bytes : ℕ → List ℕ
four_bytes c = (240 + c / 262144) ∷ next_byte (c / 4096) ∷ next_byte (c / 64) ∷ next_byte c ∷ []

pub in_one : (c : ℕ) → c < 128 → encode_utf8 c ≡ c ∷ []
unfolding encode
in_one c h = ap (λ b. cond b (c ∷ []) (cond (nat_lt c 2048) (two_bytes c) (cond (nat_lt c 65536) (three_bytes c) (four_bytes c)))) (lt-ltb c 128 h)

pub in_two : (c : ℕ) → 128 ≤ c → c < 2048 → encode_utf8 c ≡ two_bytes c
unfolding encode
in_two c l h = ap (λ b. cond b (c ∷ []) (cond (nat_lt c 2048) (two_bytes c) (cond (nat_lt c 65536) (three_bytes c) (four_bytes c)))) (le-ltb c 128 l) ∙ ap (λ b. cond b (two_bytes c) (cond (nat_lt c 65536) (three_bytes c) (four_bytes c))) (lt-ltb c 2048 h)

pub in_three : (c : ℕ) → 2048 ≤ c → c < 65536 → encode_utf8 c ≡ three_bytes c
unfolding encode
in_three c l h =
    ap (λ b. cond b (c ∷ []) (cond (nat_lt c 2048) (two_bytes c) (cond (nat_lt c 65536) (three_bytes c) (four_bytes c)))) (le-ltb c 128 (omega arith))
    ∙ (ap (λ b. cond b (two_bytes c) (cond (nat_lt c 65536) (three_bytes c) (four_bytes c))) (le-ltb c 2048 l) ∙ ap (λ b. cond b (three_bytes c) (four_bytes c)) (lt-ltb c 65536 h))

pub in_four : (c : ℕ) → 65536 ≤ c → encode_utf8 c ≡ four_bytes c
unfolding encode
in_four c l =
    ap (λ b. cond b (c ∷ []) (cond (nat_lt c 2048) (two_bytes c) (cond (nat_lt c 65536) (three_bytes c) (four_bytes c)))) (le-ltb c 128 (omega arith))
    ∙ (ap (λ b. cond b (two_bytes c) (cond (nat_lt c 65536) (three_bytes c) (four_bytes c))) (le-ltb c 2048 (omega arith)) ∙ ap (λ b. cond b (three_bytes c) (four_bytes c)) (le-ltb c 65536 l))

-- the bytes of a character, by their number
pub record One (d : ℕ) : Type 0 where
  pub under : d < 128
  pub bytes : encode_utf8 d ≡ d ∷ []

pub record Two (d : ℕ) : Type 0 where
  pub from : 128 ≤ d
  pub under : d < 2048
  pub bytes : encode_utf8 d ≡ two_bytes d

pub record Three (d : ℕ) : Type 0 where
  pub from : 2048 ≤ d
  pub under : d < 65536
  pub bytes : encode_utf8 d ≡ three_bytes d

pub record Four (d : ℕ) : Type 0 where
  pub from : 65536 ≤ d
  pub bytes : encode_utf8 d ≡ four_bytes d

abbrev pub Sized : ℕ → Type 0
Sized d = One d ⊎ (Two d ⊎ (Three d ⊎ Four d))

pub sized : (d : ℕ) → Sized d
sized d = one (cases_lt d 128)
  where
    three : 2048 ≤ d → (d < 65536) ⊎ (65536 ≤ d) → Sized d
    three l (inl h) = inr (inr (inl (record { from = l; under = h; bytes = in_three d l h })))
    three l (inr h) = inr (inr (inr (record { from = h; bytes = in_four d h })))

    two : 128 ≤ d → (d < 2048) ⊎ (2048 ≤ d) → Sized d
    two l (inl h) = inr (inl (record { from = l; under = h; bytes = in_two d l h }))
    two l (inr h) = three h (cases_lt d 65536)

    one : (d < 128) ⊎ (128 ≤ d) → Sized d
    one (inl h) = inl (record { under = h; bytes = in_one d h })
    one (inr h) = two h (cases_lt d 2048)

-- the span of the characters that begin with the same bytes
abbrev pub span_first : ℕ → ℕ → ℕ → ℕ
span_first least count c = if nat_le (c - c % count) least then least else c - c % count

abbrev pub span_last : ℕ → ℕ → ℕ
span_last count c = (c - c % count) + (count - 1)

pub record InSpan (least count c d : ℕ) : Type 0 where
  pub first : span_first least count c ≤ d
  pub last : d ≤ span_last count c

pub first_to : (least start d : ℕ) → least ≤ d → start ≤ d → (if nat_le start least then least else start) ≤ d
first_to least start d l s = by (nat_le start least)
  where
    by : (b : Bool) → (if b then least else start) ≤ d
    by true = l
    by false = s

pub first_from : (least start d : ℕ) → (if nat_le start least then least else start) ≤ d → (least ≤ d) × (start ≤ d)
first_from least start d h = by (nat_le start least) (leb-true start least) (leb-false start least) h
  where
    by : (b : Bool) → (b ≡ true → start ≤ least) → (b ≡ false → least < start) → (if b then least else start) ≤ d → (least ≤ d) × (start ≤ d)
    by true t f g = let x = t refl in (g, omega arith)
    by false t f g = let x = f refl in (omega arith, g)

-- a beginning of a character's bytes, and the span of those that have it
pub record Alike (least count c : ℕ) (front : List ℕ) : Type 0 where
  pub high : 128 ≤ least
  pub ordered : span_first least count c ≤ span_last count c
  pub to : (d : ℕ) (rest : List ℕ) → encode_utf8 d ≡ front ++ rest → InSpan least count c d
  pub from : (d : ℕ) → InSpan least count c d → (rest : List ℕ) × (encode_utf8 d ≡ front ++ rest)

-- of two bytes, the first
abbrev pub front_two : ℕ → List ℕ
front_two c = (192 + c / 64) ∷ []

two_to : (c d : ℕ) (rest : List ℕ) → 128 ≤ c → c < 2048 → encode_utf8 d ≡ front_two c ++ rest → InSpan 128 64 c d
two_to c d rest l h e = by (sized d)
  where
    by : Sized d → InSpan 128 64 c d
    by (inl z) = absurd (let same : d ∷ [] ≡ (192 + c / 64) ∷ rest = sym z.bytes ∙ e in let head : d ≡ 192 + c / 64 = cc in omega (arith, z.under))
    by (inr (inl z)) =
        let same : two_bytes d ≡ (192 + c / 64) ∷ rest = sym z.bytes ∙ e in
        let head : 192 + d / 64 ≡ 192 + c / 64 = cc in
        record { first = first_to 128 (c - c % 64) d z.from (omega arith); last = omega arith }
    by (inr (inr (inl z))) = absurd (let same : three_bytes d ≡ (192 + c / 64) ∷ rest = sym z.bytes ∙ e in let head : 224 + d / 4096 ≡ 192 + c / 64 = cc in omega arith)
    by (inr (inr (inr z))) = absurd (let same : four_bytes d ≡ (192 + c / 64) ∷ rest = sym z.bytes ∙ e in let head : 240 + d / 262144 ≡ 192 + c / 64 = cc in omega arith)

two_from : (c d : ℕ) → 128 ≤ c → c < 2048 → InSpan 128 64 c d → (rest : List ℕ) × (encode_utf8 d ≡ front_two c ++ rest)
two_from c d l h i =
    let parts = first_from 128 (c - c % 64) d i.first in
    let last = i.last in
    let low : 128 ≤ d = parts.0 in
    let start : c - c % 64 ≤ d = parts.1 in
    let under : d < 2048 = omega arith in
    let same : d / 64 ≡ c / 64 = omega arith in
    (next_byte d ∷ [], in_two d low under ∙ ap (λ n. (192 + n) ∷ next_byte d ∷ []) same)

pub alike_two : (c : ℕ) → 128 ≤ c → c < 2048 → Alike 128 64 c (front_two c)
alike_two c l h = record {
  high = omega arith;
  ordered = first_to 128 (c - c % 64) (span_last 64 c) (omega arith) (omega arith);
  to = λ d rest e. two_to c d rest l h e;
  from = λ d i. two_from c d l h i;
}

-- of three bytes, the first one or two
abbrev pub front_three : ℕ → List ℕ
front_three c = (224 + c / 4096) ∷ []

abbrev pub front_three_two : ℕ → List ℕ
front_three_two c = (224 + c / 4096) ∷ next_byte (c / 64) ∷ []

three_head : (c d : ℕ) (rest : List ℕ) → c < 65536 → encode_utf8 d ≡ (224 + c / 4096) ∷ rest → Three d
three_head c d rest h e = by (sized d)
  where
    by : Sized d → Three d
    by (inl z) = absurd (let same : d ∷ [] ≡ (224 + c / 4096) ∷ rest = sym z.bytes ∙ e in let head : d ≡ 224 + c / 4096 = cc in omega (arith, z.under))
    by (inr (inl z)) = absurd (let same : two_bytes d ≡ (224 + c / 4096) ∷ rest = sym z.bytes ∙ e in let head : 192 + d / 64 ≡ 224 + c / 4096 = cc in omega (arith, z.under))
    by (inr (inr (inl z))) = z
    by (inr (inr (inr z))) = absurd (let same : four_bytes d ≡ (224 + c / 4096) ∷ rest = sym z.bytes ∙ e in let head : 240 + d / 262144 ≡ 224 + c / 4096 = cc in omega arith)

three_to : (c d : ℕ) (rest : List ℕ) → c < 65536 → encode_utf8 d ≡ front_three c ++ rest → InSpan 2048 4096 c d
three_to c d rest h e =
    let z = three_head c d rest h e in
    let same : three_bytes d ≡ (224 + c / 4096) ∷ rest = sym z.bytes ∙ e in
    let head : 224 + d / 4096 ≡ 224 + c / 4096 = cc in
    record { first = first_to 2048 (c - c % 4096) d z.from (omega arith); last = omega arith }

three_two_to : (c d : ℕ) (rest : List ℕ) → c < 65536 → encode_utf8 d ≡ front_three_two c ++ rest → InSpan 2048 64 c d
three_two_to c d rest h e =
    let z = three_head c d (next_byte (c / 64) ∷ rest) h e in
    let same : three_bytes d ≡ (224 + c / 4096) ∷ next_byte (c / 64) ∷ rest = sym z.bytes ∙ e in
    let head : 224 + d / 4096 ≡ 224 + c / 4096 = cc in
    let second : 128 + (d / 64) % 64 ≡ 128 + (c / 64) % 64 = cc in
    let quotient : d / 64 ≡ c / 64 = omega arith in
    record { first = first_to 2048 (c - c % 64) d z.from (omega (arith, quotient)); last = omega (arith, quotient) }

three_from : (c d : ℕ) → c < 65536 → InSpan 2048 4096 c d → (rest : List ℕ) × (encode_utf8 d ≡ front_three c ++ rest)
three_from c d h i =
    let parts = first_from 2048 (c - c % 4096) d i.first in
    let last = i.last in
    let low : 2048 ≤ d = parts.0 in
    let start : c - c % 4096 ≤ d = parts.1 in
    let under : d < 65536 = omega arith in
    let same : d / 4096 ≡ c / 4096 = omega arith in
    (next_byte (d / 64) ∷ next_byte d ∷ [], in_three d low under ∙ ap (λ n. (224 + n) ∷ next_byte (d / 64) ∷ next_byte d ∷ []) same)

three_two_from : (c d : ℕ) → c < 65536 → InSpan 2048 64 c d → (rest : List ℕ) × (encode_utf8 d ≡ front_three_two c ++ rest)
three_two_from c d h i =
    let parts = first_from 2048 (c - c % 64) d i.first in
    let last = i.last in
    let low : 2048 ≤ d = parts.0 in
    let start : c - c % 64 ≤ d = parts.1 in
    let under : d < 65536 = omega arith in
    let quotient : d / 64 ≡ c / 64 = omega arith in
    let same : d / 4096 ≡ c / 4096 = omega arith in
    (next_byte d ∷ [], in_three d low under ∙ (λ i. (224 + same i) ∷ next_byte (quotient i) ∷ next_byte d ∷ []))

pub alike_three : (c : ℕ) → 2048 ≤ c → c < 65536 → Alike 2048 4096 c (front_three c)
alike_three c l h = record {
  high = omega arith;
  ordered = first_to 2048 (c - c % 4096) (span_last 4096 c) (omega arith) (omega arith);
  to = λ d rest e. three_to c d rest h e;
  from = λ d i. three_from c d h i;
}

pub alike_three_two : (c : ℕ) → 2048 ≤ c → c < 65536 → Alike 2048 64 c (front_three_two c)
alike_three_two c l h = record {
  high = omega arith;
  ordered = first_to 2048 (c - c % 64) (span_last 64 c) (omega arith) (omega arith);
  to = λ d rest e. three_two_to c d rest h e;
  from = λ d i. three_two_from c d h i;
}

-- of four bytes, the first one, two or three
abbrev pub front_four : ℕ → List ℕ
front_four c = (240 + c / 262144) ∷ []

abbrev pub front_four_two : ℕ → List ℕ
front_four_two c = (240 + c / 262144) ∷ next_byte (c / 4096) ∷ []

abbrev pub front_four_three : ℕ → List ℕ
front_four_three c = (240 + c / 262144) ∷ next_byte (c / 4096) ∷ next_byte (c / 64) ∷ []

four_head : (c d : ℕ) (rest : List ℕ) → encode_utf8 d ≡ (240 + c / 262144) ∷ rest → Four d
four_head c d rest e = by (sized d)
  where
    by : Sized d → Four d
    by (inl z) = absurd (let same : d ∷ [] ≡ (240 + c / 262144) ∷ rest = sym z.bytes ∙ e in let head : d ≡ 240 + c / 262144 = cc in omega (arith, z.under))
    by (inr (inl z)) = absurd (let same : two_bytes d ≡ (240 + c / 262144) ∷ rest = sym z.bytes ∙ e in let head : 192 + d / 64 ≡ 240 + c / 262144 = cc in omega (arith, z.under))
    by (inr (inr (inl z))) = absurd (let same : three_bytes d ≡ (240 + c / 262144) ∷ rest = sym z.bytes ∙ e in let head : 224 + d / 4096 ≡ 240 + c / 262144 = cc in omega (arith, z.under))
    by (inr (inr (inr z))) = z

four_to : (c d : ℕ) (rest : List ℕ) → encode_utf8 d ≡ front_four c ++ rest → InSpan 65536 262144 c d
four_to c d rest e =
    let z = four_head c d rest e in
    let same : four_bytes d ≡ (240 + c / 262144) ∷ rest = sym z.bytes ∙ e in
    let head : 240 + d / 262144 ≡ 240 + c / 262144 = cc in
    record { first = first_to 65536 (c - c % 262144) d z.from (omega arith); last = omega arith }

four_two_to : (c d : ℕ) (rest : List ℕ) → encode_utf8 d ≡ front_four_two c ++ rest → InSpan 65536 4096 c d
four_two_to c d rest e =
    let z = four_head c d (next_byte (c / 4096) ∷ rest) e in
    let same : four_bytes d ≡ (240 + c / 262144) ∷ next_byte (c / 4096) ∷ rest = sym z.bytes ∙ e in
    let head : 240 + d / 262144 ≡ 240 + c / 262144 = cc in
    let second : 128 + (d / 4096) % 64 ≡ 128 + (c / 4096) % 64 = cc in
    let quotient : d / 4096 ≡ c / 4096 = omega arith in
    record { first = first_to 65536 (c - c % 4096) d z.from (omega (arith, quotient)); last = omega (arith, quotient) }

four_three_to : (c d : ℕ) (rest : List ℕ) → encode_utf8 d ≡ front_four_three c ++ rest → InSpan 65536 64 c d
four_three_to c d rest e =
    let z = four_head c d (next_byte (c / 4096) ∷ next_byte (c / 64) ∷ rest) e in
    let same : four_bytes d ≡ (240 + c / 262144) ∷ next_byte (c / 4096) ∷ next_byte (c / 64) ∷ rest = sym z.bytes ∙ e in
    let head : 240 + d / 262144 ≡ 240 + c / 262144 = cc in
    let second : 128 + (d / 4096) % 64 ≡ 128 + (c / 4096) % 64 = cc in
    let third : 128 + (d / 64) % 64 ≡ 128 + (c / 64) % 64 = cc in
    let larger : d / 4096 ≡ c / 4096 = omega arith in
    let quotient : d / 64 ≡ c / 64 = omega arith in
    record { first = first_to 65536 (c - c % 64) d z.from (omega (arith, quotient)); last = omega (arith, quotient) }

four_from : (c d : ℕ) → InSpan 65536 262144 c d → (rest : List ℕ) × (encode_utf8 d ≡ front_four c ++ rest)
four_from c d i =
    let parts = first_from 65536 (c - c % 262144) d i.first in
    let last = i.last in
    let low : 65536 ≤ d = parts.0 in
    let start : c - c % 262144 ≤ d = parts.1 in
    let same : d / 262144 ≡ c / 262144 = omega arith in
    (next_byte (d / 4096) ∷ next_byte (d / 64) ∷ next_byte d ∷ [], in_four d low ∙ ap (λ n. (240 + n) ∷ next_byte (d / 4096) ∷ next_byte (d / 64) ∷ next_byte d ∷ []) same)

four_two_from : (c d : ℕ) → InSpan 65536 4096 c d → (rest : List ℕ) × (encode_utf8 d ≡ front_four_two c ++ rest)
four_two_from c d i =
    let parts = first_from 65536 (c - c % 4096) d i.first in
    let last = i.last in
    let low : 65536 ≤ d = parts.0 in
    let start : c - c % 4096 ≤ d = parts.1 in
    let quotient : d / 4096 ≡ c / 4096 = omega arith in
    let same : d / 262144 ≡ c / 262144 = omega arith in
    (next_byte (d / 64) ∷ next_byte d ∷ [], in_four d low ∙ (λ i. (240 + same i) ∷ next_byte (quotient i) ∷ next_byte (d / 64) ∷ next_byte d ∷ []))

four_three_from : (c d : ℕ) → InSpan 65536 64 c d → (rest : List ℕ) × (encode_utf8 d ≡ front_four_three c ++ rest)
four_three_from c d i =
    let parts = first_from 65536 (c - c % 64) d i.first in
    let last = i.last in
    let low : 65536 ≤ d = parts.0 in
    let start : c - c % 64 ≤ d = parts.1 in
    let least : d / 64 ≡ c / 64 = omega arith in
    let quotient : d / 4096 ≡ c / 4096 = omega arith in
    let same : d / 262144 ≡ c / 262144 = omega arith in
    (next_byte d ∷ [], in_four d low ∙ (λ i. (240 + same i) ∷ next_byte (quotient i) ∷ next_byte (least i) ∷ next_byte d ∷ []))

pub alike_four : (c : ℕ) → 65536 ≤ c → Alike 65536 262144 c (front_four c)
alike_four c l = record {
  high = omega arith;
  ordered = first_to 65536 (c - c % 262144) (span_last 262144 c) (omega arith) (omega arith);
  to = λ d rest e. four_to c d rest e;
  from = λ d i. four_from c d i;
}

pub alike_four_two : (c : ℕ) → 65536 ≤ c → Alike 65536 4096 c (front_four_two c)
alike_four_two c l = record {
  high = omega arith;
  ordered = first_to 65536 (c - c % 4096) (span_last 4096 c) (omega arith) (omega arith);
  to = λ d rest e. four_two_to c d rest e;
  from = λ d i. four_two_from c d i;
}

pub alike_four_three : (c : ℕ) → 65536 ≤ c → Alike 65536 64 c (front_four_three c)
alike_four_three c l = record {
  high = omega arith;
  ordered = first_to 65536 (c - c % 64) (span_last 64 c) (omega arith) (omega arith);
  to = λ d rest e. four_three_to c d rest e;
  from = λ d i. four_three_from c d i;
}

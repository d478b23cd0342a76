-- The reader takes references.
use Rattle.std.proofs.Common.{◌≡◌, ◌⊎◌, inl, inr, ℕ, ◌+◌, ◌*◌, ◌≤◌, ◌<◌, Bool, true, false, ◌&&◌, List, [], ◌∷◌, ◌++◌, fold, length, refl, ap, sym, ◌∙◌, arith, Option, Some, None}
use Rattle.std.specs.Prelude.{nat_le, is_none, encode_utf8, encode_utf8_all}
use Rattle.std.specs.List.{list_all}
use Rattle.std.proofs.lemmas.Bool.{and_parts, and_right, or_from, le-leb, lt-leb, cases_lt}
use Rattle.std.proofs.Math.Nat.{le-mul_of_pos_right}
use lib.Utf8.{encode}
use Rattle.pws_tree.specs.Characters.{is_xml_char, is_name_start, xml_ranges, name_start_ranges, name_more_ranges}
use Rattle.pws_mark.specs.Bindings.{char_at, entity_char, number_of, piece_char}
use Rattle.pws_mark.specs.Digits.{is_digit, is_hexadecimal, digit_number}
use Rattle.pws_mark.specs.Documents.{Piece, Char, Entity, Decimal, Hexadecimal}
use Rattle.pws_mark.specs.Noted.{finds, if_found}
use Rattle.pws_mark.specs.Scan.{next, reference_step, number_step, capped}
use Rattle.pws_mark.specs.States.{Outer}
use Rattle.pws_mark.specs.TokenLaws.{Goes, state, ending}
use Rattle.pws_mark.specs.Tokens.{is_name, goes_on, is_piece}
use Rattle.pws_mark.specs.declared.errors.MarkKind.TheVariants as kind
use Rattle.pws_mark.specs.declared.modes.Mode.{Mode}
use Rattle.pws_mark.specs.declared.modes.Reference.{Reference}
use Rattle.pws_mark.specs.declared.modes.Reference.TheVariants as reference
use Rattle.pws_mark.specs.declared.modes.ReferenceStep.TheVariants as stepped
use Rattle.pws_mark.proofs.Going.{goes_at, goes_once, goes_quietly, goes_before, goes_over, goes_names, goes_nowhere}

-- a reference goes on in a mode that keeps what was read of it
abbrev pub GoesOn : (Reference → Mode) → Outer → Type 0
GoesOn mk o = (r s : Reference) (at c : ℕ) → reference_step r c ≡ Some (stepped.More s) → (next (mk r) o at c ≡ Some (mk s, o)) × (finds (mk r) o c ≡ [])

-- and is complete with a character or none
abbrev pub Completes : (Reference → Mode) → Outer → (Option ℕ → Mode) → (Option ℕ → Outer) → ℕ → Type 0
Completes mk o last around place = (r : Reference) (at c : ℕ) (d : Option ℕ) → reference_step r c ≡ Some (stepped.Done d) → (next (mk r) o at c ≡ Some (last d, around d)) × (finds (mk r) o c ≡ if_found (is_none d) kind.Entity place)

goes_digits : (mk : Reference → Mode) (o : Outer) → GoesOn mk o → (base : ℕ) (number : ℕ → Reference) (p : ℕ → Bool) → ((n c : ℕ) → p c ≡ true → reference_step (number n) c ≡ Some (stepped.More (number (number_step base n c)))) →
    (cs : List ℕ) (n at : ℕ) → list_all p cs ≡ true → Goes (state at (mk (number n)) o) cs (state (at + length (encode_utf8_all cs)) (mk (number (fold (number_step base) n cs))) o) []
goes_digits mk o goes base number p steps [] n at digits = goes_at (state at (mk (number n)) o) [] (mk (number n)) o [] at (at + 0) (omega arith) (goes_nowhere (state at (mk (number n)) o))
goes_digits mk o goes base number p steps (c ∷ cs) n at digits =
    let parts = and_parts (p c) (list_all p cs) digits in
    let now = goes (number n) (number (number_step base n c)) at c (steps n c parts.0) in
    goes_quietly (mk (number n)) (mk (number (number_step base n c))) (mk (number (fold (number_step base) (number_step base n c) cs))) o o o at c cs [] now.0 now.1
    (goes_digits mk o goes base number p steps cs (number_step base n c) (at + length (encode_utf8 c)) parts.1)

capped_below : (n : ℕ) → n < 0x110000 → capped n ≡ n
capped_below n h = rw (lt-leb 0x110000 n h) refl

capped_above : (n : ℕ) → 0x110000 ≤ n → capped n ≡ 0x110000
capped_above n h = rw (le-leb 0x110000 n h) refl

no_char_above : (n : ℕ) → 0x110000 ≤ n → is_xml_char n ≡ false
unfolding xml_ranges
no_char_above n h = or_from _ _ (out 0x9 0xA (omega arith)) (or_from _ _ (out 0xD 0xD (omega arith)) (or_from _ _ (out 0x20 0xD7FF (omega arith)) (or_from _ _ (out 0xE000 0xFFFD (omega arith)) (or_from _ _ (out 0x10000 0x10FFFF (omega arith)) refl))))
  where
    out : (low high : ℕ) → high < n → (nat_le low n && nat_le n high) ≡ false
    out low high far = and_right (nat_le low n) (nat_le n high) (lt-leb n high far)

capped_is : (n : ℕ) → char_at (capped n) ≡ char_at n
unfolding xml_ranges
capped_is n = by (cases_lt n 0x110000)
  where
    by : (n < 0x110000) ⊎ (0x110000 ≤ n) → char_at (capped n) ≡ char_at n
    by (inl below) = ap char_at (capped_below n below)
    by (inr above) = let none : char_at n ≡ None = rw (no_char_above n above) refl in ap char_at (capped_above n above) ∙ sym none

capped_step : (base n c : ℕ) → 1 ≤ base → capped (capped n * base + digit_number c) ≡ capped (n * base + digit_number c)
capped_step base n c some = by (cases_lt n 0x110000)
  where
    large : (k : ℕ) → 0x110000 ≤ k → 0x110000 ≤ k * base + digit_number c
    large k far = let positive : 0 < base = omega arith in let more : k ≤ k * base = le-mul_of_pos_right k positive in omega (arith, more)

    by : (n < 0x110000) ⊎ (0x110000 ≤ n) → capped (capped n * base + digit_number c) ≡ capped (n * base + digit_number c)
    by (inl below) = ap (λ z. capped (z * base + digit_number c)) (capped_below n below)
    by (inr above) = ap (λ z. capped (z * base + digit_number c)) (capped_above n above) ∙ (capped_above (0x110000 * base + digit_number c) (large 0x110000 (omega arith)) ∙ sym (capped_above (n * base + digit_number c) (large n above)))

numbers_agree : (base : ℕ) (cs : List ℕ) (m n : ℕ) → 1 ≤ base → m ≡ capped n → fold (number_step base) m cs ≡ capped (fold (λ k c. k * base + digit_number c) n cs)
numbers_agree base [] m n some same = same
numbers_agree base (c ∷ cs) m n some same = numbers_agree base cs (number_step base m c) (n * base + digit_number c) some (ap (λ z. capped (z * base + digit_number c)) same ∙ capped_step base n c some)

-- the number of some digits, at least one
number_read : (base : ℕ) (c : ℕ) (cs : List ℕ) → 1 ≤ base → char_at (fold (number_step base) (number_step base 0 c) cs) ≡ char_at (number_of base (c ∷ cs))
unfolding number_of
number_read base c cs some = ap char_at (numbers_agree base cs (number_step base 0 c) (0 * base + digit_number c) some refl) ∙ capped_is (fold (λ k d. k * base + digit_number d) (0 * base + digit_number c) cs)

-- what stands behind the & of a reference
abbrev pub behind_mark : Piece → List ℕ
behind_mark (Char c) = []
behind_mark (Entity name) = name ++ 59 ∷ []
behind_mark (Decimal digits) = 35 ∷ (digits ++ 59 ∷ [])
behind_mark (Hexadecimal digits) = 35 ∷ 120 ∷ (digits ++ 59 ∷ [])

abbrev pub is_reference : Piece → Bool
is_reference (Char c) = false
is_reference _ = true

-- a reference is complete, behind its last character
ends_reference : (mk : Reference → Mode) (o : Outer) (last : Option ℕ → Mode) (around : Option ℕ → Outer) (place : ℕ) → Completes mk o last around place →
    (r : Reference) (d : Option ℕ) (at : ℕ) → reference_step r 59 ≡ Some (stepped.Done d) → Goes (state at (mk r) o) (59 ∷ []) (state (at + 1) (last d) (around d)) (ending (at + 1) (if_found (is_none d) kind.Entity place))
unfolding encode
ends_reference mk o last around place done r d at stepped =
    let now = done r at 59 d stepped in
    goes_once (mk r) (last d) o (around d) at 59 (if_found (is_none d) kind.Entity place) now.0 now.1

pub reference_goes : (mk : Reference → Mode) (o : Outer) (last : Option ℕ → Mode) (around : Option ℕ → Outer) (place : ℕ) → GoesOn mk o → Completes mk o last around place →
    (p : Piece) (q : ℕ → Bool) (at : ℕ) → is_reference p ≡ true → is_piece q p ≡ true →
    let end = at + length (encode_utf8_all (behind_mark p)) in
    Goes (state at (mk reference.Begun) o) (behind_mark p) (state end (last (piece_char p)) (around (piece_char p))) (ending end (if_found (is_none (piece_char p)) kind.Entity place))
unfolding reference_step is_name name_start_ranges name_more_ranges encode
reference_goes mk o last around place goes done (Char c) q at is lawful = absurd cc
reference_goes mk o last around place goes done (Entity []) q at is lawful = absurd cc
reference_goes mk o last around place goes done (Entity (c ∷ cs)) q at is lawful =
    let parts = and_parts (is_name_start c) (goes_on false cs) lawful in
    let now = goes reference.Begun (reference.Entity (c ∷ []) false) at c (rw parts.0 refl) in
    let found = if_found (is_none (entity_char (c ∷ cs))) kind.Entity place in
    let l = last (entity_char (c ∷ cs)) in
    let a = around (entity_char (c ∷ cs)) in
    goes_before (mk reference.Begun) (mk (reference.Entity (c ∷ []) false)) l o o a at c (cs ++ 59 ∷ []) found now.0 now.1
    (goes_over (mk (reference.Entity (c ∷ []) false)) (mk (reference.Entity (c ∷ cs) false)) l o o a (at + length (encode_utf8 c)) cs (59 ∷ []) found
    (goes_names (λ name starts. mk (reference.Entity name starts)) o
    (λ name p d starts. goes (reference.Entity name true) (reference.Entity (name ++ d ∷ []) false) p d (rw starts refl))
    (λ name p d is_char. goes (reference.Entity name false) (reference.Entity (name ++ d ∷ []) false) p d (rw is_char refl))
    (λ name p. goes (reference.Entity name false) (reference.Entity (name ++ 58 ∷ []) true) p 58 refl)
    cs (c ∷ []) false (at + length (encode_utf8 c)) parts.1)
    (ends_reference mk o last around place done (reference.Entity (c ∷ cs) false) (entity_char (c ∷ cs)) (at + length (encode_utf8 c) + length (encode_utf8_all cs)) refl))
reference_goes mk o last around place goes done (Decimal []) q at is lawful = absurd cc
reference_goes mk o last around place goes done (Decimal (c ∷ cs)) q at is lawful =
    let parts = and_parts (is_digit c) (list_all is_digit cs) lawful in
    let first = goes reference.Begun reference.Number at 35 refl in
    let now = goes reference.Number (reference.Decimal (number_step 10 0 c)) (at + 1) c (rw parts.0 refl) in
    let n = fold (number_step 10) (number_step 10 0 c) cs in
    let d = char_at (number_of 10 (c ∷ cs)) in
    let found = if_found (is_none d) kind.Entity place in
    let value : reference_step (reference.Decimal n) 59 ≡ Some (stepped.Done d) = ap (λ z. Some (stepped.Done z)) (number_read 10 c cs (omega arith)) in
    goes_before (mk reference.Begun) (mk reference.Number) (last d) o o (around d) at 35 (c ∷ (cs ++ 59 ∷ [])) found first.0 first.1
    (goes_before (mk reference.Number) (mk (reference.Decimal (number_step 10 0 c))) (last d) o o (around d) (at + 1) c (cs ++ 59 ∷ []) found now.0 now.1
    (goes_over (mk (reference.Decimal (number_step 10 0 c))) (mk (reference.Decimal n)) (last d) o o (around d) (at + 1 + length (encode_utf8 c)) cs (59 ∷ []) found
    (goes_digits mk o goes 10 (λ k. reference.Decimal k) is_digit (λ k e is_number. rw is_number refl) cs (number_step 10 0 c) (at + 1 + length (encode_utf8 c)) parts.1)
    (ends_reference mk o last around place done (reference.Decimal n) d (at + 1 + length (encode_utf8 c) + length (encode_utf8_all cs)) value)))
reference_goes mk o last around place goes done (Hexadecimal []) q at is lawful = absurd cc
reference_goes mk o last around place goes done (Hexadecimal (c ∷ cs)) q at is lawful =
    let parts = and_parts (is_hexadecimal c) (list_all is_hexadecimal cs) lawful in
    let first = goes reference.Begun reference.Number at 35 refl in
    let second = goes reference.Number reference.HexadecimalBegun (at + 1) 120 refl in
    let now = goes reference.HexadecimalBegun (reference.Hexadecimal (number_step 16 0 c)) (at + 1 + 1) c (rw parts.0 refl) in
    let n = fold (number_step 16) (number_step 16 0 c) cs in
    let d = char_at (number_of 16 (c ∷ cs)) in
    let found = if_found (is_none d) kind.Entity place in
    let value : reference_step (reference.Hexadecimal n) 59 ≡ Some (stepped.Done d) = ap (λ z. Some (stepped.Done z)) (number_read 16 c cs (omega arith)) in
    goes_before (mk reference.Begun) (mk reference.Number) (last d) o o (around d) at 35 (120 ∷ c ∷ (cs ++ 59 ∷ [])) found first.0 first.1
    (goes_before (mk reference.Number) (mk reference.HexadecimalBegun) (last d) o o (around d) (at + 1) 120 (c ∷ (cs ++ 59 ∷ [])) found second.0 second.1
    (goes_before (mk reference.HexadecimalBegun) (mk (reference.Hexadecimal (number_step 16 0 c))) (last d) o o (around d) (at + 1 + 1) c (cs ++ 59 ∷ []) found now.0 now.1
    (goes_over (mk (reference.Hexadecimal (number_step 16 0 c))) (mk (reference.Hexadecimal n)) (last d) o o (around d) (at + 1 + 1 + length (encode_utf8 c)) cs (59 ∷ []) found
    (goes_digits mk o goes 16 (λ k. reference.Hexadecimal k) is_hexadecimal (λ k e is_number. rw is_number refl) cs (number_step 16 0 c) (at + 1 + 1 + length (encode_utf8 c)) parts.1)
    (ends_reference mk o last around place done (reference.Hexadecimal n) d (at + 1 + 1 + length (encode_utf8 c) + length (encode_utf8_all cs)) value))))

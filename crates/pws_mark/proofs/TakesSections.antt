-- The reader takes a CDATA section.
use Rattle.std.proofs.Common.{◌≡◌, ℕ, zero, suc, ◌+◌, ◌-◌, ◌<◌, Bool, true, false, not, ◌&&◌, List, [], ◌∷◌, ◌++◌, replicate, length, refl, ap, subst, sym, arith, length-append, Some}
use Rattle.std.specs.Prelude.{◌==◌, nat_eq, encode_utf8, encode_utf8_all}
use Rattle.std.specs.List.{list_all, starts_with}
use Rattle.std.proofs.lemmas.Bool.{and_parts, or_parts, not-true, eqb-true}
use lib.Utf8.{encode}
use Rattle.pws_tree.specs.Characters.{is_xml_char, xml_ranges, name_start_ranges}
use Rattle.pws_mark.specs.Documents.{section_start, section_end}
use Rattle.pws_mark.specs.Noted.{finds, noted}
use Rattle.pws_mark.specs.Scan.{next, run, region, text_bytes, stays, content_step, opened_step, bang_step, section_word, brackets_taken}
use Rattle.pws_mark.specs.States.{Outer, taken}
use Rattle.pws_mark.specs.TokenLaws.{Goes, state, all_taken, SectionsAreTaken}
use Rattle.pws_mark.specs.Tokens.{has_within}
use Rattle.pws_mark.specs.declared.modes.Mode.TheVariants as mode
use Rattle.pws_mark.specs.declared.modes.Region.TheVariants as region_is
use Rattle.pws_mark.proofs.Going.{goes_on_to, goes_at, goes_once}

section_word_goes : (o : Outer) (at : ℕ) → Goes (state at (mode.SectionWord 0) o) (67 ∷ 68 ∷ 65 ∷ 84 ∷ 65 ∷ 91 ∷ []) (state (at + 6) (mode.Section 0 false) o) []
unfolding next finds encode section_word run noted
section_word_goes o at = record { runs = ap (λ p. Some (state p (mode.Section 0 false) o)) six; notes = refl }
  where
    six : at + 1 + 1 + 1 + 1 + 1 + 1 ≡ at + 6
    six = omega arith

section_begins : (o : Outer) (at n : ℕ) (after_return : Bool) → region o ≡ region_is.Inside → Goes (state at (mode.Content n after_return) o) section_start (state (at + 9) (mode.Section 0 false) o) []
unfolding next finds encode section_start name_start_ranges xml_ranges
section_begins o at n after_return inside =
    goes_at (state at (mode.Content n after_return) o) section_start (mode.Section 0 false) o [] (at + 1 + 1 + 1 + 6) (at + 9) (omega arith)
    (goes_on_to _ _ _ (60 ∷ []) (33 ∷ 91 ∷ 67 ∷ 68 ∷ 65 ∷ 84 ∷ 65 ∷ 91 ∷ []) [] [] (goes_once (mode.Content n after_return) (mode.Opened at) o o at 60 [] (ap (λ r. content_step r o at n after_return 60) inside) refl)
    (goes_on_to _ _ _ (33 ∷ []) (91 ∷ 67 ∷ 68 ∷ 65 ∷ 84 ∷ 65 ∷ 91 ∷ []) [] [] (goes_once (mode.Opened at) mode.Bang o o (at + 1) 33 [] (ap (λ r. stays o (opened_step r at 33)) inside) refl)
    (goes_on_to _ _ _ (91 ∷ []) (67 ∷ 68 ∷ 65 ∷ 84 ∷ 65 ∷ 91 ∷ []) [] [] (goes_once mode.Bang (mode.SectionWord 0) o o (at + 1 + 1) 91 [] (ap (λ r. stays o (bang_step r 91)) inside) refl)
    (section_word_goes o (at + 1 + 1 + 1)))))

-- behind brackets that stand there, the section ends
section_ends : (o : Outer) (at n : ℕ) (after_return : Bool) → n < 3 → Goes (state at (mode.Section n after_return) o) section_end (state (at + 3) (mode.Content 0 false) (brackets_taken o at n)) []
unfolding next finds encode section_end run noted
section_ends o at zero after_return few = record { runs = ap (λ p. Some (state p (mode.Content 0 false) o)) three; notes = refl }
  where
    three : at + 1 + 1 + 1 ≡ at + 3
    three = omega arith
section_ends o at (suc zero) after_return few = record { runs = rw (three, before) refl; notes = refl }
  where
    three : at + 1 + 1 + 1 ≡ at + 3
    three = omega arith

    before : at + 1 - 2 ≡ at - 1
    before = omega arith
section_ends o at (suc (suc zero)) after_return few = record { runs = rw (three, before) refl; notes = refl }
  where
    three : at + 1 + 1 + 1 ≡ at + 3
    three = omega arith

    before : at + 1 - 2 ≡ at - 1
    before = omega arith
section_ends o at (suc (suc (suc n))) after_return few = absurd (omega arith)

-- what is around after a character of the section, where so many brackets stand before it
abbrev pub behind_char : Outer → ℕ → ℕ → Bool → ℕ → Outer
behind_char o at n after_return c = taken (brackets_taken o at n) at (Some c) (text_bytes (n == 0 && after_return) c)

-- another character than a bracket
section_takes : (o : Outer) (at n c : ℕ) (after_return : Bool) → is_xml_char c ≡ true → (c == 93) ≡ false → (n == 2 && c == 62) ≡ false →
    Goes (state at (mode.Section n after_return) o) (c ∷ []) (state (at + length (encode_utf8 c)) (mode.Section 0 (c == 13)) (behind_char o at n after_return c)) []
unfolding next finds
section_takes o at n c after_return xml other free = goes_once (mode.Section n after_return) (mode.Section 0 (c == 13)) o (behind_char o at n after_return c) at c [] (rw (other, free, xml) refl) refl

-- a further bracket
one_more : (o : Outer) (at : ℕ) (after_return : Bool) → Goes (state at (mode.Section 0 after_return) o) (93 ∷ []) (state (at + 1) (mode.Section 1 after_return) o) []
unfolding next finds encode
one_more o at after_return = goes_once (mode.Section 0 after_return) (mode.Section 1 after_return) o o at 93 [] refl refl

two_more : (o : Outer) (at : ℕ) (after_return : Bool) → Goes (state at (mode.Section 1 after_return) o) (93 ∷ []) (state (at + 1) (mode.Section 2 after_return) o) []
unfolding next finds encode
two_more o at after_return = goes_once (mode.Section 1 after_return) (mode.Section 2 after_return) o o at 93 [] refl refl

three_more : (o : Outer) (at : ℕ) (after_return : Bool) → Goes (state at (mode.Section 2 after_return) o) (93 ∷ []) (state (at + 1) (mode.Section 2 false) (taken o (at - 2) (Some 93) (93 ∷ []))) []
unfolding next finds encode
three_more o at after_return = goes_once (mode.Section 2 after_return) (mode.Section 2 false) o (taken o (at - 2) (Some 93) (93 ∷ [])) at 93 [] refl refl

-- what was pending is what the characters give
one_pending : (o : Outer) (at : ℕ) (after_return : Bool) (cs : List ℕ) → all_taken (brackets_taken o (at + 1) 1) (at + 1) false cs ≡ all_taken o at after_return (93 ∷ cs)
unfolding encode
one_pending o at true cs = ap (λ p. all_taken (taken o p (Some 93) (93 ∷ [])) (at + 1) false cs) same
  where
    same : at + 1 - 1 ≡ at
    same = omega arith
one_pending o at false cs = ap (λ p. all_taken (taken o p (Some 93) (93 ∷ [])) (at + 1) false cs) same
  where
    same : at + 1 - 1 ≡ at
    same = omega arith

two_pending : (o : Outer) (at : ℕ) (cs : List ℕ) → all_taken (brackets_taken o (at + 1) 2) (at + 1) false cs ≡ all_taken (brackets_taken o at 1) at false (93 ∷ cs)
unfolding encode
two_pending o at cs = rw (same, before) refl
  where
    same : at + 1 - 1 ≡ at
    same = omega arith

    before : at + 1 - 2 ≡ at - 1
    before = omega arith

three_pending : (o : Outer) (at : ℕ) (cs : List ℕ) → all_taken (brackets_taken (taken o (at - 2) (Some 93) (93 ∷ [])) (at + 1) 2) (at + 1) false cs ≡ all_taken (brackets_taken o at 2) at false (93 ∷ cs)
unfolding encode
three_pending o at cs = rw (same, before) refl
  where
    same : at + 1 - 1 ≡ at
    same = omega arith

    before : at + 1 - 2 ≡ at - 1
    before = omega arith

-- these characters are taken, and the section ends behind them
abbrev SectionGoes : List ℕ → Outer → ℕ → ℕ → Bool → Type 0
SectionGoes cs o at n after_return = Goes (state at (mode.Section n after_return) o) (cs ++ section_end) (state (at + (length (encode_utf8_all cs) + 3)) (mode.Content 0 false) (all_taken (brackets_taken o at n) at (n == 0 && after_return) cs)) []

abbrev SectionsGo : List ℕ → Type 0
SectionsGo cs = (o : Outer) (at n : ℕ) (after_return : Bool) → n < 3 → has_within section_end (replicate n 93 ++ cs) ≡ false → SectionGoes cs o at n after_return

-- behind one character
abbrev Behind : ℕ → List ℕ → Outer → ℕ → ℕ → Bool → Outer → Type 0
Behind c cs o at n after_return last = Goes (state at (mode.Section n after_return) o) (c ∷ (cs ++ section_end)) (state (at + length (encode_utf8 c) + (length (encode_utf8_all cs) + 3)) (mode.Content 0 false) last) []

bracket_first : (cs : List ℕ) → SectionsGo cs → (o : Outer) (at n : ℕ) (after_return : Bool) → n < 3 → has_within section_end (replicate n 93 ++ (93 ∷ cs)) ≡ false → Behind 93 cs o at n after_return (all_taken (brackets_taken o at n) at (n == 0 && after_return) (93 ∷ cs))
unfolding section_end encode
bracket_first cs again o at zero after_return few none =
    subst (λ z. Behind 93 cs o at 0 after_return z) (one_pending o at after_return cs)
    (goes_on_to _ _ _ (93 ∷ []) (cs ++ section_end) [] [] (one_more o at after_return) (again o (at + 1) 1 after_return (omega arith) none))
bracket_first cs again o at (suc zero) after_return few none =
    subst (λ z. Behind 93 cs o at 1 after_return z) (two_pending o at cs)
    (goes_on_to _ _ _ (93 ∷ []) (cs ++ section_end) [] [] (two_more o at after_return) (again o (at + 1) 2 after_return (omega arith) none))
bracket_first cs again o at (suc (suc zero)) after_return few none =
    subst (λ z. Behind 93 cs o at 2 after_return z) (three_pending o at cs)
    (goes_on_to _ _ _ (93 ∷ []) (cs ++ section_end) [] [] (three_more o at after_return) (again (taken o (at - 2) (Some 93) (93 ∷ [])) (at + 1) 2 false (omega arith) none))
bracket_first cs again o at (suc (suc (suc n))) after_return few none = absurd (omega arith)

past : (c : ℕ) (cs : List ℕ) → has_within section_end (c ∷ cs) ≡ false → has_within section_end cs ≡ false
past c cs none = (or_parts (starts_with nat_eq (c ∷ cs) section_end) (has_within section_end cs) none).1

-- the brackets before it are behind
behind_brackets : (c : ℕ) (cs : List ℕ) (n : ℕ) → n < 3 → has_within section_end (replicate n 93 ++ (c ∷ cs)) ≡ false → has_within section_end cs ≡ false
unfolding section_end
behind_brackets c cs zero few none = past c cs none
behind_brackets c cs (suc zero) few none = past c cs (past 93 (c ∷ cs) none)
behind_brackets c cs (suc (suc zero)) few none = past c cs (past 93 (c ∷ cs) (past 93 (93 ∷ c ∷ cs) none))
behind_brackets c cs (suc (suc (suc n))) few none = absurd (omega arith)

is_no_end : (c : ℕ) (cs : List ℕ) (n : ℕ) → n < 3 → has_within section_end (replicate n 93 ++ (c ∷ cs)) ≡ false → (n == 2 && c == 62) ≡ false
unfolding section_end
is_no_end c cs zero few none = refl
is_no_end c cs (suc zero) few none = refl
is_no_end c cs (suc (suc zero)) few none = by (c == 62) (eqb-true c 62)
  where
    by : (b : Bool) → (b ≡ true → c ≡ 62) → b ≡ false
    by false same = refl
    by true same = let bad : has_within section_end (93 ∷ 93 ∷ 62 ∷ cs) ≡ false = subst (λ d. has_within section_end (93 ∷ 93 ∷ d ∷ cs) ≡ false) (same refl) none in absurd cc
is_no_end c cs (suc (suc (suc n))) few none = absurd (omega arith)

other_first : (c : ℕ) (cs : List ℕ) → SectionsGo cs → (o : Outer) (at n : ℕ) (after_return : Bool) → n < 3 → is_xml_char c ≡ true → (c == 93) ≡ false → has_within section_end (replicate n 93 ++ (c ∷ cs)) ≡ false → Behind c cs o at n after_return (all_taken (brackets_taken o at n) at (n == 0 && after_return) (c ∷ cs))
other_first c cs again o at n after_return few xml no_bracket none =
    goes_on_to _ _ _ (c ∷ []) (cs ++ section_end) [] [] (section_takes o at n c after_return xml no_bracket (is_no_end c cs n few none))
    (again (behind_char o at n after_return c) (at + length (encode_utf8 c)) 0 (c == 13) (omega arith) (behind_brackets c cs n few none))

section_goes : (cs : List ℕ) → list_all is_xml_char cs ≡ true → SectionsGo cs
section_goes [] xml o at n after_return few none =
    goes_at (state at (mode.Section n after_return) o) section_end (mode.Content 0 false) (brackets_taken o at n) [] (at + 3) (at + (0 + 3)) (omega arith) (section_ends o at n after_return few)
section_goes (c ∷ cs) xml o at n after_return few none =
    let parts = and_parts (is_xml_char c) (list_all is_xml_char cs) xml in
    goes_at (state at (mode.Section n after_return) o) (c ∷ (cs ++ section_end)) (mode.Content 0 false) (all_taken (brackets_taken o at n) at (n == 0 && after_return) (c ∷ cs)) [] (at + length (encode_utf8 c) + (length (encode_utf8_all cs) + 3)) (at + (length (encode_utf8 c ++ encode_utf8_all cs) + 3))
    (omega (arith, length-append (encode_utf8 c) (encode_utf8_all cs)))
    (by (c == 93) refl (section_goes cs parts.1) parts.0)
  where
    by : (b : Bool) → (c == 93) ≡ b → SectionsGo cs → is_xml_char c ≡ true → Behind c cs o at n after_return (all_taken (brackets_taken o at n) at (n == 0 && after_return) (c ∷ cs))
    by true is again is_char =
        let same : c ≡ 93 = eqb-true c 93 is in
        let none_there : has_within section_end (replicate n 93 ++ (93 ∷ cs)) ≡ false = subst (λ d. has_within section_end (replicate n 93 ++ (d ∷ cs)) ≡ false) same none in
        subst (λ d. Behind d cs o at n after_return (all_taken (brackets_taken o at n) at (n == 0 && after_return) (d ∷ cs))) (sym same) (bracket_first cs again o at n after_return few none_there)
    by false is again is_char = other_first c cs again o at n after_return few is_char is none

begun : (o : Outer) (at : ℕ) (cs : List ℕ) → SectionGoes cs o (at + 9) 0 false → Goes (state (at + 9) (mode.Section 0 false) o) (cs ++ section_end) (state (at + 9 + (length (encode_utf8_all cs) + 3)) (mode.Content 0 false) (all_taken o (at + length section_start) false cs)) []
unfolding section_start
begun o at cs h = h

long : (at : ℕ) (bytes : List ℕ) → at + 9 + (length bytes + 3) ≡ at + length (section_start ++ (bytes ++ section_end))
unfolding section_start section_end
long at bytes = omega (arith, length-append bytes (93 ∷ 93 ∷ 62 ∷ []))

pub sections_are_taken : SectionsAreTaken
sections_are_taken o at n after_return chars inside lawful =
    let parts = and_parts (list_all is_xml_char chars) (not (has_within section_end chars)) lawful in
    goes_at (state at (mode.Content n after_return) o) (section_start ++ (chars ++ section_end)) (mode.Content 0 false) (all_taken o (at + length section_start) false chars) [] (at + 9 + (length (encode_utf8_all chars) + 3)) (at + length (section_start ++ (encode_utf8_all chars ++ section_end)))
    (long at (encode_utf8_all chars))
    (goes_on_to _ _ _ section_start (chars ++ section_end) [] [] (section_begins o at n after_return inside) (begun o at chars (section_goes chars parts.0 o (at + 9) 0 false (omega arith) (not-true _ parts.1))))

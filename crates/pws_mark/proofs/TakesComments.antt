-- The reader takes a comment.
use Rattle.std.proofs.Common.{◌≡◌, ℕ, zero, suc, ◌+◌, ◌<◌, replicate, ◌==◌, Bool, true, false, not, List, [], ◌∷◌, ◌++◌, length, refl, ap, subst, arith, length-append, Some}
use Rattle.std.specs.Prelude.{encode_utf8, encode_utf8_all, if◌then◌else◌, nat_eq}
use Rattle.std.specs.List.{list_all, starts_with}
use Rattle.std.proofs.lemmas.Bool.{eqb-true, or_parts, and_parts, not-true}
use lib.Utf8.{encode}
use Rattle.pws_tree.specs.Characters.{is_xml_char, xml_ranges, name_start_ranges}
use Rattle.pws_mark.specs.Documents.{comment_start, comment_end}
use Rattle.pws_mark.specs.Noted.{noted, finds}
use Rattle.pws_mark.specs.Scan.{run, next, marks_after}
use Rattle.pws_mark.specs.States.{Open, Outer}
use Rattle.pws_mark.specs.TokenLaws.{Goes, state, CommentsAreTaken}
use Rattle.pws_mark.specs.Tokens.{has_within}
use Rattle.pws_mark.specs.declared.modes.Mode.TheVariants as mode
use Rattle.pws_mark.proofs.Going.{goes_on_to, goes_at}

-- a comment is begun
comment_begins : (o : Outer) (at n : ℕ) (after_return : Bool) → Goes (state at (mode.Content n after_return) o) comment_start (state (at + 4) (mode.Comment 0) o) []
unfolding next finds comment_start name_start_ranges xml_ranges run noted encode
comment_begins o at n after_return = by o.opens o.behind
  where
    four : at + 1 + 1 + 1 + 1 ≡ at + 4
    four = omega arith

    by : (opens : List Open) (behind : Bool) → Goes (state at (mode.Content n after_return) (record { opens = opens; behind = behind; events = o.events; text = o.text })) comment_start (state (at + 4) (mode.Comment 0) (record { opens = opens; behind = behind; events = o.events; text = o.text })) []
    by [] false = record { runs = ap (λ p. Some (state p (mode.Comment 0) (record { opens = []; behind = false; events = o.events; text = o.text }))) four; notes = refl }
    by [] true = record { runs = ap (λ p. Some (state p (mode.Comment 0) (record { opens = []; behind = true; events = o.events; text = o.text }))) four; notes = refl }
    by (x ∷ xs) behind = record { runs = ap (λ p. Some (state p (mode.Comment 0) (record { opens = x ∷ xs; behind = behind; events = o.events; text = o.text }))) four; notes = refl }

comment_ends : (o : Outer) (at : ℕ) → Goes (state at (mode.Comment 0) o) comment_end (state (at + 3) (mode.Content 0 false) o) []
unfolding next finds comment_end xml_ranges run noted encode
comment_ends o at = record { runs = ap (λ p. Some (state p (mode.Content 0 false) o)) three; notes = refl }
  where
    three : at + 1 + 1 + 1 ≡ at + 3
    three = omega arith

-- a character within a comment
comment_goes : (o : Outer) (at n c : ℕ) → n < 2 → is_xml_char c ≡ true → Goes (state at (mode.Comment n) o) (c ∷ []) (state (at + length (encode_utf8 c)) (mode.Comment (marks_after 45 n c)) o) []
unfolding next finds run noted
comment_goes o at zero c small xml = record { runs = rw xml refl; notes = rw xml refl }
comment_goes o at (suc zero) c small xml = record { runs = rw xml refl; notes = rw xml refl }
comment_goes o at (suc (suc n)) c small xml = absurd (omega arith)

after_mark : (n c : ℕ) (rest : List ℕ) → n < 2 → has_within (45 ∷ 45 ∷ []) (replicate n 45 ++ (c ∷ rest)) ≡ false → (marks_after 45 n c < 2) × (has_within (45 ∷ 45 ∷ []) (replicate (marks_after 45 n c) 45 ++ rest) ≡ false)
after_mark zero c rest small none = by (c == 45) (eqb-true c 45)
  where
    by : (b : Bool) → (b ≡ true → c ≡ 45) → ((if b then 1 else 0) < 2) × (has_within (45 ∷ 45 ∷ []) (replicate (if b then 1 else 0) 45 ++ rest) ≡ false)
    by true same = (omega arith, subst (λ d. has_within (45 ∷ 45 ∷ []) (d ∷ rest) ≡ false) (same refl) none)
    by false same = (omega arith, (or_parts _ _ none).1)
after_mark (suc zero) c rest small none = by (c == 45) (eqb-true c 45) (or_parts (starts_with nat_eq (45 ∷ c ∷ rest) (45 ∷ 45 ∷ [])) (has_within (45 ∷ 45 ∷ []) (c ∷ rest)) none)
  where
    by : (b : Bool) → (b ≡ true → c ≡ 45) → (starts_with nat_eq (45 ∷ c ∷ rest) (45 ∷ 45 ∷ []) ≡ false) × (has_within (45 ∷ 45 ∷ []) (c ∷ rest) ≡ false) → ((if b then 2 else 0) < 2) × (has_within (45 ∷ 45 ∷ []) (replicate (if b then 2 else 0) 45 ++ rest) ≡ false)
    by true same parts = let bad : starts_with nat_eq (45 ∷ 45 ∷ rest) (45 ∷ 45 ∷ []) ≡ false = subst (λ d. starts_with nat_eq (45 ∷ d ∷ rest) (45 ∷ 45 ∷ []) ≡ false) (same refl) parts.0 in absurd cc
    by false same parts = (omega arith, (or_parts _ _ parts.1).1)
after_mark (suc (suc n)) c rest small none = absurd (omega arith)

goes_through : (o : Outer) (cs : List ℕ) (at n : ℕ) → n < 2 → list_all is_xml_char cs ≡ true → has_within (45 ∷ 45 ∷ []) (replicate n 45 ++ (cs ++ 45 ∷ [])) ≡ false →
    Goes (state at (mode.Comment n) o) (cs ++ comment_end) (state (at + (length (encode_utf8_all cs) + 3)) (mode.Content 0 false) o) []
goes_through o [] at zero small xml none = goes_at (state at (mode.Comment 0) o) comment_end (mode.Content 0 false) o [] (at + 3) (at + (0 + 3)) (omega arith) (comment_ends o at)
goes_through o [] at (suc zero) small xml none = absurd cc
goes_through o [] at (suc (suc n)) small xml none = absurd (omega arith)
goes_through o (c ∷ cs) at n small xml none =
    let parts : (is_xml_char c ≡ true) × (list_all is_xml_char cs ≡ true) = and_parts (is_xml_char c) (list_all is_xml_char cs) xml in
    let next = after_mark n c (cs ++ 45 ∷ []) small none in
    goes_at (state at (mode.Comment n) o) (c ∷ (cs ++ comment_end)) (mode.Content 0 false) o [] (at + length (encode_utf8 c) + (length (encode_utf8_all cs) + 3)) (at + (length (encode_utf8 c ++ encode_utf8_all cs) + 3))
    (omega (arith, length-append (encode_utf8 c) (encode_utf8_all cs)))
    (goes_on_to _ _ _ (c ∷ []) (cs ++ comment_end) [] [] (comment_goes o at n c small parts.0) (goes_through o cs (at + length (encode_utf8 c)) (marks_after 45 n c) next.0 parts.1 next.1))

long : (at : ℕ) (bytes : List ℕ) → at + 4 + (length bytes + 3) ≡ at + length (comment_start ++ (bytes ++ comment_end))
unfolding comment_start comment_end
long at bytes = omega (arith, length-append bytes comment_end)

pub comments_are_taken : CommentsAreTaken
comments_are_taken o at n after_return chars lawful =
    let parts = and_parts (list_all is_xml_char chars) (not (has_within (45 ∷ 45 ∷ []) (chars ++ 45 ∷ []))) lawful in
    goes_at (state at (mode.Content n after_return) o) (comment_start ++ (chars ++ comment_end)) (mode.Content 0 false) o [] (at + 4 + (length (encode_utf8_all chars) + 3)) (at + length (comment_start ++ (encode_utf8_all chars ++ comment_end)))
    (long at (encode_utf8_all chars))
    (goes_on_to _ _ _ comment_start (chars ++ comment_end) [] [] (comment_begins o at n after_return) (goes_through o chars (at + 4) 0 (omega arith) parts.0 (not-true _ parts.1)))

-- The lines of a text, one at a time.
use Rattle.std.proofs.Common.{◌≡◌, ℕ, suc, ◌+◌, ◌-◌, ◌<◌, ◌≤◌, ◌==◌, false, inl, inr, List, [], ◌∷◌, length, take, drop, Option, Some, None, refl, sym, ◌∙◌, arith, ltb}
use Rattle.std.specs.List.{position, position_or_len, onto_first}
use Rattle.std.proofs.lemmas.Bool.{ltb-true, ltb-false, cases_Bool, cond_both, ne_eqb}
use Rattle.std.proofs.lemmas.List.{take_rest}
use Rattle.std.proofs.lemmas.List.Elements.{All-from_get_or}
use Rattle.std.proofs.lemmas.List.Splits.{length-slice_split, slice_split_none, slice_split_first}
use Rattle.std.proofs.lemmas.List.Sums.{fails_before_first}
use Rattle.std.proofs.lemmas.Option.{cond_some}
use Rattle.pws_sched.specs.FirstForm.{is_line_feed, lines_of, is_last}

-- a text with no line feed is its one piece
pub lines_of_none : (text : List ℕ) → position is_line_feed text ≡ None → lines_of text ≡ text ∷ []
lines_of_none text none =
    elim (cases_Bool (ltb (position_or_len is_line_feed text) (length text))) [
      | inl below ↦
          let some : position is_line_feed text ≡ Some (position_or_len is_line_feed text) = rw below refl in
          let clash : ◌≡◌ {A = Option ℕ} None (Some (position_or_len is_line_feed text)) = sym none ∙ some in
          cc
      | inr past ↦
          let whole : length text ≤ position_or_len is_line_feed text = ltb-false _ _ past in
          slice_split_none is_line_feed text (All-from_get_or (λ b. is_line_feed b ≡ false) text 0 (λ i h. fails_before_first is_line_feed text i 0 (omega arith)))
    ]

-- the first piece ends before the first line feed, and the others follow it
pub lines_of_some : (text : List ℕ) (at : ℕ) → position is_line_feed text ≡ Some at → lines_of text ≡ take at text ∷ lines_of (drop (at + 1) text)
lines_of_some text at some =
    let found = cond_some (ltb (position_or_len is_line_feed text) (length text)) (position_or_len is_line_feed text) at some in
    let here = found.1 in
    rw here at (slice_split_first is_line_feed text 0 (ltb-true _ _ found.0))

-- the same, as the code cuts the rest
pub lines_of_cut : (text : List ℕ) (at : ℕ) → position is_line_feed text ≡ Some at → lines_of text ≡ take at text ∷ lines_of (take (length text - (at + 1)) (drop (at + 1) text))
lines_of_cut text at some = rw (take_rest text (at + 1)) (lines_of_some text at some)

-- pieces with one more byte at their front aren't the end of a text
is_last_onto_first : (byte : ℕ) (pieces : List (List ℕ)) → is_last (onto_first byte pieces) ≡ false
is_last_onto_first byte [] = ne_eqb 1 0 (λ e. omega arith)
is_last_onto_first byte (piece ∷ []) = ne_eqb (suc (length piece)) 0 (λ e. omega arith)
is_last_onto_first byte (piece ∷ other ∷ pieces) = refl

-- nor is an empty piece before others
is_last_more : (pieces : List (List ℕ)) → 0 < length pieces → is_last ([] ∷ pieces) ≡ false
is_last_more [] some = absurd (omega arith)
is_last_more (piece ∷ pieces) some = refl

-- only the end of a text follows where nothing does
pub is_last_lines_of : (text : List ℕ) → is_last (lines_of text) ≡ (length text == 0)
is_last_lines_of [] = refl
is_last_lines_of (byte ∷ text) =
    let full = ne_eqb (suc (length text)) 0 (λ e. omega arith) in
    rw full (cond_both (is_line_feed byte) ([] ∷ lines_of text) (onto_first byte (lines_of text)) (λ pieces. is_last pieces ≡ false) (λ e. is_last_more (lines_of text) (omega (arith, length-slice_split is_line_feed text))) (λ e. is_last_onto_first byte (lines_of text)))

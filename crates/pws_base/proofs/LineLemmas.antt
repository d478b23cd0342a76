-- The lines of a text, one after the other.
use Rattle.std.proofs.Common.{◌≡◌, ℕ, ◌+◌, ◌-◌, ◌<◌, ◌==◌, Bool, true, false, cond, nat_lt, List, [], ◌∷◌, length, take, drop, Some, None, refl, sym, ◌∙◌, ap, arith, length-drop}
use Rattle.std.proofs.Math.Seq.{take-length}
use Rattle.std.specs.List.{slice_split, position, position_from, position_or_len}
use Rattle.std.proofs.lemmas.List.Splits.{slice_split_first, length-slice_split}
use Rattle.std.proofs.lemmas.Iterator.Adapters.{position_from-zero}
use Rattle.std.proofs.lemmas.Bool.Decides.{nat_tests}
use Rattle.pws_base.specs.Lines.{lines_from, lines_of}

none_from : (text : List ℕ) → length text ≡ 0 → lines_of text ≡ []
unfolding lines_of
none_from [] e = refl
none_from (x ∷ xs) e = absurd (omega (arith, e))

-- an empty text has no line
pub lines_none : (text : List ℕ) → (length text == 0) ≡ true → lines_of text ≡ []
lines_none text e = none_from text (grind (arith, nat_tests, e))

found : (l : Bool) (n at : ℕ) → cond l (Some n) None ≡ Some at → (l ≡ true) × (n ≡ at)
found true n at e = (refl, cc)
found false n at e = absurd (cc)

-- where an element is found, and what stands before it and after it
pub record Cut (p : ℕ → Bool) (xs : List ℕ) (at : ℕ) : Type 0 where
  pub place : position_or_len p xs ≡ at
  pub inside : position_or_len p xs < length xs

pub cut_at : (p : ℕ → Bool) (xs : List ℕ) (at : ℕ) → position p xs ≡ Some at → Cut p xs at
cut_at p xs at e =
    let f = found (nat_lt (position_or_len p xs) (length xs)) (position_or_len p xs) at e in
    record { place = f.1; inside = grind (arith, nat_tests, f.0) }

pub split_cut : (p : ℕ → Bool) (xs : List ℕ) (at : ℕ) → position p xs ≡ Some at → slice_split p xs ≡ take at xs ∷ slice_split p (drop (at + 1) xs)
split_cut p xs at e =
    let c = cut_at p xs at e in
    slice_split_first p xs 0 c.inside ∙ ap (λ n. take n xs ∷ slice_split p (drop (n + 1) xs)) c.place

at_first : (p : ℕ → Bool) (i : ℕ) (x : ℕ) (xs : List ℕ) (b : Bool) → p x ≡ b → cond b (Some i) (position_from p (i + 1) xs) ≡ None → (position_from p (i + 1) xs ≡ None → slice_split p xs ≡ xs ∷ []) → slice_split p (x ∷ xs) ≡ (x ∷ xs) ∷ []
at_first p i x xs true t h k = absurd (cc)
at_first p i x xs false t h k = rw (t, k h) refl

whole_from : (p : ℕ → Bool) (i : ℕ) (xs : List ℕ) → position_from p i xs ≡ None → slice_split p xs ≡ xs ∷ []
whole_from p i [] e = refl
whole_from p i (x ∷ xs) e = at_first p i x xs (p x) refl e (whole_from p (i + 1) xs)

pub split_whole : (p : ℕ → Bool) (xs : List ℕ) → position p xs ≡ None → slice_split p xs ≡ xs ∷ []
split_whole p xs e = whole_from p 0 xs (sym (position_from-zero p xs) ∙ e)

pub lines_more : (bytes : List ℕ) (pieces : List (List ℕ)) → 0 < length pieces → lines_from (bytes ∷ pieces) ≡ record { bytes = bytes; ended = true } ∷ lines_from pieces
lines_more bytes [] h = absurd (omega (arith, h))
lines_more bytes (piece ∷ pieces) h = refl

-- the first line ends at the first line feed
pub lines_cut : (text : List ℕ) (at : ℕ) → position (λ b. b == 10) text ≡ Some at → lines_of text ≡ record { bytes = take at text; ended = true } ∷ lines_of (drop (at + 1) text)
unfolding lines_of
lines_cut text at e =
    let pieces = slice_split (λ b. b == 10) (drop (at + 1) text) in
    let some : 0 < length pieces = omega (arith, length-slice_split (λ b. b == 10) (drop (at + 1) text)) in
    ap lines_from (split_cut (λ b. b == 10) text at e) ∙ lines_more (take at text) pieces some

from_place : (at : ℕ) (text : List ℕ) → take (length text - at) (drop at text) ≡ drop at text
from_place at text = rw (← length-drop at text) (take-length (drop at text))

pub lines_cut_part : (text : List ℕ) (at : ℕ) → position (λ b. b == 10) text ≡ Some at → lines_of text ≡ record { bytes = take at text; ended = true } ∷ lines_of (take (length text - (at + 1)) (drop (at + 1) text))
lines_cut_part text at e = rw from_place (lines_cut text at e)

last_line : (text : List ℕ) → (length text == 0) ≡ false → lines_from (text ∷ []) ≡ record { bytes = text; ended = false } ∷ lines_of []
unfolding lines_of
last_line text h = rw h refl

split_line : (text : List ℕ) → position (λ b. b == 10) text ≡ None → lines_of text ≡ lines_from (text ∷ [])
unfolding lines_of
split_line text e = ap lines_from (split_whole (λ b. b == 10) text e)

-- without a line feed the text is one line
pub lines_last : (text : List ℕ) → position (λ b. b == 10) text ≡ None → (length text == 0) ≡ false → lines_of text ≡ record { bytes = text; ended = false } ∷ lines_of []
lines_last text e h = split_line text e ∙ last_line text h

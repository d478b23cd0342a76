-- What is known of the pieces between separators.
use Rattle.std.proofs.Common.{◌≡◌, ℕ, ◌==◌, ◌&&◌, not, Bool, true, false, cond, List, [], ◌∷◌, take, drop, ◌+◌, Some, None, refl, sym, ◌∙◌, ap}
use Rattle.std.specs.List.{list_all, slice_split, onto_first, position}
use Rattle.pws_base.specs.Lines.{is_line}
use Rattle.pws_base.proofs.LineLemmas.{split_cut, split_whole}

pub both : (a b : Bool) → a && b ≡ true → (a ≡ true) × (b ≡ true)
both true b h = (refl, h)
both false b h = absurd (cc)

pub both_from : (a b : Bool) → a ≡ true → b ≡ true → a && b ≡ true
both_from a b h k = rw (h, k) refl

all_true : (xs : List ℕ) → list_all (λ x. true) xs ≡ true
all_true [] = refl
all_true (x ∷ xs) = all_true xs

onto_passes : (r : ℕ → Bool) (x : ℕ) (pieces : List (List ℕ)) → r x ≡ true → list_all (list_all r) pieces ≡ true → list_all (list_all r) (onto_first x pieces) ≡ true
onto_passes r x [] t h = rw t refl
onto_passes r x (piece ∷ pieces) t h = rw t h

step : (r : ℕ → Bool) (x : ℕ) (pieces : List (List ℕ)) (b : Bool) → (b ≡ false → r x ≡ true) → list_all (list_all r) pieces ≡ true → list_all (list_all r) (cond b ([] ∷ pieces) (onto_first x pieces)) ≡ true
step r x pieces true k h = h
step r x pieces false k h = onto_passes r x pieces (k refl) h

-- each element of a piece is no separator, and is an element of the list
pub pieces_pass : (p q r : ℕ → Bool) → ((x : ℕ) → p x ≡ false → q x ≡ true → r x ≡ true) → (xs : List ℕ) → list_all q xs ≡ true → list_all (list_all r) (slice_split p xs) ≡ true
pieces_pass p q r k [] h = refl
pieces_pass p q r k (x ∷ xs) h =
    let parts = both (q x) (list_all q xs) h in
    step r x (slice_split p xs) (p x) (λ f. k x f parts.0) (pieces_pass p q r k xs parts.1)

not_false : (b c : Bool) → b ≡ false → c ≡ true → not b ≡ true
not_false b c e f = rw e refl

pub pieces_lack : (text : List ℕ) → list_all is_line (slice_split (λ b. b == 10) text) ≡ true
pieces_lack text = pieces_pass (λ b. b == 10) (λ b. true) (λ b. not (b == 10)) (λ x. not_false (x == 10) true) text (all_true text)

-- no line feed stands before the first
pub cut_plain : (text : List ℕ) (at : ℕ) → position (λ b. b == 10) text ≡ Some at → is_line (take at text) ≡ true
cut_plain text at e =
    let pieces : list_all is_line (take at text ∷ slice_split (λ b. b == 10) (drop (at + 1) text)) ≡ true = sym (ap (list_all is_line) (split_cut (λ b. b == 10) text at e)) ∙ pieces_lack text in
    (both (is_line (take at text)) (list_all is_line (slice_split (λ b. b == 10) (drop (at + 1) text))) pieces).0

pub whole_plain : (text : List ℕ) → position (λ b. b == 10) text ≡ None → is_line text ≡ true
whole_plain text e =
    let pieces : list_all is_line (text ∷ []) ≡ true = sym (ap (list_all is_line) (split_whole (λ b. b == 10) text e)) ∙ pieces_lack text in
    (both (is_line text) true pieces).0

-- The window as a range of places.
use Rattle.std.proofs.Common.{◌≡◌, ℕ, zero, suc, ◌+◌, ◌-◌, List, [], ◌∷◌, ◌++◌, Option, Some, None, refl, ◌∙◌, ap, arith}
use Rattle.std.specs.Prelude.{option_to_list}
use Rattle.std.specs.List.{range_with_len, filter_map}
use Rattle.std.proofs.lemmas.List.Elements.{filter_map-append}
use Rattle.pws_base.specs.Limits.{place_window}
use Rattle.pws_protocol.specs.States.{window}

as_many : (low : ℕ) → (low + 33) - (low + 1) ≡ place_window
as_many low = omega arith

pub window_is : (low : ℕ) → range_with_len (low + 1) ((low + 33) - (low + 1)) ≡ window low
unfolding window
window_is low = ap (range_with_len (low + 1)) (as_many low)

pub range_more : (a n : ℕ) → range_with_len a (suc n) ≡ range_with_len a n ++ (a + n) ∷ []
range_more a zero = let e : a ≡ a + 0 = omega arith in ap (λ k. k ∷ []) e
range_more a (suc n) = let e : (a + 1) + n ≡ a + suc n = omega arith in let r : range_with_len (a + 1) (suc n) ≡ range_with_len (a + 1) n ++ (a + suc n) ∷ [] = range_more (a + 1) n ∙ ap (λ k. range_with_len (a + 1) n ++ k ∷ []) e in ap (λ xs. a ∷ xs) r

one_of : {X : Type 0} (o : Option X) → filter_map (λ (k : ℕ). o) (0 ∷ []) ≡ option_to_list o
one_of None = refl
one_of (Some x) = refl

one_picked : {X : Type 0} (f : ℕ → Option X) (n : ℕ) → filter_map f (n ∷ []) ≡ option_to_list (f n)
one_picked f n = one_of (f n)

-- what a function picks of one place more
pub picked_more : {X : Type 0} (f : ℕ → Option X) (n : ℕ) → filter_map f (range_with_len 0 (n + 1)) ≡ filter_map f (range_with_len 0 n) ++ option_to_list (f n)
picked_more f n =
    let m : n + 1 ≡ suc n = omega arith in
    let z : 0 + n ≡ n = omega arith in
    ap (λ k. filter_map f (range_with_len 0 k)) m ∙ (ap (filter_map f) (range_more 0 n ∙ ap (λ k. range_with_len 0 n ++ k ∷ []) z) ∙ (filter_map-append f (range_with_len 0 n) (n ∷ []) ∙ ap (λ ys. filter_map f (range_with_len 0 n) ++ ys) (one_picked f n)))

-- A list rises where each item is below the next.
use Rattle.std.proofs.Common.{◌≡◌, ℕ, zero, suc, ◌+◌, ◌<◌, ◌&&◌, Bool, true, false, List, [], ◌∷◌, length, get_or, refl, sym, ◌∙◌, subst, arith}
use Rattle.std.specs.List.{list_all, IsAllAdjacentAnswer}
use Rattle.std.proofs.lemmas.Bool.{false≢true, and_parts, and_from, false_from_ne_true}
use Rattle.pws_change.specs.Rising.{rises}

module _ {X : Type 0} (below : X → X → Bool) (trans : (x y z : X) → below x y ≡ true → below y z ≡ true → below x z ≡ true) where
  below_all : (x y : X) (zs : List X) → below x y ≡ true → list_all (below y) zs ≡ true → list_all (below x) zs ≡ true
  below_all x y [] h k = refl
  below_all x y (z ∷ zs) h k = let t = and_parts (below y z) (list_all (below y) zs) k in and_from (below x z) (list_all (below x) zs) (trans x y z h t.0) (below_all x y zs h t.1)

  rises_from : (xs : List X) → ((k : ℕ) (d : X) → suc k < length xs → below (get_or xs k d) (get_or xs (suc k) d) ≡ true) → rises below xs ≡ true
  rises_from [] h = refl
  rises_from (x ∷ []) h = refl
  rises_from (x ∷ y ∷ ys) h =
      let rest = rises_from (y ∷ ys) (λ k d l. h (suc k) d (omega arith)) in
      let first : below x y ≡ true = h 0 x (omega arith) in
      and_from (below x y && list_all (below x) ys) (rises below (y ∷ ys))
      (and_from (below x y) (list_all (below x) ys) first (below_all x y ys first (and_parts (list_all (below y) ys) (rises below ys) rest).0)) rest

  pub rises_tells : (xs : List X) (k : ℕ) (d : X) → rises below xs ≡ true → suc k < length xs → below (get_or xs k d) (get_or xs (suc k) d) ≡ true
  rises_tells [] k d h l = absurd (omega arith)
  rises_tells (x ∷ []) k d h l = absurd (omega arith)
  rises_tells (x ∷ y ∷ ys) zero d h l = (and_parts (below x y) (list_all (below x) ys) (and_parts (below x y && list_all (below x) ys) (rises below (y ∷ ys)) h).0).0
  rises_tells (x ∷ y ∷ ys) (suc k) d h l = rises_tells (y ∷ ys) k d (and_parts (below x y && list_all (below x) ys) (rises below (y ∷ ys)) h).1 (omega arith)

  next : (k : ℕ) → k + 1 ≡ suc k
  next k = omega arith

  -- what `is_sorted_by` answers
  pub rises_is : (xs : List X) (r : Bool) → IsAllAdjacentAnswer (λ x y b. b ≡ below x y) xs r → r ≡ rises below xs
  rises_is xs true h = sym (rises_from xs (λ k d l. subst (λ n. below (get_or xs k d) (get_or xs n d) ≡ true) (next k) (sym (h k d (omega arith)))))
  rises_is xs false h =
      sym (false_from_ne_true (rises below xs) (λ e. at_fault xs h.0 e h.1 h.2))
    where
      at_fault : (xs : List X) (k : ℕ) → rises below xs ≡ true → k + 1 < length xs → ((d : X) → false ≡ below (get_or xs k d) (get_or xs (k + 1) d)) → ⊥
      at_fault [] k e l f = absurd (omega arith)
      at_fault (x ∷ xs) k e l f = false≢true (f x ∙ subst (λ n. below (get_or (x ∷ xs) k x) (get_or (x ∷ xs) n x) ≡ true) (sym (next k)) (rises_tells (x ∷ xs) k x e (omega arith)))

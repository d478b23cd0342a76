-- Sums of numbers over a list.
use Rattle.std.proofs.Common.{◌≡◌, inl, inr, ℕ, suc, ◌+◌, ◌*◌, ◌<◌, ◌≤◌, Bool, true, false, List, [], ◌∷◌, length, refl, sym, subst, arith}
use Rattle.std.specs.List.{Contains}
use Rattle.pws_base.proofs.Members.{nowhere, first_or_rest}
use Rattle.pws_voter_laws.specs.Rest.{total, missing}

add_le : (a b c d : ℕ) → a ≤ b → c ≤ d → a + c ≤ b + d
add_le a b c d h k = omega arith

add_less : (a b c d : ℕ) → a < b → c ≤ d → a + c < b + d
add_less a b c d h k = omega arith

le_add : (a b c d : ℕ) → a ≤ b → c < d → a + c < b + d
le_add a b c d h k = omega arith

module _ {X : Type 0} (f g : X → ℕ) (less : (x : X) → g x ≤ f x) where
  pub total_le : (xs : List X) → total g xs ≤ total f xs
  total_le [] = omega arith
  total_le (x ∷ xs) = add_le (g x) (f x) (total g xs) (total f xs) (less x) (total_le xs)

  -- less at one item, and nowhere more, is less together
  pub total_less : (xs : List X) (x : X) → Contains xs x → g x < f x → total g xs < total f xs
  total_less [] x c l = absurd (nowhere x c)
  total_less (y ∷ ys) x c l = elim (first_or_rest y x ys c) [
    | inl e ↦ add_less (g y) (f y) (total g ys) (total f ys) (subst (λ z. g z < f z) (sym e) l) (total_le ys)
    | inr r ↦ le_add (g y) (f y) (total g ys) (total f ys) (less y) (total_less ys x r l)
  ]

one_more : (a k m n : ℕ) → a ≤ k → m ≤ n * k → a + m ≤ suc n * k
one_more a k m n h j = let e : suc n * k ≡ k + n * k = grind arith in omega (arith, e)

pub total_most : {X : Type 0} (f : X → ℕ) (k : ℕ) → ((x : X) → f x ≤ k) → (xs : List X) → total f xs ≤ length xs * k
total_most f k h [] = omega arith
total_most f k h (x ∷ xs) = one_more (f x) k (total f xs) (length xs) (h x) (total_most f k h xs)

pub missing_most : (b : Bool) → missing b ≤ 1
missing_most true = omega arith
missing_most false = omega arith

-- what is there stays there
pub missing_less : (b c : Bool) → (b ≡ true → c ≡ true) → missing c ≤ missing b
missing_less true c h = let e = h refl in rw e (omega arith)
missing_less false true h = omega arith
missing_less false false h = omega arith

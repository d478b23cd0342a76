-- What passes where a place of the window, or an index, was found; and what an option gives that passes a test.
use Rattle.std.proofs.Common.{◌≡◌, ◌⊎◌, inl, inr, ℕ, zero, suc, ◌+◌, ◌<◌, ◌≤◌, Bool, true, false, List, [], ◌∷◌, Option, Some, None, Contains, refl, subst, arith, cond, not, ◌&&◌}
use Rattle.std.specs.List.{find, range_with_len}
use Rattle.std.specs.Option.{option_map_or, option_or}
use Rattle.std.proofs.lemmas.Bool.{cases_eq, cases_lt}
use Rattle.pws_base.proofs.Members.{here, there}
use Rattle.pws_protocol.specs.States.{window}

find_go : (b : Bool) (x p a : ℕ) (o : Option ℕ) (t : ℕ → Bool) → a ≤ x → t x ≡ b → cond b (Some x) o ≡ Some p → ((a ≤ p) × (t p ≡ true)) ⊎ (o ≡ Some p)
find_go true x p a o t l e h = let s : x ≡ p = cc in inl (subst (λ y. (a ≤ y) × (t y ≡ true)) s (l, e))
find_go false x p a o t l e h = inr h

weaken : (a p : ℕ) (t : ℕ → Bool) → (a + 1 ≤ p) × (t p ≡ true) → (a ≤ p) × (t p ≡ true)
weaken a p t h = (omega (arith, h.0), h.1)

find_range : (t : ℕ → Bool) (n a p : ℕ) → find t (range_with_len a n) ≡ Some p → (a ≤ p) × (t p ≡ true)
find_range t zero a p h = absurd (let i : ◌≡◌ {A = Option ℕ} None (Some p) = h in cc)
find_range t (suc n) a p h = elim (find_go (t a) a p a (find t (range_with_len (a + 1) n)) t (omega arith) refl h) [ inl x ↦ x | inr r ↦ weaken a p t (find_range t n (a + 1) p r) ]

above : (low p : ℕ) → low + 1 ≤ p → low < p
above low p h = omega arith

pub found : (active : Bool) (t : ℕ → Bool) (low p : ℕ) → cond active (find t (window low)) None ≡ Some p → (active ≡ true) × (low < p) × (t p ≡ true)
unfolding window
found true t low p h = let r = find_range t 32 (low + 1) p h in (refl, above low p r.0, r.1)
found false t low p h = absurd (let i : ◌≡◌ {A = Option ℕ} None (Some p) = h in cc)

pub found_idle : (active : Bool) (t : ℕ → Bool) (a n p : ℕ) → cond active None (find t (range_with_len a n)) ≡ Some p → (active ≡ false) × (t p ≡ true)
found_idle true t a n p h = absurd (let i : ◌≡◌ {A = Option ℕ} None (Some p) = h in cc)
found_idle false t a n p h = let r = find_range t n a p h in (refl, r.1)

-- what is found is in the list, and passes
pub find_has : {X : Type 0} (t : X → Bool) (xs : List X) (x : X) → find t xs ≡ Some x → Contains xs x × (t x ≡ true)
find_has {X} t [] x h = absurd (let i : ◌≡◌ {A = Option X} None (Some x) = h in cc)
find_has {X} t (y ∷ ys) x h = go (t y) refl h (find_has t ys x)
  where
    go : (b : Bool) → t y ≡ b → cond b (Some y) (find t ys) ≡ Some x → (find t ys ≡ Some x → Contains ys x × (t x ≡ true)) → Contains (y ∷ ys) x × (t x ≡ true)
    go true e k more = let same : y ≡ x = let i : ◌≡◌ {A = Option X} (Some y) (Some x) = k in cc in subst (λ z. Contains (y ∷ ys) z × (t z ≡ true)) same (here y ys, e)
    go false e k more = let r = more k in (there y x ys r.0, r.1)

-- of an option that passes a test
pub passing : {A : Type 0} (t : A → Bool) (o : Option A) → option_map_or t o false ≡ true → (x : A) × (o ≡ Some x) × (t x ≡ true)
passing t None h = absurd (cc)
passing t (Some x) h = (x, refl, h)

pub guarded : (b : Bool) (x y : ℕ) → cond b (Some x) None ≡ Some y → (b ≡ true) × (x ≡ y)
guarded true x y h = (refl, cc)
guarded false x y h = absurd (let i : ◌≡◌ {A = Option ℕ} None (Some y) = h in cc)

pub not_true : (b c : Bool) → not b && c ≡ true → (b ≡ false) × (c ≡ true)
not_true true c h = absurd (cc)
not_true false c h = (refl, h)

pub either : (t : ℕ → Bool) (p q r : ℕ) (b c : Bool) → t p ≡ b → t r ≡ c → option_or (cond b (Some p) None) (cond c (Some r) None) ≡ Some q → t q ≡ true
either t p q r true c e f h = let k : p ≡ q = cc in subst (λ x. t x ≡ true) k e
either t p q r false true e f h = let k : r ≡ q = cc in subst (λ x. t x ≡ true) k f
either t p q r false false e f h = absurd (let i : ◌≡◌ {A = Option ℕ} None (Some q) = h in cc)

range_has : (n a p : ℕ) → a ≤ p → p < a + n → Contains (range_with_len a n) p
range_has zero a p l u = absurd (omega (arith, l, u))
range_has (suc n) a p l u =
    elim (cases_eq a p) [
      | inl e ↦ subst (λ q. Contains (range_with_len a (suc n)) q) e (here a (range_with_len (a + 1) n))
      | inr d ↦ there a p (range_with_len (a + 1) n) (range_has n (a + 1) p (after a p l d) (omega (arith, u)))
    ]
  where
    after : (a p : ℕ) → a ≤ p → (a ≡ p → ⊥) → a + 1 ≤ p
    after a p l d = elim (cases_lt a p) [ inl k ↦ omega (arith, k) | inr k ↦ absurd (d (omega (arith, l, k))) ]

-- a place above the low mark, at most 32 above it, is in the window
pub window_has : (low p : ℕ) → low < p → p ≤ low + 32 → Contains (window low) p
unfolding window
window_has low p l u = range_has 32 (low + 1) p (omega (arith, l)) (omega (arith, u))

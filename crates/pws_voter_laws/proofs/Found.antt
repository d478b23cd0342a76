-- What an option or a list tells that passed a test.
use Rattle.std.proofs.Common.{◌≡◌, ◌⊎◌, inl, inr, ℕ, zero, suc, ◌+◌, ◌<◌, ◌≤◌, Bool, true, false, cond, List, [], ◌∷◌, Option, Some, None, refl, sym, ap, subst, arith}
use Rattle.std.specs.List.{Contains, find, filter_map, cons_option, range_with_len}
use Rattle.std.specs.Option.{option_map_or, option_and_then}
use Rattle.std.proofs.lemmas.Bool.{cases_lt}
use Rattle.pws_base.proofs.Members.{nowhere, here, there, first_or_rest}

pub nothing : {X : Type 0} (x : X) → None ≡ Some x → ⊥
nothing {X} x h = let i : ◌≡◌ {A = Option X} None (Some x) = h in cc

pub same : {X : Type 0} (x y : X) → Some x ≡ Some y → x ≡ y
same {X} x y h = let i : ◌≡◌ {A = Option X} (Some x) (Some y) = h in cc

-- what a test that passed says of the value behind it
pub guarded : {X : Type 0} (b : Bool) (o : Option X) (x : X) → cond b o None ≡ Some x → (b ≡ true) × (o ≡ Some x)
guarded true o x h = (refl, h)
guarded false o x h = absurd (nothing x h)

pub unguarded : {X : Type 0} (b : Bool) (o : Option X) (x : X) → cond b None o ≡ Some x → (b ≡ false) × (o ≡ Some x)
unguarded true o x h = absurd (nothing x h)
unguarded false o x h = (refl, h)

pub one_of_two : {X : Type 0} (b : Bool) (a c x : X) → cond b (Some a) (Some c) ≡ Some x → (x ≡ a) ⊎ (x ≡ c)
one_of_two true a c x h = inl (sym (same a x h))
one_of_two false a c x h = inr (sym (same c x h))

pub passing : {X : Type 0} (t : X → Bool) (o : Option X) → option_map_or t o false ≡ true → (x : X) × (o ≡ Some x) × (t x ≡ true)
passing t None h = absurd cc
passing t (Some x) h = (x, refl, h)

pub then_is : {X Y : Type 0} (f : X → Option Y) (o : Option X) (y : Y) → option_and_then f o ≡ Some y → (x : X) × (o ≡ Some x) × (f x ≡ Some y)
then_is f None y h = absurd (nothing y h)
then_is f (Some x) y h = (x, refl, h)

pub found : {X : Type 0} (t : X → Bool) (xs : List X) (x : X) → find t xs ≡ Some x → Contains xs x × (t x ≡ true)
found t [] x h = absurd (nothing x h)
found t (y ∷ ys) x h = by (t y) refl h (found t ys x)
  where
    by : (b : Bool) → t y ≡ b → cond b (Some y) (find t ys) ≡ Some x → (find t ys ≡ Some x → Contains ys x × (t x ≡ true)) → Contains (y ∷ ys) x × (t x ≡ true)
    by true e k more = let s : y ≡ x = same y x k in (subst (λ z. Contains (y ∷ ys) z) s (here y ys), subst (λ z. t z ≡ true) s e)
    by false e k more = let r = more k in (there y x ys r.0, r.1)

consed : {Y : Type 0} (o : Option Y) (ys : List Y) (y : Y) → Contains (cons_option o ys) y → (o ≡ Some y) ⊎ Contains ys y
consed None ys y c = inr c
consed (Some w) ys y c = elim (first_or_rest w y ys c) [ inl e ↦ inl (ap Some e) | inr r ↦ inr r ]

-- an item of a filtered map is what the map gives of some item
pub mapped : {X Y : Type 0} (f : X → Option Y) (xs : List X) (y : Y) → Contains (filter_map f xs) y → (x : X) × Contains xs x × (f x ≡ Some y)
mapped f [] y c = absurd (nowhere y c)
mapped f (x ∷ xs) y c = elim (consed (f x) (filter_map f xs) y c) [
  | inl e ↦ (x, here x xs, e)
  | inr r ↦ (let m = mapped f xs y r in (m.0, there x m.0 xs m.1, m.2))
]

-- the items of a range
pub in_range : (n a p : ℕ) → Contains (range_with_len a n) p → (a ≤ p) × (p < a + n)
in_range zero a p c = absurd (nowhere p c)
in_range (suc n) a p c = elim (first_or_rest a p (range_with_len (a + 1) n) c) [
  | inl e ↦ (omega (arith, e), omega (arith, e))
  | inr r ↦ (let i = in_range n (a + 1) p r in (omega (arith, i.0), omega (arith, i.1)))
]

pub range_has : (n a p : ℕ) → a ≤ p → p < a + n → Contains (range_with_len a n) p
range_has zero a p h k = absurd (omega arith)
range_has (suc n) a p h k = elim (cases_lt a p) [
  | inl l ↦ there a p (range_with_len (a + 1) n) (range_has n (a + 1) p (omega (arith, l)) (omega arith))
  | inr l ↦ (let e : a ≡ p = omega (arith, l) in subst (λ q. Contains (a ∷ range_with_len (a + 1) n) q) e (here a (range_with_len (a + 1) n)))
]

-- What a list contains, item by item, and how many of its items pass a test. For proofs alone; the crates above cite
-- it.
use Rattle.std.proofs.Common.{ℕ, zero, suc, ◌+◌, ◌<◌, ◌≤◌, ◌≡◌, ◌⊎◌, inl, inr, Bool, true, false, cond, refl, sym, subst, List, [], ◌∷◌, length, map, filter, arith}
use Rattle.std.specs.List.{Contains, All, count_by, list_any, list_all, slice_index_or}
use Rattle.std.proofs.lemmas.Bool.{false≢true, and_parts, and_from, or_cases, or_left, or_right}
use Rattle.std.proofs.lemmas.List.Elements.{Contains-get_or}
use Rattle.std.proofs.lemmas.List.Recursion.{is_count_by}

pub nowhere : {X : Type 0} (x : X) → Contains [] x → ⊥
nowhere x h = absurd (omega (arith, h.1))

pub here : {X : Type 0} (x : X) (xs : List X) → Contains (x ∷ xs) x
here x xs = (zero, omega arith, refl)

pub there : {X : Type 0} (y x : X) (xs : List X) → Contains xs x → Contains (y ∷ xs) x
there y x xs h = (suc h.0, omega (arith, h.1), h.2)

-- the first item, or one of the rest
pub first_or_rest : {X : Type 0} (y x : X) (ys : List X) → Contains (y ∷ ys) x → (y ≡ x) ⊎ Contains ys x
first_or_rest y x ys h = at h.0 h.1 h.2
  where
    at : (k : ℕ) → k < length (y ∷ ys) → slice_index_or (y ∷ ys) k x ≡ x → (y ≡ x) ⊎ Contains ys x
    at zero l e = inl e
    at (suc k) l e = inr (k, omega (arith, l), e)

-- what holds of each item that is contained holds of all
pub all_from : {X : Type 0} (P : X → Type 0) (xs : List X) → ((x : X) → Contains xs x → P x) → All P xs
all_from P xs h = λ k d l. h _ (Contains-get_or xs k d l)

pub any_has : {X : Type 0} (q : X → Bool) (xs : List X) → list_any q xs ≡ true → (x : X) × Contains xs x × (q x ≡ true)
any_has q [] h = absurd (false≢true h)
any_has {X} q (x ∷ xs) h =
    let more : list_any q xs ≡ true → (y : X) × Contains (x ∷ xs) y × (q y ≡ true) = λ g. let r = any_has q xs g in (r.0, there x r.0 xs r.1, r.2) in
    elim (or_cases (q x) (list_any q xs) h) [ inl g ↦ (x, here x xs, g) | inr g ↦ more g ]

pub any_from : {X : Type 0} (q : X → Bool) (xs : List X) (x : X) → Contains xs x → q x ≡ true → list_any q xs ≡ true
any_from q [] x h e = absurd (nowhere x h)
any_from q (y ∷ ys) x h e =
    elim (first_or_rest y x ys h) [
      | inl g ↦ or_left (q y) _ (subst (λ z. q z ≡ true) (sym g) e)
      | inr g ↦ or_right (q y) _ (any_from q ys x g e)
    ]

pub all_has : {X : Type 0} (q : X → Bool) (xs : List X) → list_all q xs ≡ true → (x : X) → Contains xs x → q x ≡ true
all_has q [] h x k = absurd (nowhere x k)
all_has q (y ∷ ys) h x k =
    let e = and_parts (q y) (list_all q ys) h in
    elim (first_or_rest y x ys k) [ inl g ↦ subst (λ z. q z ≡ true) g e.0 | inr g ↦ all_has q ys e.1 x g ]

-- how many items pass, by recursion from the front
abbrev pub tally : {X : Type 0} → (X → Bool) → List X → ℕ
tally p [] = 0
tally p (x ∷ xs) = cond (p x) (suc (tally p xs)) (tally p xs)

pub tally_counts : {X : Type 0} (p : X → Bool) (xs : List X) → tally p xs ≡ count_by p xs
tally_counts p xs = is_count_by (tally p) p refl (λ x ys. step (p x) (tally p ys)) xs
  where
    step : (b : Bool) (n : ℕ) → cond b (suc n) n ≡ cond b (1 + n) n
    step true n = omega arith
    step false n = omega arith

tally_some : {X : Type 0} (p : X → Bool) (xs : List X) → 1 ≤ tally p xs → (x : X) × Contains xs x × (p x ≡ true)
tally_some p [] h = absurd (omega arith)
tally_some {X} p (x ∷ xs) h = at (p x) refl h (tally_some p xs)
  where
    at : (b : Bool) → p x ≡ b → 1 ≤ cond b (suc (tally p xs)) (tally p xs) → (1 ≤ tally p xs → (y : X) × Contains xs y × (p y ≡ true)) → (y : X) × Contains (x ∷ xs) y × (p y ≡ true)
    at true e l more = (x, here x xs, e)
    at false e l more = let r = more l in (r.0, there x r.0 xs r.1, r.2)

-- where at least one item passes, the list has one that does
pub count_some : {X : Type 0} (p : X → Bool) (xs : List X) → 1 ≤ count_by p xs → (x : X) × Contains xs x × (p x ≡ true)
count_some p xs h = tally_some p xs (omega (arith, tally_counts p xs))

pub map_has : {X Y : Type 0} (f : X → Y) (xs : List X) (y : Y) → Contains (map f xs) y → (x : X) × Contains xs x × (f x ≡ y)
map_has f [] y c = absurd (nowhere y c)
map_has f (x ∷ xs) y c =
    elim (first_or_rest (f x) y (map f xs) c) [
      | inl e ↦ (x, here x xs, e)
      | inr r ↦ let m = map_has f xs y r in (m.0, there x m.0 xs m.1, m.2)
    ]

pub has_map : {X Y : Type 0} (f : X → Y) (xs : List X) (x : X) → Contains xs x → Contains (map f xs) (f x)
has_map f [] x c = absurd (nowhere x c)
has_map f (y ∷ xs) x c =
    elim (first_or_rest y x xs c) [
      | inl e ↦ subst (λ z. Contains (f y ∷ map f xs) (f z)) e (here (f y) (map f xs))
      | inr r ↦ there (f y) (f x) (map f xs) (has_map f xs x r)
    ]

-- what holds of each item is what a test of all tells
pub all_pass : {X : Type 0} (t : X → Bool) (xs : List X) → ((x : X) → Contains xs x → t x ≡ true) → list_all t xs ≡ true
all_pass t [] h = refl
all_pass t (x ∷ xs) h = and_from (t x) (list_all t xs) (h x (here x xs)) (all_pass t xs (λ y c. h y (there x y xs c)))

filter_by : {X : Type 0} (t : X → Bool) (x y : X) (xs ys : List X) (b : Bool) → t x ≡ b → (Contains ys y → Contains xs y × (t y ≡ true)) → Contains (cond b (x ∷ ys) ys) y → Contains (x ∷ xs) y × (t y ≡ true)
filter_by t x y xs ys false e more c = let r = more c in (there x y xs r.0, r.1)
filter_by t x y xs ys true e more c =
    elim (first_or_rest x y ys c) [
      | inl h ↦ (subst (λ z. Contains (x ∷ xs) z) h (here x xs), subst (λ z. t z ≡ true) h e)
      | inr h ↦ let r = more h in (there x y xs r.0, r.1)
    ]

-- what a filter keeps was there, and passes
pub filter_has : {X : Type 0} (t : X → Bool) (xs : List X) (y : X) → Contains (filter t xs) y → Contains xs y × (t y ≡ true)
filter_has t [] y c = absurd (nowhere y c)
filter_has t (x ∷ xs) y c = filter_by t x y xs (filter t xs) (t x) refl (filter_has t xs y) c

-- Tests over lists, and how many items pass them.
use Rattle.std.proofs.Common.{◌≡◌, ℕ, ◌+◌, ◌<◌, ◌≤◌, ◌&&◌, ◌||◌, not, Bool, true, false, cond, List, [], ◌∷◌, ◌++◌, take, length, get_or, All, refl, sym, ◌∙◌, ap, subst, inl, inr, arith}
use Rattle.std.specs.List.{list_any, list_all, count_by, flat_map}
use Rattle.std.proofs.lemmas.Bool.{false≢true, and_parts, or_cases, or_left, or_right}
use Rattle.std.proofs.lemmas.List.{take_more, flat_map_more}
use Rattle.std.proofs.lemmas.List.Sums.{sum_by-cons}
use Rattle.std.proofs.lemmas.List.Folds.{Any-from_list_any, list_any-append}

pub count_by-cons : {X : Type 0} (p : X → Bool) (x : X) (xs : List X) → count_by p (x ∷ xs) ≡ cond (p x) 1 0 + count_by p xs
count_by-cons p x xs = sum_by-cons (λ x. cond (p x) 1 0) x xs

-- a weaker test passes where a stronger does
pub any_more : {X : Type 0} (p q : X → Bool) (xs : List X) → ((x : X) → p x ≡ true → q x ≡ true) → list_any p xs ≡ true → list_any q xs ≡ true
any_more p q [] f h = absurd (false≢true h)
any_more p q (x ∷ xs) f h =
    elim (or_cases (p x) (list_any p xs) h) [ inl g ↦ or_left (q x) (list_any q xs) (f x g) | inr g ↦ or_right (q x) (list_any q xs) (any_more p q xs f g) ]

differ_step : (a b any : Bool) (m n : ℕ) → cond b 1 0 + n < cond a 1 0 + m → (n < m → any ≡ true) → (a && not b) || any ≡ true
differ_step true false any m n h more = refl
differ_step true true any m n h more = more (omega arith)
differ_step false true any m n h more = more (omega arith)
differ_step false false any m n h more = more (omega arith)

-- where more pass one test than another, an item passes the first and fails the second
pub any_differs : {X : Type 0} (p q : X → Bool) (xs : List X) → count_by q xs < count_by p xs → list_any (λ x. p x && not (q x)) xs ≡ true
any_differs p q [] h = absurd (omega arith)
any_differs p q (x ∷ xs) h =
    differ_step (p x) (q x) (list_any (λ x. p x && not (q x)) xs) (count_by p xs) (count_by q xs) (rw (count_by-cons p x xs, count_by-cons q x xs) at h) (any_differs p q xs)

-- an item that passes a test, and has what all items have
pub any_of_all : {X : Type 0} (P : X → Type 0) (q : X → Bool) (xs : List X) → All P xs → list_any q xs ≡ true → (x : X) × P x × (q x ≡ true)
any_of_all P q xs a h = let r = Any-from_list_any q xs h in (r.1, subst P r.3 (a r.0 r.1 r.2), r.4)

-- an item that passes a test, where all pass another
pub any_all : {X : Type 0} (p q : X → Bool) (xs : List X) → list_all p xs ≡ true → list_any q xs ≡ true → (x : X) × (p x ≡ true) × (q x ≡ true)
any_all p q [] a h = absurd (false≢true h)
any_all {X} p q (x ∷ xs) a h =
    let e = and_parts (p x) (list_all p xs) a in
    let more : list_any q xs ≡ true → (y : X) × (p y ≡ true) × (q y ≡ true) = λ g. any_all p q xs e.1 g in
    elim (or_cases (q x) (list_any q xs) h) [ inl g ↦ (x, e.0, g) | inr g ↦ more g ]

-- an item that passes a test
pub any_is : {X : Type 0} (q : X → Bool) (xs : List X) → list_any q xs ≡ true → (x : X) × (q x ≡ true)
any_is q xs h = let r = Any-from_list_any q xs h in (r.1, r.4)

-- a test over lists that are joined
pub list_any-flat_map : {X A : Type 0} (f : X → List A) (q : A → Bool) (xs : List X) → list_any q (flat_map f xs) ≡ list_any (λ x. list_any q (f x)) xs
list_any-flat_map f q [] = refl
list_any-flat_map f q (x ∷ xs) = list_any-append q (f x) (flat_map f xs) ∙ ap (λ t. list_any q (f x) || t) (list_any-flat_map f q xs)

counted_step : (a any : Bool) (n : ℕ) → 1 ≤ cond a 1 0 + n → (1 ≤ n → any ≡ true) → a || any ≡ true
counted_step true any n h more = refl
counted_step false any n h more = more (omega arith)

-- where some item counts, one passes
pub any_counted : {X : Type 0} (p : X → Bool) (xs : List X) → 1 ≤ count_by p xs → list_any p xs ≡ true
any_counted p [] h = absurd (omega arith)
any_counted p (x ∷ xs) h = counted_step (p x) (list_any p xs) (count_by p xs) (rw (count_by-cons p x xs) at h) (any_counted p xs)

passed_step : (a any : Bool) (n : ℕ) → a || any ≡ true → (any ≡ true → 1 ≤ n) → 1 ≤ cond a 1 0 + n
passed_step true any n h more = omega arith
passed_step false any n h more = let k = more h in omega arith

-- where one passes, some item counts
pub counted_any : {X : Type 0} (p : X → Bool) (xs : List X) → list_any p xs ≡ true → 1 ≤ count_by p xs
counted_any p [] h = absurd (false≢true h)
counted_any p (x ∷ xs) h = rw (count_by-cons p x xs) (passed_step (p x) (list_any p xs) (count_by p xs) h (counted_any p xs))

-- one list more of those that are joined
pub flat_map-take_more : {X A : Type 0} (f : X → List A) (xs : List X) (i : ℕ) (x : X) → i < length xs → x ≡ get_or xs i x → flat_map f (take i xs) ++ f x ≡ flat_map f (take (i + 1) xs)
flat_map-take_more f xs i x l e = flat_map_more f [] (take i xs) x ∙ ap (flat_map f) (ap (λ z. take i xs ++ z ∷ []) e ∙ sym (take_more xs i x l))

-- Lists made index by index, with one index more.
use Rattle.std.proofs.Common.{◌≡◌, ℕ, zero, suc, ◌+◌, ◌-◌, ◌≤◌, Bool, true, false, cond, List, [], ◌∷◌, ◌++◌, map, filter, Option, Some, None, refl, ◌∙◌, ap, sym, arith, append_assoc}
use Rattle.std.specs.List.{filter_map, flat_map, range_with_len}
use Rattle.std.specs.Option.{option_to_list}
use Rattle.std.proofs.lemmas.List.{map-append}
use Rattle.std.proofs.lemmas.List.Elements.{filter-append, filter_map-append}
use Rattle.std.proofs.lemmas.Grind.{flat_map-append}

range_go : (a n : ℕ) → range_with_len a (suc n) ≡ range_with_len a n ++ (a + n) ∷ []
range_go a zero = let e : a ≡ a + 0 = omega arith in ap (λ k. k ∷ []) e
range_go a (suc n) =
    let e : (a + 1) + n ≡ a + suc n = omega arith in
    let r : range_with_len (a + 1) (suc n) ≡ range_with_len (a + 1) n ++ (a + suc n) ∷ [] = range_go (a + 1) n ∙ ap (λ k. range_with_len (a + 1) n ++ k ∷ []) e in
    ap (λ xs. a ∷ xs) r

pub range_more : (a n : ℕ) → range_with_len a (n + 1) ≡ range_with_len a n ++ (a + n) ∷ []
range_more a n = let s : n + 1 ≡ suc n = omega arith in ap (range_with_len a) s ∙ range_go a n

first_more : (n : ℕ) → range_with_len 0 (n + 1) ≡ range_with_len 0 n ++ n ∷ []
first_more n = let z : 0 + n ≡ n = omega arith in range_more 0 n ∙ ap (λ k. range_with_len 0 n ++ k ∷ []) z

filter_one : {X : Type 0} (h : ℕ → Option X) (n : ℕ) (o : Option X) → h n ≡ o → filter_map h (n ∷ []) ≡ option_to_list o
filter_one h n None e = rw e refl
filter_one h n (Some x) e = rw e refl

-- the options from a on, with one more
pub options_more : {X : Type 0} (h : ℕ → Option X) (a n : ℕ) → filter_map h (range_with_len a (n + 1)) ≡ filter_map h (range_with_len a n) ++ option_to_list (h (a + n))
options_more h a n =
    ap (filter_map h) (range_more a n) ∙ (filter_map-append h (range_with_len a n) ((a + n) ∷ [])
    ∙ ap (λ ys. filter_map h (range_with_len a n) ++ ys) (filter_one h (a + n) (h (a + n)) refl))

pub first_options_more : {X : Type 0} (h : ℕ → Option X) (n : ℕ) → filter_map h (range_with_len 0 (n + 1)) ≡ filter_map h (range_with_len 0 n) ++ option_to_list (h n)
first_options_more h n = let z : 0 + n ≡ n = omega arith in options_more h 0 n ∙ ap (λ k. filter_map h (range_with_len 0 n) ++ option_to_list (h k)) z

-- the indices that pass a test, with one more
pub passing_more : (p : ℕ → Bool) (n : ℕ) → filter p (range_with_len 0 (n + 1)) ≡ filter p (range_with_len 0 n) ++ cond (p n) (n ∷ []) []
passing_more p n = ap (filter p) (first_more n) ∙ filter-append p (range_with_len 0 n) (n ∷ [])

made_by : {X : Type 0} (to : ℕ → X) (xs : List X) (zs : List ℕ) (n : ℕ) (b : Bool) → xs ≡ map to zs → cond b (xs ++ to n ∷ []) xs ≡ map to (zs ++ cond b (n ∷ []) [])
made_by to xs zs n true e = ap (λ ys. ys ++ to n ∷ []) e ∙ sym (map-append to zs (n ∷ []))
made_by to xs zs n false e = e ∙ ap (map to) (sym (append_nil zs))
  where
    append_nil : (ys : List ℕ) → ys ++ [] ≡ ys
    append_nil [] = refl
    append_nil (y ∷ ys) = ap (λ t. y ∷ t) (append_nil ys)

-- what is made of the indices that pass a test, with one more
pub made_more : {X : Type 0} (to : ℕ → X) (p : ℕ → Bool) (n : ℕ) (xs : List X) → xs ≡ map to (filter p (range_with_len 0 n)) → cond (p n) (xs ++ to n ∷ []) xs ≡ map to (filter p (range_with_len 0 (n + 1)))
made_more to p n xs e = made_by to xs (filter p (range_with_len 0 n)) n (p n) e ∙ ap (map to) (sym (passing_more p n))

pub made_passing : {X : Type 0} (to : ℕ → X) (p : ℕ → Bool) (n : ℕ) (xs : List X) → xs ≡ map to (filter p (range_with_len 0 n)) → p n ≡ true → xs ++ to n ∷ [] ≡ map to (filter p (range_with_len 0 (n + 1)))
made_passing to p n xs e h = ap (λ b. cond b (xs ++ to n ∷ []) xs) (sym h) ∙ made_more to p n xs e

pub made_failing : {X : Type 0} (to : ℕ → X) (p : ℕ → Bool) (n : ℕ) (xs : List X) → xs ≡ map to (filter p (range_with_len 0 n)) → p n ≡ false → xs ≡ map to (filter p (range_with_len 0 (n + 1)))
made_failing to p n xs e h = ap (λ b. cond b (xs ++ to n ∷ []) xs) (sym h) ∙ made_more to p n xs e

no_index : (zs : List ℕ) → filter (λ i. false) zs ≡ []
no_index [] = refl
no_index (z ∷ zs) = no_index zs

-- nothing is made where no index passes
pub made_nothing : {X : Type 0} (to : ℕ → X) (n : ℕ) → map to (filter (λ i. false) (range_with_len 0 n)) ≡ []
made_nothing to n = ap (map to) (no_index (range_with_len 0 n))

-- after an option more of the indices that pass a test
pub put_more : {X : Type 0} (h : ℕ → Option X) (p : ℕ → Bool) (n : ℕ) (old xs ys : List X) → xs ≡ old ++ filter_map h (filter p (range_with_len 0 n)) → ys ≡ xs ++ option_to_list (h n) → p n ≡ true → ys ≡ old ++ filter_map h (filter p (range_with_len 0 (n + 1)))
put_more h p n old xs ys e f t =
    let zs = filter p (range_with_len 0 n) in
    f ∙ (ap (λ v. v ++ option_to_list (h n)) e ∙ (append_assoc old (filter_map h zs) (option_to_list (h n))
    ∙ ap (λ v. old ++ v) (ap (λ v. filter_map h zs ++ v) (sym (filter_one h n (h n) refl)) ∙ (sym (filter_map-append h zs (n ∷ []))
    ∙ ap (filter_map h) (ap (λ b. zs ++ cond b (n ∷ []) []) (sym t) ∙ sym (passing_more p n))))))

-- after several more
pub put_several : {X : Type 0} (h : ℕ → List X) (p : ℕ → Bool) (n : ℕ) (old xs ys : List X) → xs ≡ old ++ flat_map h (filter p (range_with_len 0 n)) → ys ≡ xs ++ h n → p n ≡ true → ys ≡ old ++ flat_map h (filter p (range_with_len 0 (n + 1)))
put_several h p n old xs ys e f t =
    let zs = filter p (range_with_len 0 n) in
    f ∙ (ap (λ v. v ++ h n) e ∙ (append_assoc old (flat_map h zs) (h n)
    ∙ ap (λ v. old ++ v) (ap (λ v. flat_map h zs ++ v) (sym (one_of h n)) ∙ (sym (flat_map-append h zs (n ∷ []))
    ∙ ap (flat_map h) (ap (λ b. zs ++ cond b (n ∷ []) []) (sym t) ∙ sym (passing_more p n))))))
  where
    append_nil : {X : Type 0} (ys : List X) → ys ++ [] ≡ ys
    append_nil [] = refl
    append_nil (y ∷ ys) = ap (λ t. y ∷ t) (append_nil ys)

    one_of : {X : Type 0} (h : ℕ → List X) (n : ℕ) → flat_map h (n ∷ []) ≡ h n
    one_of h n = append_nil (h n)

-- without one more where it fails the test
pub passing_same : (p : ℕ → Bool) (n : ℕ) → p n ≡ false → filter p (range_with_len 0 n) ≡ filter p (range_with_len 0 (n + 1))
passing_same p n t = sym (passing_more p n ∙ (ap (λ b. filter p (range_with_len 0 n) ++ cond b (n ∷ []) []) t ∙ append_nil (filter p (range_with_len 0 n))))
  where
    append_nil : (ys : List ℕ) → ys ++ [] ≡ ys
    append_nil [] = refl
    append_nil (y ∷ ys) = ap (λ t. y ∷ t) (append_nil ys)

-- after an option more from a on
pub options_put : {X : Type 0} (h : ℕ → Option X) (a n : ℕ) (old xs ys : List X) → a ≤ n → xs ≡ old ++ filter_map h (range_with_len a (n - a)) → ys ≡ xs ++ option_to_list (h n) → ys ≡ old ++ filter_map h (range_with_len a (n + 1 - a))
options_put h a n old xs ys l e f =
    let s : (n - a) + 1 ≡ n + 1 - a = omega (arith, l) in
    let z : a + (n - a) ≡ n = omega (arith, l) in
    let zs = range_with_len a (n - a) in
    f ∙ (ap (λ v. v ++ option_to_list (h n)) e ∙ (append_assoc old (filter_map h zs) (option_to_list (h n))
    ∙ ap (λ v. old ++ v) (ap (λ k. filter_map h zs ++ option_to_list (h k)) (sym z) ∙ (sym (options_more h a (n - a)) ∙ ap (λ k. filter_map h (range_with_len a k)) s))))

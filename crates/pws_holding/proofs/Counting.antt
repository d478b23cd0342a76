-- How many entries a map has whose keys lie in a list, and what a sum is at most whose parts are small.
use Rattle.std.proofs.Common.{◌≡◌, inl, inr, ℕ, suc, ◌+◌, ◌-◌, ◌*◌, ◌≤◌, Bool, true, false, cond, List, [], ◌∷◌, length, map, Some, refl, sym, ◌∙◌, subst, arith, length-append}
use Rattle.std.specs.List.{Contains, fold, flat_map}
use Rattle.std.specs.declared.cmp.Ordering.{Ordering}
use Rattle.std.specs.Cmp.{IsTotalOrder}
use Rattle.std.specs.FinMap.{FinMap, IsAntisymmetric, get, entries, values, keys, len, remove, contains_key, len-remove, len-entries}
use Rattle.std.proofs.lemmas.List.{length-map}
use Rattle.std.proofs.lemmas.List.Elements.{Contains-append_left, Contains-append_right}
use Rattle.pws_base.proofs.Members.{nowhere, here, there, first_or_rest, has_map}
use Rattle.pws_base.proofs.Maps.{entry_get, get_entry, remove_cases}
use Rattle.pws_protocol.specs.Held.{over}

one_more : (a k m n : ℕ) → a ≤ k → m ≤ n * k → a + m ≤ suc n * k
one_more a k m n h j = let e : suc n * k ≡ k + n * k = grind arith in omega (arith, e)

-- lists
sum_from : {K X : Type 0} (size : X → ℕ) (k : ℕ) (es : List (K × X)) (a : ℕ) → ((e : K × X) → Contains es e → size e.1 ≤ k) → fold (λ b x. b + x) a (map size (map (λ e. e.1) es)) ≤ a + length es * k
sum_from size k [] a h = omega arith
sum_from size k (e ∷ es) a h =
    let more = sum_from size k es (a + size e.1) (λ x c. h x (there e x es c)) in
    let one = one_more (size e.1) k (length es * k) (length es) (h e (here e es)) (omega arith) in
    omega (arith, more, one)

pub flat_length : {X Y : Type 0} (f : X → List Y) (k : ℕ) (xs : List X) → ((x : X) → Contains xs x → length (f x) ≤ k) → length (flat_map f xs) ≤ length xs * k
flat_length f k [] h = omega arith
flat_length f k (x ∷ xs) h =
    let more = flat_length f k xs (λ y c. h y (there x y xs c)) in
    let one = one_more (length (f x)) k (length (flat_map f xs)) (length xs) (h x (here x xs)) more in
    omega (arith, one, length-append (f x) (flat_map f xs))

pub flat_has : {X Y : Type 0} (f : X → List Y) (xs : List X) (x : X) (y : Y) → Contains xs x → Contains (f x) y → Contains (flat_map f xs) y
flat_has f [] x y c d = absurd (nowhere x c)
flat_has {Y = Y} f (w ∷ xs) x y c d = elim (first_or_rest w x xs c) [
  | inl e ↦ Contains-append_left (f w) (flat_map f xs) y (subst (λ z. Contains (f z) y) (sym e) d)
  | inr r ↦ Contains-append_right (f w) (flat_map f xs) y (flat_has f xs x y r d)
]

left_over : {K : Type 0} (k q : K) (ks : List K) → Contains (k ∷ ks) q → (q ≡ k → ⊥) → Contains ks q
left_over k q ks c n = elim (first_or_rest k q ks c) [ inl e ↦ absurd (n (sym e)) | inr r ↦ r ]

less_one : (b : Bool) (n m l : ℕ) → m ≡ cond b (n - 1) n → m ≤ l → n ≤ suc l
less_one true n m l e h = omega arith
less_one false n m l e h = omega arith

module _ {K X : Type 0} {R : K → K → Ordering} (o : IsTotalOrder R) where
  none_left : (m : FinMap R X) → ((k : K) (x : X) → get m k ≡ Some x → Contains [] k) → (es : List (K × X)) → entries m ≡ es → length es ≤ 0
  none_left m h [] e = omega arith
  none_left m h (x ∷ es) e = absurd (nowhere x.0 (h x.0 x.1 (entry_get o m x.0 x.1 (subst (λ (l : List (K × X)). Contains l x) (sym e) (here x es)))))

  -- a map whose keys lie in a list has at most as many entries
  pub few_keys : (ks : List K) (m : FinMap R X) → ((k : K) (x : X) → get m k ≡ Some x → Contains ks k) → len m ≤ length ks
  few_keys [] m h = let z = none_left m h (entries m) refl in omega (arith, z, len-entries m)
  few_keys (k ∷ ks) m h =
      let r = few_keys ks (remove m k) (λ q x g. let c = remove_cases o m k q x g in left_over k q ks (h q x c.0) c.1) in
      less_one (contains_key m k) (len m) (len (remove m k)) (length ks) (len-remove o m k) r

  -- the sum over a map of values that are each so large at most
  pub over_most : (size : X → ℕ) (k : ℕ) (m : FinMap R X) → ((q : K) (x : X) → get m q ≡ Some x → size x ≤ k) → over size m ≤ len m * k
  over_most size k m h =
      let s = sum_from size k (entries m) 0 (λ e c. h e.0 e.1 (entry_get o m e.0 e.1 c)) in
      subst (λ n. over size m ≤ n * k) (sym (len-entries m)) (omega (arith, s))

  -- what a map gives is one of its values, at one of its keys
  pub value_in : IsAntisymmetric R → (m : FinMap R X) (q : K) (x : X) → get m q ≡ Some x → Contains (values m) x
  value_in exact m q x h = has_map (λ (e : K × X). e.1) (entries m) (q, x) (get_entry o exact m q x h)

  pub key_in : IsAntisymmetric R → (m : FinMap R X) (q : K) (x : X) → get m q ≡ Some x → Contains (keys m) q
  key_in exact m q x h = has_map (λ (e : K × X). e.0) (entries m) (q, x) (get_entry o exact m q x h)

pub values_length : {K X : Type 0} {R : K → K → Ordering} (m : FinMap R X) → length (values m) ≡ len m
values_length {K} {X} m = length-map (entries m) (λ (e : K × X). e.1) ∙ sym (len-entries m)

pub keys_length : {K X : Type 0} {R : K → K → Ordering} (m : FinMap R X) → length (keys m) ≡ len m
keys_length {K} {X} m = length-map (entries m) (λ (e : K × X). e.0) ∙ sym (len-entries m)

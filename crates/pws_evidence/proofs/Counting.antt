-- How much a finite map holds whose keys are all among some.
use Rattle.std.proofs.Common.{◌≡◌, ℕ, zero, suc, ◌+◌, ◌*◌, ◌<◌, ◌≤◌, ◌⊎◌, inl, inr, Bool, true, false, cond, List, [], ◌∷◌, ◌++◌, map, length, Option, Some, None, refl, sym, ◌∙◌, ap, subst, arith}
use Rattle.std.specs.declared.cmp.Ordering.{Ordering}
use Rattle.std.specs.declared.cmp.Ordering.TheVariants.{Less, Equal, Greater}
use Rattle.std.specs.List.{sum}
use Rattle.std.specs.Cmp.{IsTotalOrder}
use Rattle.std.specs.Ordering.{eq_by_cmp}
use Rattle.std.specs.FinMap.{FinMap, IsAntisymmetric, empty, get, insert, remove, entries, entries-insert, get-insert, get-remove, get-empty, same_map, len-entries, len-empty}
use Rattle.std.specs.FinMap.Entries.{put, by_order}
use Rattle.std.proofs.lemmas.List.Sums.{sum_by-cons}
use Rattle.std.proofs.lemmas.Map.Views.{tells_apart}
use Rattle.std.proofs.Math.Nat.{mul-suc}
use Rattle.pws_base.proofs.Maps.{remove_cases}
use Rattle.pws_protocol.specs.Held.{over}

-- a key is among these
pub Has : {K : Type 0} → List K → K → Type 0
Has [] k = ⊥
Has (x ∷ xs) k = (x ≡ k) ⊎ Has xs k

pub one_has : {K : Type 0} (x k : K) → x ≡ k → Has (x ∷ []) k
unfolding Has
one_has x k h = inl h

pub left_has : {K : Type 0} (xs ys : List K) (k : K) → Has xs k → Has (xs ++ ys) k
unfolding Has
left_has [] ys k h = absurd h
left_has (x ∷ xs) ys k h = elim h [
  | inl e ↦ inl e
  | inr r ↦ inr (left_has xs ys k r)
]

pub right_has : {K : Type 0} (xs ys : List K) (k : K) → Has ys k → Has (xs ++ ys) k
unfolding Has
right_has [] ys k h = h
right_has (x ∷ xs) ys k h = inr (right_has xs ys k h)

-- the lists of so many numbers from the first on, one after another
pub each : {K : Type 0} → (ℕ → List K) → ℕ → ℕ → List K
each f a zero = []
each f a (suc n) = f a ++ each f (suc a) n

order_of : (a i : ℕ) → a ≤ i → (a ≡ i) ⊎ (suc a ≤ i)
order_of zero zero h = inl refl
order_of zero (suc i) h = inr (omega arith)
order_of (suc a) zero h = absurd (omega (arith, h))
order_of (suc a) (suc i) h = elim (order_of a i (omega (arith, h))) [
  | inl e ↦ inl (ap suc e)
  | inr l ↦ inr (omega (arith, l))
]

pub each_has : {K : Type 0} (f : ℕ → List K) (a n i : ℕ) (k : K) → a ≤ i → i < a + n → Has (f i) k → Has (each f a n) k
unfolding each
each_has f a zero i k l m h = absurd (omega (arith, l, m))
each_has f a (suc n) i k l m h = elim (order_of a i l) [
  | inl e ↦ left_has (f a) (each f (suc a) n) k (subst (λ j. Has (f j) k) (sym e) h)
  | inr g ↦ right_has (f a) (each f (suc a) n) k (each_has f (suc a) n i k g (omega (arith, m)) h)
]

-- the sum of what the keys may hold
pub total : {K : Type 0} → (K → ℕ) → List K → ℕ
total bound [] = 0
total bound (k ∷ ks) = bound k + total bound ks

pub one_total : {K : Type 0} (bound : K → ℕ) (k : K) (c : ℕ) → bound k ≤ c → total bound (k ∷ []) ≤ c
unfolding total
one_total bound k c h = omega (arith, h)

pub none_total : {K : Type 0} (bound : K → ℕ) → total bound [] ≡ 0
unfolding total
none_total bound = refl

pub append_total : {K : Type 0} (bound : K → ℕ) (xs ys : List K) → total bound (xs ++ ys) ≡ total bound xs + total bound ys
unfolding total
append_total bound [] ys = omega arith
append_total bound (x ∷ xs) ys = let h = append_total bound xs ys in omega (arith, h)

mul_step : (n c : ℕ) → suc n * c ≡ c + n * c
mul_step n c = omega (arith, mul-suc c n)

pub each_total : {K : Type 0} (bound : K → ℕ) (f : ℕ → List K) (a n c : ℕ) → ((i : ℕ) → total bound (f i) ≤ c) → total bound (each f a n) ≤ n * c
unfolding each total
each_total bound f a zero c h = omega arith
each_total bound f a (suc n) c h =
    let first = h a in
    let more = each_total bound f (suc a) n c h in
    omega (arith, first, more, append_total bound (f a) (each f (suc a) n), mul_step n c)

-- where nothing is of one of the numbers
pub each_but : {K : Type 0} (bound : K → ℕ) (f : ℕ → List K) (a n c own : ℕ) → ((i : ℕ) → total bound (f i) ≤ c) → a ≤ own → own < a + n → total bound (f own) ≡ 0
    → total bound (each f a n) + c ≤ n * c
unfolding each
each_but bound f a zero c own h l m z = absurd (omega (arith, l, m))
each_but bound f a (suc n) c own h l m z = elim (order_of a own l) [
  | inl e ↦
      let gone : total bound (f a) ≡ 0 = subst (λ j. total bound (f j) ≡ 0) (sym e) z in
      let more = each_total bound f (suc a) n c h in
      omega (arith, gone, more, append_total bound (f a) (each f (suc a) n), mul_step n c)
  | inr g ↦
      let first = h a in
      let more = each_but bound f (suc a) n c own h g (omega (arith, m)) z in
      omega (arith, first, more, append_total bound (f a) (each f (suc a) n), mul_step n c)
]

none_some : {X : Type 0} (x : X) → ◌≡◌ {A = Option X} None (Some x) → ⊥
none_some x h = cc

module _ {K X : Type 0} (R : K → K → Ordering) (size : X → ℕ) where
  abbrev sum_of : List (K × X) → ℕ
  sum_of es = sum (map size (map (λ e. e.1) es))

  put_by : (k : K) (v : X) (e : K × X) (es : List (K × X)) (r : Ordering) → sum_of (put R k v es) ≤ size v + sum_of es
      → sum_of (by_order r ((k, v) ∷ e ∷ es) ((e.0, v) ∷ es) (e ∷ put R k v es)) ≤ size v + sum_of (e ∷ es)
  put_by k v e es Less h =
      omega (arith, sum_by-cons (λ x. x) (size v) (map size (map (λ e. e.1) (e ∷ es))))
  put_by k v e es Equal h =
      omega (arith, sum_by-cons (λ x. x) (size v) (map size (map (λ e. e.1) es)), sum_by-cons (λ x. x) (size e.1) (map size (map (λ e. e.1) es)))
  put_by k v e es Greater h =
      omega (arith, h, sum_by-cons (λ x. x) (size e.1) (map size (map (λ e. e.1) (put R k v es))), sum_by-cons (λ x. x) (size e.1) (map size (map (λ e. e.1) es)))

  put_sum : (k : K) (v : X) (es : List (K × X)) → sum_of (put R k v es) ≤ size v + sum_of es
  put_sum k v [] = omega (arith, sum_by-cons (λ x. x) (size v) [])
  put_sum k v (e ∷ es) = put_by k v e es (R k e.0) (put_sum k v es)

  module _ (o : IsTotalOrder R) (exact : IsAntisymmetric R) where
    inserted_sum : (m : FinMap R X) (k : K) (v : X) → over size (insert m k v) ≤ size v + over size m
    inserted_sum m k v = subst (λ es. sum_of es ≤ size v + over size m) (sym (entries-insert o m k v)) (put_sum k v (entries m))

    back_by : (m : FinMap R X) (k q : K) (v : X) (b : Bool) → eq_by_cmp R q k ≡ b → get m k ≡ Some v → cond b (Some v) (cond b None (get m q)) ≡ get m q
    back_by m k q v true e h = sym (ap (get m) (tells_apart exact q k e) ∙ h)
    back_by m k q v false e h = refl

    put_back : (m : FinMap R X) (k : K) (v : X) → get m k ≡ Some v → insert (remove m k) k v ≡ m
    put_back m k v h = same_map o exact (insert (remove m k) k v) m (λ q.
        get-insert o (remove m k) k v q
        ∙ (ap (cond (eq_by_cmp R q k) (Some v)) (get-remove o m k q)
        ∙ back_by m k q v (eq_by_cmp R q k) refl h))

    nothing_over : over size (empty {X = X} {R = R}) ≡ 0
    nothing_over = ap sum_of (no_entries (entries (empty {X = X} {R = R})) (sym (len-entries (empty {X = X} {R = R})) ∙ len-empty R X))
      where
        no_entries : (es : List (K × X)) → length es ≡ 0 → es ≡ []
        no_entries [] h = refl
        no_entries (e ∷ es) h = absurd (omega (arith, h))

    Among : (K → ℕ) → List K → FinMap R X → Type 0
    Among bound ks m = (k : K) (x : X) → get m k ≡ Some x → Has ks k × (size x ≤ bound k)

    -- what a map holds whose keys are all among these
    pub bounded : (bound : K → ℕ) (ks : List K) (m : FinMap R X) → ((k : K) (x : X) → get m k ≡ Some x → Has ks k × (size x ≤ bound k)) → over size m ≤ total bound ks
    unfolding Has total
    bounded bound [] m h =
        let none : m ≡ empty = same_map o exact m empty (λ q. is_none q (get m q) refl ∙ sym (get-empty R q)) in
        subst (λ (n : FinMap R X). over size n ≤ total bound []) (sym none) (omega (arith, nothing_over))
      where
        is_none : (q : K) (g : Option X) → get m q ≡ g → get m q ≡ None
        is_none q None e = e
        is_none q (Some x) e = absurd ((h q x e).0)
    bounded bound (k ∷ ks) m h = at (λ n i. bounded bound ks n i) (get m k) refl
      where
        rest_of : (q : K) → (q ≡ k → ⊥) → Has (k ∷ ks) q → Has ks q
        rest_of q n c = elim c [
          | inl e ↦ absurd (n (sym e))
          | inr r ↦ r
        ]

        other : (q : K) (x : X) → get m k ≡ None → get m q ≡ Some x → q ≡ k → ⊥
        other q x n g e = none_some x (sym n ∙ (ap (get m) (sym e) ∙ g))

        more : (n : ℕ) → n ≤ total bound ks → n ≤ total bound (k ∷ ks)
        more n l = omega (arith, l)

        joined : (x : X) (n s : ℕ) → size x ≤ bound k → s ≤ total bound ks → n ≤ size x + s → n ≤ total bound (k ∷ ks)
        joined x n s a b c = omega (arith, a, b, c)

        at : ((n : FinMap R X) → ((q : K) (x : X) → get n q ≡ Some x → Has ks q × (size x ≤ bound q)) → over size n ≤ total bound ks) → (g : Option X) → get m k ≡ g → over size m ≤ total bound (k ∷ ks)
        at ih None e = more (over size m) (ih m (λ q x g. (rest_of q (other q x e g) (h q x g).0, (h q x g).1)))
        at ih (Some x) e =
            let less = ih (remove m k) (λ q y g. let c = remove_cases o m k q y g in (rest_of q c.1 (h q y c.0).0, (h q y c.0).1)) in
            let whole : over size m ≤ size x + over size (remove m k) = subst (λ (n : FinMap R X). over size n ≤ size x + over size (remove m k)) (put_back m k x e) (inserted_sum (remove m k) k x) in
            joined x (over size m) (over size (remove m k)) (h k x e).1 less whole

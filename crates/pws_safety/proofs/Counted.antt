-- Counts of replicas below n, and what two of them share.
use Rattle.std.proofs.Common.{ℕ, zero, suc, ◌+◌, ◌<◌, ◌≤◌, ◌≡◌, Bool, true, false, not, ◌&&◌, ◌||◌, cond, refl, subst, ◌==◌, inl, inr, arith}
use Rattle.std.proofs.lemmas.Bool.{false≢true, true≢false, and_parts, not-true, or_right, eq-eqb, cases_order}
use Rattle.pws_base.specs.Counts.{count_below}
use Rattle.pws_safety.specs.Replicas.{AtLeast}

some_step : (n c : ℕ) (p : ℕ → Bool) (b : Bool) → p n ≡ b → 0 < cond b (suc c) c → (0 < c → (i : ℕ) × (i < n) × (p i ≡ true)) → (i : ℕ) × (i < suc n) × (p i ≡ true)
some_step n c p true e h more = (n, omega arith, e)
some_step n c p false e h more = let r = more h in (r.0, omega (arith, r.1), r.2)

pub some_passes : (n : ℕ) (p : ℕ → Bool) → 0 < count_below n p → (i : ℕ) × (i < n) × (p i ≡ true)
some_passes zero p h = absurd (omega arith)
some_passes (suc n) p h = some_step n (count_below n p) p (p n) refl h (some_passes n p)

both_step : (a b : Bool) (n x y z : ℕ) → x + y ≤ n + z → cond a (suc x) x + cond b (suc y) y ≤ suc n + cond (a && b) (suc z) z
both_step true true n x y z h = omega arith
both_step true false n x y z h = omega arith
both_step false true n x y z h = omega arith
both_step false false n x y z h = omega arith

pub count_both : (n : ℕ) (p q : ℕ → Bool) → count_below n p + count_below n q ≤ n + count_below n (λ i. p i && q i)
count_both zero p q = omega arith
count_both (suc n) p q = both_step (p n) (q n) n _ _ _ (count_both n p q)

apart_step : (a b : Bool) (x y z : ℕ) → x ≤ y + z → cond a (suc x) x ≤ cond (a && not b) (suc y) y + cond b (suc z) z
apart_step true true x y z h = omega arith
apart_step true false x y z h = omega arith
apart_step false true x y z h = omega arith
apart_step false false x y z h = omega arith

-- all that pass are those that don't pass another test, and some that do
pub count_apart : (n : ℕ) (p b : ℕ → Bool) → count_below n p ≤ count_below n (λ i. p i && not (b i)) + count_below n b
count_apart zero p b = omega arith
count_apart (suc n) p b = apart_step (p n) (b n) _ _ _ (count_apart n p b)

more_step : (a b : Bool) (x y : ℕ) → (a ≡ true → b ≡ true) → x ≤ y → cond a (suc x) x ≤ cond b (suc y) y
more_step true true x y h l = omega arith
more_step true false x y h l = absurd (false≢true (h refl))
more_step false true x y h l = omega arith
more_step false false x y h l = omega arith

-- a weaker test counts no fewer
pub count_more : (n : ℕ) (p q : ℕ → Bool) → ((i : ℕ) → i < n → p i ≡ true → q i ≡ true) → count_below n p ≤ count_below n q
count_more zero p q h = omega arith
count_more (suc n) p q h = more_step (p n) (q n) _ _ (h n (omega arith)) (count_more n p q (λ i l. h i (omega arith)))

none_step : (b : Bool) (x : ℕ) → (b ≡ true → ⊥) → x ≤ 0 → cond b (suc x) x ≤ 0
none_step true x h l = absurd (h refl)
none_step false x h l = l

count_none : (n : ℕ) (p : ℕ → Bool) → ((i : ℕ) → i < n → p i ≡ true → ⊥) → count_below n p ≤ 0
count_none zero p h = omega arith
count_none (suc n) p h = none_step (p n) _ (h n (omega arith)) (count_none n p (λ i l. h i (omega arith)))

-- two tests that no replica passes both count no more than n
pub count_disjoint : (n : ℕ) (p q : ℕ → Bool) → ((i : ℕ) → i < n → p i ≡ true → q i ≡ true → ⊥) → count_below n p + count_below n q ≤ n
count_disjoint n p q apart =
    omega (arith, count_both n p q, count_none n (λ i. p i && q i) (λ i l h. apart i l (and_parts (p i) (q i) h).0 (and_parts (p i) (q i) h).1))

kept_step : (a t : Bool) (x y : ℕ) → x + 1 ≤ y → cond t (suc x) x + 1 ≤ cond (a || t) (suc y) y
kept_step true true x y l = omega arith
kept_step true false x y l = omega arith
kept_step false true x y l = omega arith
kept_step false false x y l = omega arith

new_step : (a t : Bool) (x y : ℕ) → a ≡ true → t ≡ false → x ≤ y → cond t (suc x) x + 1 ≤ cond (a || t) (suc y) y
new_step true true x y g e l = absurd (true≢false e)
new_step true false x y g e l = omega arith
new_step false t x y g e l = absurd (false≢true g)

-- one replica more
pub count_insert : (n m : ℕ) (t : ℕ → Bool) → m < n → t m ≡ false → count_below n t + 1 ≤ count_below n (λ i. (m == i) || t i)
count_insert zero m t l e = absurd (omega arith)
count_insert (suc n) m t l e =
    elim (cases_order m n) [
      | inl g ↦ new_step (m == n) (t n) _ _ (eq-eqb m n g) (subst (λ k. t k ≡ false) g e) (count_more n t (λ i. (m == i) || t i) (λ i _ h. or_right (m == i) (t i) h))
      | inr g ↦ elim g [
        | inl k ↦ kept_step (m == n) (t n) _ _ (count_insert n m t k e)
        | inr k ↦ absurd (omega arith)
      ]
    ]

-- sets that together are more than n share a replica
pub meet : (n a b : ℕ) (p q : ℕ → Bool) → a ≤ count_below n p → b ≤ count_below n q → n < a + b → (i : ℕ) × (i < n) × (p i ≡ true) × (q i ≡ true)
meet n a b p q hp hq room =
    let r = some_passes n (λ i. p i && q i) (omega (arith, count_both n p q)) in
    let t = and_parts (p r.0) (q r.0) r.2 in
    (r.0, r.1, t.0, t.1)

-- enough of two kinds share a correct one
pub meet_correct : (n a b f : ℕ) (bad p q : ℕ → Bool) → count_below n bad ≤ f → a ≤ count_below n p → b ≤ count_below n q → n + f < a + b → (i : ℕ) × (i < n) × (bad i ≡ false) × (p i ≡ true) × (q i ≡ true)
meet_correct n a b f bad p q few hp hq room =
    let e1 = count_both n p q in
    let e2 = count_apart n (λ i. p i && q i) bad in
    let r = some_passes n (λ i. (p i && q i) && not (bad i)) (omega (arith, e1, e2)) in
    let s = and_parts (p r.0 && q r.0) (not (bad r.0)) r.2 in
    let t = and_parts (p r.0) (q r.0) s.0 in
    (r.0, r.1, not-true (bad r.0) s.1, t.0, t.1)

-- more than the compromised ones have a correct one among them
pub some_correct : (n f : ℕ) (bad p : ℕ → Bool) → count_below n bad ≤ f → f < count_below n p → (i : ℕ) × (i < n) × (bad i ≡ false) × (p i ≡ true)
some_correct n f bad p few many =
    let r = some_passes n (λ i. p i && not (bad i)) (omega (arith, count_apart n p bad)) in
    let s = and_parts (p r.0) (not (bad r.0)) r.2 in
    (r.0, r.1, not-true (bad r.0) s.1, s.0)

-- where enough have a property, a correct one has it
pub a_correct_one : (n k f : ℕ) (bad : ℕ → Bool) (P : ℕ → Type 0) → count_below n bad ≤ f → f < k → AtLeast n k P → (i : ℕ) × (i < n) × (bad i ≡ false) × P i
a_correct_one n k f bad P few room many =
    let r = some_correct n f bad many.0 few (omega (arith, many.1)) in
    (r.0, r.1, r.2, many.2 r.0 r.1 r.3)

-- where enough have each of two properties, a correct one has both
pub both_have : (n a b f : ℕ) (bad : ℕ → Bool) (P Q : ℕ → Type 0) → count_below n bad ≤ f → n + f < a + b → AtLeast n a P → AtLeast n b Q → (i : ℕ) × (i < n) × (bad i ≡ false) × P i × Q i
both_have n a b f bad P Q few room x y =
    let r = meet_correct n a b f bad x.0 y.0 few x.1 y.1 room in
    (r.0, r.1, r.2, x.2 r.0 r.1 r.3, y.2 r.0 r.1 r.4)

-- what each of enough replicas has may be weakened
pub at_least_weaker : (n k : ℕ) (P Q : ℕ → Type 0) → ((i : ℕ) → P i → Q i) → AtLeast n k P → AtLeast n k Q
at_least_weaker n k P Q w many = (many.0, many.1, λ i l t. w i (many.2 i l t))

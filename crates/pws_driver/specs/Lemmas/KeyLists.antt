-- Lists of calls whose numbers rise in each group. It is here for the proofs alone.
use Rattle.std.proofs.Common.{◌≡◌, ◌⊎◌, inl, inr, ℕ, ◌<◌, ◌≤◌, Bool, true, false, not, ◌||◌, cond, nat_eq, List, [], ◌∷◌, ◌++◌, Some, refl, sym, ◌∙◌, ap, arith}
use Rattle.std.specs.List.{find}
use Rattle.std.specs.Option.{option_map_or}
use Rattle.std.proofs.lemmas.Bool.Decides.{nat_tests}
use Rattle.std.proofs.lemmas.List.Folds.{list_any-append}
use Rattle.pws_service.specs.declared.keys.Key.{Key}
use Rattle.pws_service.specs.Keys.{same_key}
use Rattle.pws_driver.specs.Keys.{has_key, without}

-- the least number among those of the group, if their numbers rise, or this number
abbrev pub low_among : List Key → ℕ → ℕ → ℕ
low_among ks g n = option_map_or (λ k. k.number) (find (λ k. nat_eq k.group g) ks) n

-- each key of the group that comes later has a greater number
abbrev pub Rising : List Key → Type 0
Rising [] = Unit {0}
Rising (k ∷ ks) = ((j : Key) → has_key ks j ≡ true → j.group ≡ k.group → k.number < j.number) × Rising ks

pub same_groups : (a b : Key) → same_key a b ≡ true → (a.group ≡ b.group) × (a.number ≡ b.number)
same_groups a b h = (grind (arith, nat_tests), grind (arith, nat_tests))

pub same_refl : (k : Key) → same_key k k ≡ true
same_refl k = grind (arith, nat_tests)

-- ---- what a list has

pub or_true : (a b : Bool) → (a || b) ≡ true → (a ≡ true) ⊎ (b ≡ true)
or_true true b h = inl refl
or_true false b h = inr h

pub has_added : (ks : List Key) (k j : Key) → has_key (ks ++ k ∷ []) j ≡ true → (has_key ks j ≡ true) ⊎ (same_key j k ≡ true)
has_added ks k j h = elim (or_true (has_key ks j) (same_key j k || false) (sym (list_any-append (same_key j) ks (k ∷ [])) ∙ h)) [
  | inl a ↦ inl a
  | inr b ↦ elim (or_true (same_key j k) false b) [ inl c ↦ inr c | inr d ↦ let i : ◌≡◌ {A = Bool} false true = d in absurd (cc) ]
]

pub has_kept : (ks : List Key) (k j : Key) → has_key ks j ≡ true → has_key (ks ++ k ∷ []) j ≡ true
has_kept ks k j h = rw (list_any-append (same_key j) ks (k ∷ []), h) refl

or_right : (b : Bool) → (b || true) ≡ true
or_right true = refl
or_right false = refl

pub has_new : (ks : List Key) (k j : Key) → same_key j k ≡ true → has_key (ks ++ k ∷ []) j ≡ true
has_new ks k j h = rw (list_any-append (same_key j) ks (k ∷ []), h) (or_right (has_key ks j))

or_more : (a b c : Bool) → (b ≡ true → c ≡ true) → (a || b) ≡ true → (a || c) ≡ true
or_more true b c f h = refl
or_more false b c f h = f h

without_by : (x : Key) (ks ys : List Key) (j : Key) (b : Bool) → (has_key ys j ≡ true → has_key ks j ≡ true) → has_key (cond (not b) (x ∷ ys) ys) j ≡ true → has_key (x ∷ ks) j ≡ true
without_by x ks ys j true ih h = rw (ih h) (or_right (same_key j x))
without_by x ks ys j false ih h = or_more (same_key j x) (has_key ys j) (has_key ks j) ih h

pub has_without : (k : Key) (ks : List Key) (j : Key) → has_key (without k ks) j ≡ true → has_key ks j ≡ true
has_without k [] j h = h
has_without k (x ∷ ks) j h = without_by x ks (without k ks) j (same_key k x) (has_without k ks j) h

same_sym_trans : (k x j : Key) → same_key k x ≡ true → same_key j x ≡ true → same_key j k ≡ true
same_sym_trans k x j a b = grind (arith, nat_tests)

or_left : (b : Bool) → (true || b) ≡ true
or_left b = refl

others_by : (k x : Key) (ks ys : List Key) (j : Key) (b c : Bool) → same_key k x ≡ b → same_key j x ≡ c → (has_key ks j ≡ true → (same_key j k ≡ true) ⊎ (has_key ys j ≡ true)) → (c || has_key ks j) ≡ true → (same_key j k ≡ true) ⊎ (has_key (cond (not b) (x ∷ ys) ys) j ≡ true)
others_by k x ks ys j true true p q ih h = inl (same_sym_trans k x j p q)
others_by k x ks ys j true false p q ih h = ih h
others_by k x ks ys j false true p q ih h = inr (rw q refl)
others_by k x ks ys j false false p q ih h = elim (ih h) [ inl e ↦ inl e | inr e ↦ inr (rw (q, e) refl) ]

pub has_others : (k : Key) (ks : List Key) (j : Key) → has_key ks j ≡ true → (same_key j k ≡ true) ⊎ (has_key (without k ks) j ≡ true)
has_others k [] j h = inr h
has_others k (x ∷ ks) j h = others_by k x ks (without k ks) j (same_key k x) (same_key j x) refl refl (has_others k ks j) h

-- ---- the least number

least_by : (x : Key) (ks : List Key) (n : ℕ) (k : Key) (b c : Bool) → nat_eq x.group k.group ≡ b → same_key k x ≡ c → ((j : Key) → has_key ks j ≡ true → j.group ≡ x.group → x.number < j.number) → (has_key ks k ≡ true → low_among ks k.group n ≤ k.number) → (c || has_key ks k) ≡ true → option_map_or (λ (q : Key). q.number) (cond b (Some x) (find (λ q. nat_eq q.group k.group) ks)) n ≤ k.number
least_by x ks n k true true p q r ih h = let e = same_groups k x q in omega (arith, e.1)
least_by x ks n k true false p q r ih h = let e : k.group ≡ x.group = grind (arith, nat_tests) in omega (arith, r k h e)
least_by x ks n k false true p q r ih h = let e = same_groups k x q in let z : nat_eq x.group k.group ≡ true = grind (arith, nat_tests) in absurd (cc)
least_by x ks n k false false p q r ih h = ih h

pub low_least : (ks : List Key) (n : ℕ) (k : Key) → Rising ks → has_key ks k ≡ true → low_among ks k.group n ≤ k.number
low_least [] n k r h = let i : ◌≡◌ {A = Bool} false true = h in absurd (cc)
low_least (x ∷ ks) n k r h = least_by x ks n k (nat_eq x.group k.group) (same_key k x) refl refl r.0 (low_least ks n k r.1) h

at_least_by : (x : Key) (ks : List Key) (g n m : ℕ) (b : Bool) → nat_eq x.group g ≡ b → (x.group ≡ g → m ≤ x.number) → m ≤ low_among ks g n → m ≤ option_map_or (λ (q : Key). q.number) (cond b (Some x) (find (λ q. nat_eq q.group g) ks)) n
at_least_by x ks g n m true p h w = let e : x.group ≡ g = grind (arith, nat_tests) in h e
at_least_by x ks g n m false p h w = w

at_most_by : (x : Key) (ks : List Key) (g n : ℕ) (b : Bool) → nat_eq x.group g ≡ b → (x.group ≡ g → x.number ≤ n) → low_among ks g n ≤ n → option_map_or (λ (q : Key). q.number) (cond b (Some x) (find (λ q. nat_eq q.group g) ks)) n ≤ n
at_most_by x ks g n true p h w = let e : x.group ≡ g = grind (arith, nat_tests) in h e
at_most_by x ks g n false p h w = w

has_head : (x : Key) (ks : List Key) → has_key (x ∷ ks) x ≡ true
has_head x ks = rw (same_refl x) refl

has_tail : (x : Key) (ks : List Key) (j : Key) → has_key ks j ≡ true → has_key (x ∷ ks) j ≡ true
has_tail x ks j h = rw h (or_right (same_key j x))

pub low_at_least : (ks : List Key) (g n m : ℕ) → ((k : Key) → has_key ks k ≡ true → k.group ≡ g → m ≤ k.number) → m ≤ n → m ≤ low_among ks g n
low_at_least [] g n m h w = w
low_at_least (x ∷ ks) g n m h w = at_least_by x ks g n m (nat_eq x.group g) refl (h x (has_head x ks)) (low_at_least ks g n m (λ k i. h k (has_tail x ks k i)) w)

pub low_at_most : (ks : List Key) (g n : ℕ) → ((k : Key) → has_key ks k ≡ true → k.group ≡ g → k.number ≤ n) → low_among ks g n ≤ n
low_at_most [] g n h = omega arith
low_at_most (x ∷ ks) g n h = at_most_by x ks g n (nat_eq x.group g) refl (h x (has_head x ks)) (low_at_most ks g n (λ k i. h k (has_tail x ks k i)))

-- ---- rising

pub rising_added : (ks : List Key) (k : Key) → Rising ks → ((j : Key) → has_key ks j ≡ true → j.group ≡ k.group → j.number < k.number) → Rising (ks ++ k ∷ [])
rising_added [] k r h = (λ j i e. let z : ◌≡◌ {A = Bool} false true = i in absurd (cc), tt)
rising_added (x ∷ ks) k r h = (
  λ j i e. elim (has_added ks k j i) [
    | inl a ↦ r.0 j a e
    | inr a ↦ let s = same_groups j k a in let b : x.number < k.number = h x (has_head x ks) (sym e ∙ s.0) in omega (arith, s.1, b)
  ],
  rising_added ks k r.1 (λ j i e. h j (has_tail x ks j i) e),
)

rising_by : (x : Key) (ks ys : List Key) (b : Bool) → ((j : Key) → has_key ys j ≡ true → has_key ks j ≡ true) → ((j : Key) → has_key ks j ≡ true → j.group ≡ x.group → x.number < j.number) → Rising ys → Rising (cond (not b) (x ∷ ys) ys)
rising_by x ks ys true f r w = w
rising_by x ks ys false f r w = (λ j i e. r j (f j i) e, w)

pub rising_without : (k : Key) (ks : List Key) → Rising ks → Rising (without k ks)
rising_without k [] r = r
rising_without k (x ∷ ks) r = rising_by x ks (without k ks) (same_key k x) (has_without k ks) r.0 (rising_without k ks r.1)

pub key_same : (a b : Key) → same_key a b ≡ true → a ≡ b
key_same a b h =
    let e = same_groups a b h in
    let f : a ≡ record { group = b.group; number = a.number } = ap (λ (n : ℕ). record { group = n; number = a.number }) e.0 in
    f ∙ ap (λ (n : ℕ). record { group = b.group; number = n }) e.1

pub low_least_in : (ks : List Key) (g n : ℕ) (k : Key) → k.group ≡ g → Rising ks → has_key ks k ≡ true → low_among ks g n ≤ k.number
low_least_in ks g n k e r h = omega (arith, low_least ks n k r h, ap (λ (x : ℕ). low_among ks x n) e)

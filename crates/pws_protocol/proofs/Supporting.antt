-- The more is said, the more is supported; and what is supported is said by a correct replica.
use Rattle.std.proofs.Common.{◌≡◌, ℕ, zero, suc, ◌<◌, ◌≤◌, ◌&&◌, ◌==◌, nat_lt, nat_le, length, Bool, true, false, if◌then◌else◌, List, [], ◌∷◌, Option, Some, None, refl, subst, arith}
use Rattle.std.specs.List.{list_all}
use Rattle.std.specs.Prelude.{slice_get, slice_index}
use Rattle.std.specs.Option.{option_map_or}
use Rattle.std.proofs.lemmas.Bool.{false≢true, and_parts, and_from, leb-true, le-leb}
use Rattle.pws_base.specs.declared.shapes.ReplicaId.{ReplicaId}
use Rattle.pws_base.specs.Counts.{count_below}
use Rattle.pws_base.specs.Shapes.{size_of_group, quorum_of, weak_of}
use Rattle.pws_msg.specs.declared.contents.Content.{Content}
use Rattle.pws_change.specs.Rising.{rises}
use Rattle.pws_protocol.specs.Keys.{replica}
use Rattle.pws_protocol.specs.Support.{Stated, Support, Always, SaidBy, ReadBy, support_of, supported_by, sayers, enough_say, is_read, are_read, is_there, reading_said}
use Rattle.pws_protocol.specs.Laws.{MoreIsSupported, SupportIsHonest}

one_more : (a b : Bool) (m n : ℕ) → (a ≡ true → b ≡ true) → m ≤ n → (if a then suc m else m) ≤ (if b then suc n else n)
one_more true true m n f h = omega arith
one_more true false m n f h = absurd (false≢true (f refl))
one_more false true m n f h = omega arith
one_more false false m n f h = h

counts_more : (n : ℕ) (p q : ℕ → Bool) → ((i : ℕ) → p i ≡ true → q i ≡ true) → count_below n p ≤ count_below n q
counts_more zero p q f = omega arith
counts_more (suc n) p q f = one_more (p n) (q n) (count_below n p) (count_below n q) (f n) (counts_more n p q f)

module _ (says more : ReplicaId → Content → Bool) (grows : (r : ReplicaId) (c : Content) → says r c ≡ true → more r c ≡ true) where
  at_shape : (o : Option ℕ) (group : ℕ) (c : Content) → option_map_or (λ f. nat_le (weak_of f) (sayers says f group c)) o false ≡ true → option_map_or (λ f. nat_le (weak_of f) (sayers more f group c)) o false ≡ true
  at_shape None group c h = h
  at_shape (Some f) group c h =
      let a = leb-true (weak_of f) (sayers says f group c) h in
      let b = counts_more (size_of_group f) (λ i. says (replica group i) c) (λ i. more (replica group i) c) (λ i. grows (replica group i) c) in
      le-leb (weak_of f) (sayers more f group c) (omega (arith, a, b))

  read_more : (f group ask : ℕ) (x : Stated) → is_read says f group ask x ≡ true → is_read more f group ask x ≡ true
  read_more f group ask x h =
      let a = and_parts (nat_lt x.index (size_of_group f)) (says (replica group x.index) (reading_said ask x.value)) h in
      and_from (nat_lt x.index (size_of_group f)) (more (replica group x.index) (reading_said ask x.value)) a.0 (grows (replica group x.index) (reading_said ask x.value) a.1)

  all_read : (f group ask : ℕ) (xs : List Stated) → list_all (is_read says f group ask) xs ≡ true → list_all (is_read more f group ask) xs ≡ true
  all_read f group ask [] h = h
  all_read f group ask (x ∷ xs) h =
      let a = and_parts (is_read says f group ask x) (list_all (is_read says f group ask) xs) h in
      and_from (is_read more f group ask x) (list_all (is_read more f group ask) xs) (read_more f group ask x a.0) (all_read f group ask xs a.1)

  are_all : (f group ask : ℕ) (xs : List Stated) → are_read says f group ask xs ≡ true → are_read more f group ask xs ≡ true
  are_all f group ask xs h =
      let many = length xs == quorum_of f in
      let up = rises (λ (a b : Stated). nat_lt a.index b.index) xs in
      let a = and_parts many (up && list_all (is_read says f group ask) xs) h in
      let b = and_parts up (list_all (is_read says f group ask) xs) a.1 in
      and_from many (up && list_all (is_read more f group ask) xs) a.0 (and_from up (list_all (is_read more f group ask) xs) b.0 (all_read f group ask xs b.1))

  there : (layout : List ℕ) (group : ℕ) (x : Support) → is_there says layout group x ≡ true → is_there more layout group x ≡ true
  there layout group Always h = h
  there layout group (SaidBy sayer c) h = at_shape (slice_get layout sayer) sayer c h
  there layout group (ReadBy ask xs) h = are_all (slice_index layout group) group ask xs h

pub more_is_supported : MoreIsSupported
unfolding supported_by
more_is_supported says more layout group x grows h = there says more grows layout group (support_of group x) h

-- where fewer pass one test than another, somebody passes only that other
abbrev Passed : ℕ → (ℕ → Bool) → (ℕ → Bool) → Type 0
Passed n p q = (i : ℕ) × (i < n) × (p i ≡ false) × (q i ≡ true)

above : (n : ℕ) (p q : ℕ → Bool) → Passed n p q → Passed (suc n) p q
above n p q h = (h.0, omega (arith, h.1), h.2, h.3)

at_top : (n : ℕ) (p q : ℕ → Bool) (a b : Bool) → p n ≡ a → q n ≡ b → (if a then suc (count_below n p) else count_below n p) < (if b then suc (count_below n q) else count_below n q)
    → (count_below n p < count_below n q → Passed n p q) → Passed (suc n) p q
at_top n p q false true e k h f = (n, omega arith, e, k)
at_top n p q true true e k h f = above n p q (f (omega (arith, h)))
at_top n p q true false e k h f = above n p q (f (omega (arith, h)))
at_top n p q false false e k h f = above n p q (f (omega (arith, h)))

fewer : (n : ℕ) (p q : ℕ → Bool) → count_below n p < count_below n q → Passed n p q
fewer zero p q h = absurd (omega (arith, h))
fewer (suc n) p q h = at_top n p q (p n) (q n) refl refl h (fewer n p q)

pub support_is_honest : SupportIsHonest
unfolding supported_by
support_is_honest says layout group sayer f c x is_compromised e shape few h =
    let there : enough_say says layout sayer c ≡ true = subst (λ (s : Support). is_there says layout group s ≡ true) e h in
    let many : nat_le (weak_of f) (sayers says f sayer c) ≡ true = subst (λ (o : Option ℕ). option_map_or (λ f. nat_le (weak_of f) (sayers says f sayer c)) o false ≡ true) shape there in
    let enough = leb-true (weak_of f) (sayers says f sayer c) many in
    fewer (size_of_group f) is_compromised (λ i. says (replica sayer i) c) (omega (arith, enough, few))

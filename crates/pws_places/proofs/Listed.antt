-- The places of a range that have a row: sorted, and found where they are.
use Rattle.std.proofs.Common.{◌≡◌, ◌≢◌, ℕ, zero, suc, ◌+◌, ◌<◌, ◌≤◌, ◌&&◌, Bool, true, false, cond, nat_eq, List, [], ◌∷◌, length, Option, Some, None, T, refl, sym, ◌∙◌, ap, subst, arith}
use Rattle.std.specs.List.{All, cons_option}
use Rattle.std.specs.Option.{option_map}
use Rattle.std.specs.Ordering.{nat_cmp, is_lt, is_eq, eq_by_cmp}
use Rattle.std.specs.Cmp.{nat_cmp_total, tied_itself}
use Rattle.std.specs.FinMap.Entries.{find, is_sorted, below_all}
use Rattle.std.proofs.lemmas.Bool.Decides.{nat_tests}
use Rattle.std.proofs.lemmas.List.Elements.{All-cons, All-nil}
use Rattle.pws_places.specs.Rings.{entries_by}

holds : (b : Bool) → b ≡ true → T b
holds b h = subst T (sym h) tt

pub both : (a b : Bool) → T a → T b → T (a && b)
both true b p q = q
both false b p q = p

less : (x a : ℕ) → x < a → T (is_lt (nat_cmp x a))
less x a h = holds (is_lt (nat_cmp x a)) (grind (arith, nat_tests))

pub apart : (q a : ℕ) → q ≢ a → eq_by_cmp nat_cmp q a ≡ false
apart q a h = grind (arith, nat_tests)

pub tied : (q a : ℕ) → q ≡ a → eq_by_cmp nat_cmp q a ≡ true
tied q a h = grind (arith, nat_tests)

module _ {X : Type 0} where
  below_go : (x a : ℕ) (o : Option X) (es : List (ℕ × X)) → x < a → T (below_all nat_cmp x es) → T (below_all nat_cmp x (cons_option (option_map (λ v. (a, v)) o) es))
  below_go x a None es h t = t
  below_go x a (Some v) es h t = both (is_lt (nat_cmp x a)) (below_all nat_cmp x es) (less x a h) t

  below : (row : ℕ → Option X) (x a n : ℕ) → x < a → T (below_all nat_cmp x (entries_by row a n))
  unfolding entries_by
  below row x a zero h = tt
  below row x a (suc n) h = below_go x a (row a) (entries_by row (a + 1) n) h (below row x (a + 1) n (omega arith))

  sorted_go : (a : ℕ) (o : Option X) (es : List (ℕ × X)) → T (below_all nat_cmp a es) → T (is_sorted nat_cmp es) → T (is_sorted nat_cmp (cons_option (option_map (λ v. (a, v)) o) es))
  sorted_go a None es b s = s
  sorted_go a (Some v) es b s = both (below_all nat_cmp a es) (is_sorted nat_cmp es) b s

  pub sorted : (row : ℕ → Option X) (a n : ℕ) → T (is_sorted nat_cmp (entries_by row a n))
  unfolding entries_by
  sorted row a zero = tt
  sorted row a (suc n) = sorted_go a (row a) (entries_by row (a + 1) n) (below row a (a + 1) n (omega arith)) (sorted row (a + 1) n)

  find_here : (a : ℕ) (o : Option X) (es : List (ℕ × X)) → find nat_cmp a es ≡ None → find nat_cmp a (cons_option (option_map (λ v. (a, v)) o) es) ≡ o
  find_here a None es h = h
  find_here a (Some v) es h = ap (λ r. cond (is_eq r) (Some v) (find nat_cmp a es)) (tied_itself nat_cmp_total a)

  find_past : (a q : ℕ) (o : Option X) (es : List (ℕ × X)) → q ≢ a → find nat_cmp q (cons_option (option_map (λ v. (a, v)) o) es) ≡ find nat_cmp q es
  find_past a q None es h = refl
  find_past a q (Some v) es h = ap (λ b. cond b (Some v) (find nat_cmp q es)) (apart q a h)

  -- what is before the range isn't found
  pub find_before : (row : ℕ → Option X) (a n q : ℕ) → q < a → find nat_cmp q (entries_by row a n) ≡ None
  unfolding entries_by
  find_before row a zero q h = refl
  find_before row a (suc n) q h = find_past a q (row a) (entries_by row (a + 1) n) (omega arith) ∙ find_before row (a + 1) n q (omega arith)

  -- nor is what is after it
  pub find_after : (row : ℕ → Option X) (a n q : ℕ) → a + n ≤ q → find nat_cmp q (entries_by row a n) ≡ None
  unfolding entries_by
  find_after row a zero q h = refl
  find_after row a (suc n) q h = find_past a q (row a) (entries_by row (a + 1) n) (omega arith) ∙ find_after row (a + 1) n q (omega arith)

  find_first : (row : ℕ → Option X) (a n q : ℕ) → q ≡ a → find nat_cmp q (entries_by row a (suc n)) ≡ row q
  unfolding entries_by
  find_first row a n q h = subst (λ p. find nat_cmp p (entries_by row a (suc n)) ≡ row p) (sym h) (find_here a (row a) (entries_by row (a + 1) n) (find_before row (a + 1) n a (omega arith)))

  find_by : (row : ℕ → Option X) (a n q : ℕ) (b : Bool) → nat_eq q a ≡ b → (q ≢ a → find nat_cmp q (entries_by row (a + 1) n) ≡ row q) → find nat_cmp q (entries_by row a (suc n)) ≡ row q
  unfolding entries_by
  find_by row a n q true e more = find_first row a n q (grind (arith, nat_tests))
  find_by row a n q false e more =
      let other : q ≢ a = grind (arith, nat_tests) in
      find_past a q (row a) (entries_by row (a + 1) n) other ∙ more other

  -- what is in it is
  pub find_in : (row : ℕ → Option X) (a n q : ℕ) → a ≤ q → q < a + n → find nat_cmp q (entries_by row a n) ≡ row q
  unfolding entries_by
  find_in row a zero q h k = absurd (omega arith)
  find_in row a (suc n) q h k = find_by row a n q (nat_eq q a) refl (λ other. find_in row (a + 1) n q (omega arith) (omega arith))

  -- rows that agree on a range have the same entries there
  pub same_listed : (f g : ℕ → Option X) (a n : ℕ) → ((q : ℕ) → a ≤ q → q < a + n → f q ≡ g q) → entries_by f a n ≡ entries_by g a n
  unfolding entries_by
  same_listed f g a zero h = refl
  same_listed f g a (suc n) h =
      ap (λ o. cons_option (option_map (λ v. (a, v)) o) (entries_by f (a + 1) n)) (h a (omega arith) (omega arith))
      ∙ ap (cons_option (option_map (λ v. (a, v)) (g a))) (same_listed f g (a + 1) n (λ q l m. h q (omega arith) (omega arith)))

  all_go : (P : ℕ × X → Type 0) (a : ℕ) (o : Option X) (es : List (ℕ × X)) → ((v : X) → P (a, v)) → All P es → All P (cons_option (option_map (λ v. (a, v)) o) es)
  all_go P a None es h t = t
  all_go P a (Some v) es h t = All-cons P (a, v) es (h v) t

  -- what holds of each place of a range holds of all entries there
  pub all_listed : (P : ℕ × X → Type 0) (row : ℕ → Option X) (a n : ℕ) → ((q : ℕ) (v : X) → a ≤ q → q < a + n → P (q, v)) → All P (entries_by row a n)
  unfolding entries_by
  all_listed P row a zero h = All-nil P
  all_listed P row a (suc n) h = all_go P a (row a) (entries_by row (a + 1) n) (λ v. h a v (omega arith) (omega arith)) (all_listed P row (a + 1) n (λ q v l m. h q v (omega arith) (omega arith)))

  -- a place without a row is passed over
  pub passed_over : (row : ℕ → Option X) (a b n m : ℕ) → b ≡ a + 1 → n ≡ suc m → row a ≡ None → entries_by row a n ≡ entries_by row b m
  unfolding entries_by
  passed_over row a b n m e f h =
      ap (entries_by row a) f ∙ (ap (λ o. cons_option (option_map (λ v. (a, v)) o) (entries_by row (a + 1) m)) h ∙ ap (λ c. entries_by row c m) (sym e))

  -- one with a row is the first
  pub first_is : (row : ℕ → Option X) (a b n m : ℕ) (v : X) → b ≡ a + 1 → n ≡ suc m → row a ≡ Some v → entries_by row a n ≡ (a, v) ∷ entries_by row b m
  unfolding entries_by
  first_is row a b n m v e f h =
      ap (entries_by row a) f ∙ (ap (λ o. cons_option (option_map (λ v. (a, v)) o) (entries_by row (a + 1) m)) h ∙ ap (λ c. (a, v) ∷ entries_by row c m) (sym e))

  pub none_left : (row : ℕ → Option X) (a : ℕ) → entries_by row a 0 ≡ []
  unfolding entries_by
  none_left row a = refl

  few_go : (a n : ℕ) (o : Option X) (es : List (ℕ × X)) → length es ≤ n → length (cons_option (option_map (λ v. (a, v)) o) es) ≤ suc n
  few_go a n None es h = omega arith
  few_go a n (Some v) es h = omega arith

  -- there are no more entries than places
  pub few_listed : (row : ℕ → Option X) (a n : ℕ) → length (entries_by row a n) ≤ n
  unfolding entries_by
  few_listed row a zero = omega arith
  few_listed row a (suc n) = few_go a n (row a) (entries_by row (a + 1) n) (few_listed row (a + 1) n)

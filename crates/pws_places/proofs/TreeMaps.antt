-- The entries of a `BTreeMap` as a finite map.
use Rattle.std.proofs.Common.{◌≡◌, Bool, true, false, cond, T, List, [], ◌∷◌, ◌++◌, filter, length, Some, None, ◌&&◌, refl, sym, ◌∙◌, ap, subst}
use Rattle.std.specs.declared.cmp.Ordering.{Ordering}
use Rattle.std.specs.declared.cmp.Ordering.TheVariants.{Less, Equal}
use Rattle.std.specs.BTreeMap.{is_at, insert_entry}
use Rattle.std.specs.Cmp.{IsTotalOrder, eq_by_cmp_equiv}
use Rattle.std.specs.List.{AllByRecursion}
use Rattle.std.specs.List.Sorted.{IsStrictlySortedBy}
use Rattle.std.specs.Map.{lookup, keys_of}
use Rattle.std.specs.Ordering.{is_lt, match_ordering}
use Rattle.std.specs.FinMap.{IsAntisymmetric, entries, len, from_entries, from_sorted, get, insert, remove, retain_keys, find, entries-from_sorted, get-from_entries, get-from_sorted, get-insert, get-remove, get-retain_keys, len-entries, same_map}
use Rattle.std.specs.FinMap.Entries.{is_sorted, below_all, find-where_key}
use Rattle.std.proofs.lemmas.Map.Keys.{sorted_head, sorted_tail}
use Rattle.pws_places.proofs.Listed.{both}

module _ {K X : Type 0} (R : K → K → Ordering) where
  find_is : (es : List (K × X)) (q : K) → find R q es ≡ lookup (is_at (R q)) es
  find_is [] q = refl
  find_is (e ∷ es) q = ap (cond (is_at (R q) e.0) (Some e.1)) (find_is es q)

  below_is : (k : K) (es : List (K × X)) → AllByRecursion (λ y. R k y ≡ Less) (keys_of es) → T (below_all R k es)
  below_is k [] h = tt
  below_is k (e ∷ es) h = both (is_lt (R k e.0)) (below_all R k es) (subst (λ r. T (is_lt r)) (sym h.0) tt) (below_is k es h.1)

  sorted_is : (es : List (K × X)) → IsStrictlySortedBy R (keys_of es) → T (is_sorted R es)
  sorted_is [] h = tt
  sorted_is (e ∷ es) h = both (below_all R e.0 es) (is_sorted R es) (below_is e.0 es (sorted_head R e.0 (keys_of es) h)) (sorted_is es (sorted_tail R e.0 (keys_of es) h))

  -- an entry below the first goes to the front
  first_put : (es : List (K × X)) (k : K) (v : X) → AllByRecursion (λ y. R k y ≡ Less) (keys_of es) → insert_entry R es k v ≡ (k, v) ∷ es
  first_put [] k v h = refl
  first_put (e ∷ es) k v h = ap (λ r. match_ordering r ((k, v) ∷ e ∷ es) ((e.0, v) ∷ es) (e ∷ insert_entry R es k v)) h.0

  -- and so does one that stands before the others in order
  pub put_before : (before es : List (K × X)) (k : K) (v : X) → IsStrictlySortedBy R (keys_of (before ++ (k, v) ∷ es)) → insert_entry R es k v ≡ (k, v) ∷ es
  put_before [] es k v h = first_put es k v (sorted_head R k (keys_of es) h)
  put_before (e ∷ before) es k v h = put_before before es k v (sorted_tail R e.0 (keys_of (before ++ (k, v) ∷ es)) h)

module _ {K X : Type 0} {R : K → K → Ordering} (o : IsTotalOrder R) where
  pub get_is : (es : List (K × X)) (q : K) → get (from_entries {R = R} es) q ≡ lookup (is_at (R q)) es
  get_is es q = get-from_entries o es q ∙ find_is R es q

  pub inserted : IsAntisymmetric R → (es fs : List (K × X)) (k : K) (v : X) → ((q : K) → lookup (is_at (R q)) fs ≡ cond (is_at (R k) q) (Some v) (lookup (is_at (R q)) es)) → from_entries {R = R} fs ≡ insert (from_entries es) k v
  inserted exact es fs k v h = same_map o exact _ _ (λ q.
      get_is fs q ∙ (h q ∙ (ap (λ b. cond b (Some v) (lookup (is_at (R q)) es)) ((eq_by_cmp_equiv o).symm k q)
      ∙ sym (get-insert o (from_entries es) k v q ∙ ap (cond (is_at (R q) k) (Some v)) (get_is es q)))))

  pub removed : IsAntisymmetric R → (es fs : List (K × X)) (k : K) → ((q : K) → lookup (is_at (R q)) fs ≡ cond (is_at (R k) q) None (lookup (is_at (R q)) es)) → from_entries {R = R} fs ≡ remove (from_entries es) k
  removed exact es fs k h = same_map o exact _ _ (λ q.
      get_is fs q ∙ (h q ∙ (ap (λ b. cond b None (lookup (is_at (R q)) es)) ((eq_by_cmp_equiv o).symm k q)
      ∙ sym (get-remove o (from_entries es) k q ∙ ap (cond (is_at (R q) k) None) (get_is es q)))))

  -- the entries whose keys pass a test
  pub kept : IsAntisymmetric R → (passes : K → Bool) (es : List (K × X)) → from_entries {R = R} (filter (λ e. passes e.0) es) ≡ retain_keys (from_entries es) passes
  kept exact passes es =
      let alike : (q x : K) → R q x ≡ Equal → passes x ≡ passes q = λ q x t. ap passes (sym (exact q x t)) in
      same_map o exact _ _ (λ q.
      get-from_entries o (filter (λ e. passes e.0) es) q ∙ (find-where_key R passes q (alike q) es
      ∙ sym (get-retain_keys (from_entries es) passes q (alike q) ∙ ap (λ g. cond (passes q) g None) (get-from_entries o es q))))

  -- entries in order are those of their map
  pub entries_are : IsAntisymmetric R → (es : List (K × X)) → IsStrictlySortedBy R (keys_of es) → entries (from_entries {R = R} es) ≡ es
  entries_are exact es h =
      let s = sorted_is R es h in
      ap entries (same_map o exact (from_entries es) (from_sorted es) (λ q. get-from_entries o es q ∙ sym (get-from_sorted R es q s))) ∙ entries-from_sorted R es s

  pub count_is : IsAntisymmetric R → (es : List (K × X)) → IsStrictlySortedBy R (keys_of es) → len (from_entries {R = R} es) ≡ length es
  count_is exact es h = len-entries (from_entries es) ∙ ap length (entries_are exact es h)

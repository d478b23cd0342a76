-- The entries of a `BTreeMap` as a finite map.
use Rattle.std.proofs.Common.{◌≡◌, Bool, true, false, List, [], ◌∷◌, filter, Some, None, cond, refl, sym, ◌∙◌, ap}
use Rattle.std.specs.declared.cmp.Ordering.{Ordering}
use Rattle.std.specs.Ordering.{eq_by_cmp}
use Rattle.std.specs.Cmp.{IsTotalOrder, eq_by_cmp_equiv}
use Rattle.std.specs.Map.{lookup}
use Rattle.std.specs.BTreeMap.{is_at}
use Rattle.std.specs.FinMap.{FinMap, IsAntisymmetric, from_entries, get, insert, remove, retain_keys, find, get-from_entries, get-insert, get-remove, get-retain_keys, same_map}
use Rattle.std.proofs.lemmas.Map.Views.{tells_apart}
use Rattle.std.proofs.lemmas.Map.Entries.{lookup-filter-keys}

find_is : {K X : Type 0} (R : K → K → Ordering) (es : List (K × X)) (q : K) → find R q es ≡ lookup (is_at (R q)) es
find_is R [] q = refl
find_is R (e ∷ es) q = ap (cond (is_at (R q) e.0) (Some e.1)) (find_is R es q)

module _ {K X : Type 0} {R : K → K → Ordering} (o : IsTotalOrder R) where
  -- what the map gives is found among the entries
  pub get_is : (es : List (K × X)) (q : K) → get (from_entries {R = R} es) q ≡ lookup (is_at (R q)) es
  get_is es q = get-from_entries o es q ∙ find_is R es q

  module _ (exact : IsAntisymmetric R) where
    -- entries after an insertion
    pub inserted : (es fs : List (K × X)) (k : K) (v : X) → ((q : K) → lookup (is_at (R q)) fs ≡ cond (is_at (R k) q) (Some v) (lookup (is_at (R q)) es)) → from_entries {R = R} fs ≡ insert (from_entries es) k v
    inserted es fs k v h = same_map o exact _ _ (λ q.
        get_is fs q ∙ h q ∙ ap (λ b. cond b (Some v) (lookup (is_at (R q)) es)) ((eq_by_cmp_equiv o).symm k q)
        ∙ sym (get-insert o (from_entries es) k v q ∙ ap (cond (is_at (R q) k) (Some v)) (get_is es q)))

    -- entries after a removal
    pub removed : (es fs : List (K × X)) (k : K) → ((q : K) → lookup (is_at (R q)) fs ≡ cond (is_at (R k) q) None (lookup (is_at (R q)) es)) → from_entries {R = R} fs ≡ remove (from_entries es) k
    removed es fs k h = same_map o exact _ _ (λ q.
        get_is fs q ∙ h q ∙ ap (λ b. cond b None (lookup (is_at (R q)) es)) ((eq_by_cmp_equiv o).symm k q)
        ∙ sym (get-remove o (from_entries es) k q ∙ ap (cond (is_at (R q) k) None) (get_is es q)))

    -- entries whose keys pass a test
    pub retained : (es : List (K × X)) (p : K → Bool) → from_entries {R = R} (filter (λ e. p e.0) es) ≡ retain_keys (from_entries es) p
    retained es p = same_map o exact _ _ (λ q.
        get_is (filter (λ e. p e.0) es) q
        ∙ lookup-filter-keys (is_at (R q)) p (p q) (λ k t. ap p (sym (tells_apart exact q k t))) es
        ∙ sym (get-retain_keys (from_entries es) p q (λ x e. ap p (sym (exact q x e))) ∙ ap (λ x. cond (p q) x None) (get_is es q)))

    back_by : (m : FinMap R X) (k q : K) (v : X) (b : Bool) → eq_by_cmp R q k ≡ b → get m k ≡ None → cond b None (cond b (Some v) (get m q)) ≡ get m q
    back_by m k q v true e h = sym (ap (get m) (tells_apart exact q k e) ∙ h)
    back_by m k q v false e h = refl

    -- what was inserted under a new key and is removed leaves the map as it was
    pub taken_back : (m : FinMap R X) (k : K) (v : X) → get m k ≡ None → remove (insert m k v) k ≡ m
    taken_back m k v h = same_map o exact (remove (insert m k v) k) m (λ q.
        get-remove o (insert m k v) k q
        ∙ (ap (cond (eq_by_cmp R q k) None) (get-insert o m k v q)
        ∙ back_by m k q v (eq_by_cmp R q k) refl h))

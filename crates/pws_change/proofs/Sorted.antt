-- Lists of items in the order of their keys, and the finite maps that they stand for.
use Rattle.std.proofs.Common.{◌≡◌, ℕ, zero, suc, ◌<◌, ◌≤◌, ◌&&◌, Bool, true, false, cond, List, [], ◌∷◌, map, length, get_or, set, filter, Some, None, T, refl, sym, ◌∙◌, ap, subst, arith}
use Rattle.std.specs.List.{list_all, insert}
use Rattle.std.specs.Ordering.{is_lt, is_eq}
use Rattle.std.specs.declared.cmp.Ordering.{Ordering}
use Rattle.std.specs.declared.cmp.Ordering.TheVariants.{Less, Equal, Greater}
use Rattle.std.specs.Cmp.{IsTotalOrder}
use Rattle.std.specs.FinMap.{IsAntisymmetric, from_sorted, retain_keys, entries-from_sorted, entries-insert, same_entries_map, same_map, get-from_sorted, get-retain_keys, get-empty}
use Rattle.std.specs.FinMap as fin
use Rattle.std.specs.FinMap.Entries.{is_sorted, below_all, by_order, put, find, where_key, is_sorted-put, is_sorted-where_key, find-where_key}
use Rattle.pws_change.specs.Rising.{rises}
use Rattle.pws_change.specs.Rows.{IsFoundAt, IsMissingAt}

pub holds : (b : Bool) → b ≡ true → T b
holds b h = subst T (sym h) tt

module _ {X K V : Type 0} (R : K → K → Ordering) (e : X → K × V) where
  -- items rise where their entries are sorted
  module _ (below : X → X → Bool) (same : (a b : X) → below a b ≡ is_lt (R (e a).0 (e b).0)) where
    all_below : (x : X) (ys : List X) → below_all R (e x).0 (map e ys) ≡ list_all (below x) ys
    all_below x [] = refl
    all_below x (y ∷ ys) = ap (λ t. t && below_all R (e x).0 (map e ys)) (sym (same x y)) ∙ ap (λ t. below x y && t) (all_below x ys)

    pub sorted_is : (xs : List X) → is_sorted R (map e xs) ≡ rises below xs
    sorted_is [] = refl
    sorted_is (x ∷ xs) = ap (λ t. t && is_sorted R (map e xs)) (all_below x xs) ∙ ap (λ t. list_all (below x) xs && t) (sorted_is xs)

  -- where the first i items are below a key and the next isn't, the key's entry is put there
  pub put_before : (k : K) (v : V) (xs : List X) (i : ℕ) (x : X) → e x ≡ (k, v) → i ≤ length xs → ((j : ℕ) (d : X) → j < i → R k (e (get_or xs j d)).0 ≡ Greater) → ((d : X) → i < length xs → R k (e (get_or xs i d)).0 ≡ Less)
      → map e (insert xs i x) ≡ put R k v (map e xs)
  put_before k v [] zero x is l before at = ap (λ z. z ∷ []) is
  put_before k v [] (suc i) x is l before at = absurd (omega arith)
  put_before k v (y ∷ ys) zero x is l before at =
      ap (λ z. z ∷ e y ∷ map e ys) is ∙ sym (ap (λ r. by_order r ((k, v) ∷ e y ∷ map e ys) (((e y).0, v) ∷ map e ys) (e y ∷ put R k v (map e ys))) (at y (omega arith)))
  put_before k v (y ∷ ys) (suc i) x is l before at =
      let rest = put_before k v ys i x is (omega arith) (λ j d m. before (suc j) d (omega arith)) (λ d m. at d (omega arith)) in
      ap (λ es. e y ∷ es) rest ∙ sym (ap (λ r. by_order r ((k, v) ∷ e y ∷ map e ys) (((e y).0, v) ∷ map e ys) (e y ∷ put R k v (map e ys))) (before 0 y (omega arith)))

  pub put_over : IsAntisymmetric R → (k : K) (v : V) (xs : List X) (i : ℕ) (x : X) → e x ≡ (k, v) → i < length xs → ((j : ℕ) (d : X) → j < i → R k (e (get_or xs j d)).0 ≡ Greater) → ((d : X) → R k (e (get_or xs i d)).0 ≡ Equal)
      → map e (set xs i x) ≡ put R k v (map e xs)
  put_over exact k v [] i x is l before at = absurd (omega arith)
  put_over exact k v (y ∷ ys) zero x is l before at =
      ap (λ z. z ∷ map e ys) (is ∙ ap (λ q. (q, v)) (exact k (e y).0 (at y))) ∙ sym (ap (λ r. by_order r ((k, v) ∷ e y ∷ map e ys) (((e y).0, v) ∷ map e ys) (e y ∷ put R k v (map e ys))) (at y))
  put_over exact k v (y ∷ ys) (suc i) x is l before at =
      let rest = put_over exact k v ys i x is (omega arith) (λ j d m. before (suc j) d (omega arith)) at in
      ap (λ es. e y ∷ es) rest ∙ sym (ap (λ r. by_order r ((k, v) ∷ e y ∷ map e ys) (((e y).0, v) ∷ map e ys) (e y ∷ put R k v (map e ys))) (before 0 y (omega arith)))

  module _ (o : IsTotalOrder R) where
    -- the map of items to which an entry was put
    pub made_put : (k : K) (v : V) (old new : List X) → T (is_sorted R (map e old)) → map e new ≡ put R k v (map e old) → T (is_sorted R (map e new)) × (from_sorted {R = R} (map e new) ≡ fin.insert (from_sorted (map e old)) k v)
    made_put k v old new sorted h =
        let s = subst (λ es. T (is_sorted R es)) (sym h) (is_sorted-put R o k v (map e old) sorted) in (
          s,
          same_entries_map (from_sorted (map e new)) (fin.insert (from_sorted (map e old)) k v)
              (entries-from_sorted R (map e new) s ∙ (h ∙ (ap (put R k v) (sym (entries-from_sorted R (map e old) sorted)) ∙ sym (entries-insert o (from_sorted (map e old)) k v)))),
        )

    filtered : (x : X) (b : Bool) (xs : List X) (es : List (K × V)) → map e xs ≡ es → map e (cond b (x ∷ xs) xs) ≡ cond b (e x ∷ es) es
    filtered x true xs es h = ap (λ ys. e x ∷ ys) h
    filtered x false xs es h = h

    map-filter : (p : K → Bool) (xs : List X) → map e (filter (λ x. p (e x).0) xs) ≡ where_key R p (map e xs)
    map-filter p [] = refl
    map-filter p (x ∷ xs) = filtered x (p (e x).0) (filter (λ x. p (e x).0) xs) (where_key R p (map e xs)) (map-filter p xs)

    -- the map of the items whose keys pass
    pub made_kept : IsAntisymmetric R → (p : K → Bool) (old : List X) → T (is_sorted R (map e old)) → T (is_sorted R (map e (filter (λ x. p (e x).0) old))) × (from_sorted {R = R} (map e (filter (λ x. p (e x).0) old)) ≡ retain_keys (from_sorted (map e old)) p)
    made_kept exact p old sorted =
        let s = subst (λ es. T (is_sorted R es)) (sym (map-filter p old)) (is_sorted-where_key R p (map e old) sorted) in
        let alike : (q x : K) → R q x ≡ Equal → p x ≡ p q = λ q x t. ap p (sym (exact q x t)) in (
          s,
          same_map o exact _ _ (λ q.
              get-from_sorted R (map e (filter (λ x. p (e x).0) old)) q s
              ∙ (ap (find R q) (map-filter p old) ∙ (find-where_key R p q (alike q) (map e old)
              ∙ (ap (λ g. cond (p q) g None) (sym (get-from_sorted R (map e old) q sorted)) ∙ sym (get-retain_keys (from_sorted (map e old)) p q (alike q)))))),
        )

module _ {X K V : Type 0} (R : K → K → Ordering) (e : X → K × V) where
  -- where a key is found, its entry is put over the one that is there
  pub put_found : IsAntisymmetric R → (k : K) (v : V) (xs : List X) (i : ℕ) (x : X) → e x ≡ (k, v) → IsFoundAt R (λ x. (e x).0) xs k i → map e (set xs i x) ≡ put R k v (map e xs)
  put_found exact k v xs i x is h = put_over R e exact k v xs i x is h.within h.before h.at

  -- where a key is missing, its entry is put where it belongs
  pub put_missing : (k : K) (v : V) (xs : List X) (i : ℕ) (x : X) → e x ≡ (k, v) → IsMissingAt R (λ x. (e x).0) xs k i → map e (insert xs i x) ≡ put R k v (map e xs)
  put_missing k v xs i x is h = put_before R e k v xs i x is h.within h.before h.after

-- the map of no entries is the empty one
pub made_empty : {K V : Type 0} (R : K → K → Ordering) → IsTotalOrder R → IsAntisymmetric R → from_sorted {K = K} {X = V} {R = R} [] ≡ fin.empty
made_empty R o exact = same_map o exact _ _ (λ q. get-from_sorted R [] q tt ∙ sym (get-empty R q))

module _ {X K V : Type 0} (R : K → K → Ordering) (e : X → K × V) (o : IsTotalOrder R) where
  pub find_found : (k : K) (xs : List X) (i : ℕ) (d : X) → IsFoundAt R (λ x. (e x).0) xs k i → find R k (map e xs) ≡ Some (e (get_or xs i d)).1
  find_found k [] i d h = absurd (let l = h.within in omega arith)
  find_found k (x ∷ xs) zero d h = ap (λ r. cond (is_eq r) (Some (e x).1) (find R k (map e xs))) (h.at x)
  find_found k (x ∷ xs) (suc i) d h =
      let l = h.within in
      ap (λ r. cond (is_eq r) (Some (e x).1) (find R k (map e xs))) (h.before 0 x (omega arith))
      ∙ find_found k xs i d (record { within = omega arith; before = λ j y m. h.before (suc j) y (omega arith); at = h.at })

  less_of : (r : Ordering) → T (is_lt r) → r ≡ Less
  less_of Less h = refl
  less_of Equal h = absurd h
  less_of Greater h = absurd h

  t_parts : (a b : Bool) → T (a && b) → T a × T b
  t_parts true true h = (tt, tt)
  t_parts true false h = absurd h
  t_parts false b h = absurd h

  none_above : (k y : K) (es : List (K × V)) → R k y ≡ Less → T (below_all R y es) → find R k es ≡ None
  none_above k y [] h b = refl
  none_above k y (f ∷ es) h b =
      let t = t_parts (is_lt (R y f.0)) (below_all R y es) b in
      ap (λ r. cond (is_eq r) (Some f.1) (find R k es)) (o.trans k y f.0 h (less_of (R y f.0) t.0)) ∙ none_above k y es h t.1

  pub find_missing : (k : K) (xs : List X) (i : ℕ) → T (is_sorted R (map e xs)) → IsMissingAt R (λ x. (e x).0) xs k i → find R k (map e xs) ≡ None
  find_missing k [] i s h = refl
  find_missing k (x ∷ xs) zero s h =
      let less = h.after x (omega arith) in
      ap (λ r. cond (is_eq r) (Some (e x).1) (find R k (map e xs))) less ∙ none_above k (e x).0 (map e xs) less (t_parts (below_all R (e x).0 (map e xs)) (is_sorted R (map e xs)) s).0
  find_missing k (x ∷ xs) (suc i) s h =
      let l = h.within in
      ap (λ r. cond (is_eq r) (Some (e x).1) (find R k (map e xs))) (h.before 0 x (omega arith))
      ∙ find_missing k xs i (t_parts (below_all R (e x).0 (map e xs)) (is_sorted R (map e xs)) s).1 (record { within = omega arith; before = λ j y m. h.before (suc j) y (omega arith); after = λ y m. h.after y (omega arith) })

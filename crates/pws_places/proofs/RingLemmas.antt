-- A ring of rows as a finite map.
use Rattle.std.proofs.Common.{◌≡◌, ◌≢◌, ◌⊎◌, inl, inr, ℕ, zero, suc, ◌+◌, ◌-◌, ◌<◌, ◌≤◌, ◌%◌, Bool, true, false, cond, nat_lt, nat_eq, List, [], ◌∷◌, ◌++◌, length, get_or, set, Option, Some, None, refl, sym, ◌∙◌, ap, subst, arith, is_some}
use Rattle.std.specs.Ordering.{nat_cmp, eq_by_cmp}
use Rattle.std.specs.Cmp.{nat_cmp_total}
use Rattle.std.specs.FinMap.{empty, entries, get, insert, remove, retain_keys, nat_cmp-IsAntisymmetric, get-empty, get-insert, get-remove, get-retain_keys, get-from_sorted, entries-from_sorted, same_map}
use Rattle.std.proofs.lemmas.Bool.Decides.{nat_tests}
use Rattle.std.proofs.lemmas.List.{get_or-set_same, get_or-set_other}
use Rattle.pws_base.specs.Places.{is_in_window}
use Rattle.pws_places.specs.Rings.{index_of, row_in, entries_by, rows_in}
use Rattle.pws_places.proofs.Listed.{apart, tied, sorted, find_in, find_before, find_after, same_listed}

-- a place of the window, in numbers
pub record IsOpen (low q : ℕ) : Type 0 where
  pub above : low < q
  pub near : q ≤ low + 32

pub opened : (low q : ℕ) → is_in_window low q ≡ true → IsOpen low q
opened low q h = record { above = grind (arith, nat_tests); near = grind (arith, nat_tests) }

pub closed : (low q : ℕ) → is_in_window low q ≡ false → (q ≤ low) ⊎ (low + 32 < q)
closed low q h = grind (arith, nat_tests)

pub open_test : (low q : ℕ) → low < q → q ≤ low + 32 → is_in_window low q ≡ true
open_test low q h k = grind (arith, nat_tests)

same_index : (low p q : ℕ) → IsOpen low p → IsOpen low q → p % 32 ≡ q % 32 → p ≡ q
same_index low p q h k e = omega (arith, h.above, h.near, k.above, k.near)

index_small : (p : ℕ) → p % 32 < 32
index_small p = omega arith

module _ {X : Type 0} where
  pub get_open : (low : ℕ) (ring : List (Option X)) (q : ℕ) → is_in_window low q ≡ true → get (rows_in low ring) q ≡ row_in ring q
  unfolding rows_in
  get_open low ring q h =
      let o = opened low q h in
      let a = o.above in
      let n = o.near in
      get-from_sorted nat_cmp (entries_by (row_in ring) (low + 1) 32) q (sorted (row_in ring) (low + 1) 32) ∙ find_in (row_in ring) (low + 1) 32 q (omega arith) (omega arith)

  pub get_closed : (low : ℕ) (ring : List (Option X)) (q : ℕ) → is_in_window low q ≡ false → get (rows_in low ring) q ≡ None
  unfolding rows_in
  get_closed low ring q h =
      let es = entries_by (row_in ring) (low + 1) 32 in
      get-from_sorted nat_cmp es q (sorted (row_in ring) (low + 1) 32)
      ∙ elim (closed low q h) [
        | inl l ↦ find_before (row_in ring) (low + 1) 32 q (omega arith)
        | inr l ↦ find_after (row_in ring) (low + 1) 32 q (omega arith)
      ]

  -- a row that is written is there, and others stay
  row_same : (ring : List (Option X)) (p q : ℕ) (o : Option X) → length ring ≡ 32 → q ≡ p → row_in (set ring (index_of p) o) q ≡ o
  row_same ring p q o l e = subst (λ r. row_in (set ring (index_of p) o) r ≡ o) (sym e) (get_or-set_same ring (index_of p) o None (omega arith))

  row_other : (ring : List (Option X)) (p q : ℕ) (o : Option X) → (q % 32 ≡ p % 32 → ⊥) → row_in (set ring (index_of p) o) q ≡ row_in ring q
  row_other ring p q o n = get_or-set_other ring (index_of p) (index_of q) o None n

  row_apart : (low : ℕ) (ring : List (Option X)) (p q : ℕ) (o : Option X) → IsOpen low p → IsOpen low q → q ≢ p → row_in (set ring (index_of p) o) q ≡ row_in ring q
  row_apart low ring p q o h k n = row_other ring p q o (λ e. n (same_index low q p k h e))

  -- what the map gives after the row of a place of the window was written
  pub changed : (low : ℕ) (ring : List (Option X)) (p q : ℕ) (o : Option X) → length ring ≡ 32 → is_in_window low p ≡ true
      → get (rows_in low (set ring (index_of p) o)) q ≡ cond (eq_by_cmp nat_cmp q p) o (get (rows_in low ring) q)
  changed low ring p q o l h = by_test (nat_eq q p) refl
    where
      same : q ≡ p → get (rows_in low (set ring (index_of p) o)) q ≡ cond (eq_by_cmp nat_cmp q p) o (get (rows_in low ring) q)
      same e =
          get_open low (set ring (index_of p) o) q (subst (λ r. is_in_window low r ≡ true) (sym e) h) ∙ (row_same ring p q o l e
          ∙ ap (λ b. cond b o (get (rows_in low ring) q)) (sym (tied q p e)))

      inside : q ≢ p → is_in_window low q ≡ true → get (rows_in low (set ring (index_of p) o)) q ≡ get (rows_in low ring) q
      inside n w = get_open low (set ring (index_of p) o) q w ∙ (row_apart low ring p q o (opened low p h) (opened low q w) n ∙ sym (get_open low ring q w))

      either : (b : Bool) → is_in_window low q ≡ b → q ≢ p → get (rows_in low (set ring (index_of p) o)) q ≡ get (rows_in low ring) q
      either true w n = inside n w
      either false w n = get_closed low (set ring (index_of p) o) q w ∙ sym (get_closed low ring q w)

      by_test : (b : Bool) → nat_eq q p ≡ b → get (rows_in low (set ring (index_of p) o)) q ≡ cond (eq_by_cmp nat_cmp q p) o (get (rows_in low ring) q)
      by_test true e = same (grind (arith, nat_tests))
      by_test false e =
          let n : q ≢ p = grind (arith, nat_tests) in
          either (is_in_window low q) refl n ∙ ap (λ b. cond b o (get (rows_in low ring) q)) (sym (apart q p n))

  pub put_is : (low : ℕ) (ring : List (Option X)) (p : ℕ) (v : X) → length ring ≡ 32 → is_in_window low p ≡ true → rows_in low (set ring (index_of p) (Some v)) ≡ insert (rows_in low ring) p v
  put_is low ring p v l h = same_map nat_cmp_total nat_cmp-IsAntisymmetric _ _ (λ q. changed low ring p q (Some v) l h ∙ sym (get-insert nat_cmp_total (rows_in low ring) p v q))

  pub freed_is : (low : ℕ) (ring : List (Option X)) (p : ℕ) → length ring ≡ 32 → is_in_window low p ≡ true → rows_in low (set ring (index_of p) None) ≡ remove (rows_in low ring) p
  freed_is low ring p l h = same_map nat_cmp_total nat_cmp-IsAntisymmetric _ _ (λ q. changed low ring p q None l h ∙ sym (get-remove nat_cmp_total (rows_in low ring) p q))

  stays_at : (low : ℕ) (ring : List (Option X)) (p q : ℕ) → is_in_window low p ≡ false → (b : Bool) → nat_eq q p ≡ b → get (rows_in low ring) q ≡ cond (eq_by_cmp nat_cmp q p) None (get (rows_in low ring) q)
  stays_at low ring p q h true e =
      let same : q ≡ p = grind (arith, nat_tests) in
      get_closed low ring q (subst (λ r. is_in_window low r ≡ false) (sym same) h) ∙ ap (λ b. cond b None (get (rows_in low ring) q)) (sym (tied q p same))
  stays_at low ring p q h false e =
      let other : q ≢ p = grind (arith, nat_tests) in
      ap (λ b. cond b None (get (rows_in low ring) q)) (sym (apart q p other))

  -- what is out of the window isn't there to be removed
  pub stays_is : (low : ℕ) (ring : List (Option X)) (p : ℕ) → is_in_window low p ≡ false → rows_in low ring ≡ remove (rows_in low ring) p
  stays_is low ring p h = same_map nat_cmp_total nat_cmp-IsAntisymmetric _ _ (λ q. stays_at low ring p q h (nat_eq q p) refl ∙ sym (get-remove nat_cmp_total (rows_in low ring) p q))

  free_at : (low : ℕ) (ring : List (Option X)) → ((i : ℕ) → get_or ring i None ≡ None) → (q : ℕ) (b : Bool) → is_in_window low q ≡ b → get (rows_in low ring) q ≡ None
  free_at low ring free q true w = get_open low ring q w ∙ free (index_of q)
  free_at low ring free q false w = get_closed low ring q w

  -- a free ring is no map
  pub free_is : (low : ℕ) (ring : List (Option X)) → ((i : ℕ) → get_or ring i None ≡ None) → rows_in low ring ≡ empty
  free_is low ring free = same_map nat_cmp_total nat_cmp-IsAntisymmetric _ _ (λ q. free_at low ring free q (is_in_window low q) refl ∙ sym (get-empty nat_cmp q))

  kept_at : (low high : ℕ) (ring : List (Option X)) (q : ℕ) → get (retain_keys (rows_in low ring) (λ p. nat_lt high p)) q ≡ cond (nat_lt high q) (get (rows_in low ring) q) None
  kept_at low high ring q = get-retain_keys (rows_in low ring) (λ p. nat_lt high p) q (λ x e. ap (nat_lt high) (sym (nat_cmp-IsAntisymmetric q x e)))

  -- above a mark that is above the window nothing is kept
  far_at : (low high : ℕ) (ring : List (Option X)) (q : ℕ) → low + 32 ≤ high → (b : Bool) → nat_lt high q ≡ b → cond b (get (rows_in low ring) q) None ≡ None
  far_at low high ring q far true t =
      let out : is_in_window low q ≡ false = grind (arith, nat_tests) in
      get_closed low ring q out
  far_at low high ring q far false t = refl

  pub far_is : (low high : ℕ) (ring new : List (Option X)) → low + 32 ≤ high → ((i : ℕ) → get_or new i None ≡ None) → rows_in high new ≡ retain_keys (rows_in low ring) (λ p. nat_lt high p)
  far_is low high ring new far free = same_map nat_cmp_total nat_cmp-IsAntisymmetric _ _ (λ q.
      free_at high new free q (is_in_window high q) refl ∙ sym (kept_at low high ring q ∙ far_at low high ring q far (nat_lt high q) refl))

  -- the rows of a ring from which the places above one mark and up to another were freed
  pub record IsFreed (low high : ℕ) (ring new : List (Option X)) : Type 0 where
    pub rises : low ≤ high
    pub near : high < low + 32
    pub freed : (q : ℕ) → low < q → q ≤ high → row_in new q ≡ None
    pub kept : (q : ℕ) → high < q → q ≤ low + 32 → row_in new q ≡ row_in ring q

  -- a place that comes into the window has the row of one that was freed
  comes : (low high : ℕ) (ring new : List (Option X)) → IsFreed low high ring new → (q : ℕ) → IsOpen high q → low + 32 < q → row_in new q ≡ None
  comes low high ring new f q w past =
      let r = f.rises in
      let n = w.near in
      ap (λ i. get_or new i None) (let e : q % 32 ≡ (q - 32) % 32 = omega arith in e) ∙ f.freed (q - 32) (omega arith) (omega arith)

  open_at : (low high : ℕ) (ring new : List (Option X)) → IsFreed low high ring new → (q : ℕ) → is_in_window high q ≡ true → (b : Bool) → is_in_window low q ≡ b → get (rows_in high new) q ≡ get (rows_in low ring) q
  open_at low high ring new f q w true v =
      get_open high new q w ∙ (f.kept q (opened high q w).above (opened low q v).near ∙ sym (get_open low ring q v))
  open_at low high ring new f q w false v =
      let o = opened high q w in
      let a = o.above in
      let r = f.rises in
      let past : low + 32 < q = elim (closed low q v) [ inl l ↦ absurd (omega arith) | inr l ↦ l ] in
      get_open high new q w ∙ (comes low high ring new f q o past ∙ sym (get_closed low ring q v))

  closed_at : (low high : ℕ) (ring new : List (Option X)) → IsFreed low high ring new → (q : ℕ) → is_in_window high q ≡ false → (b : Bool) → nat_lt high q ≡ b → None ≡ cond b (get (rows_in low ring) q) None
  closed_at low high ring new f q w true t =
      let r = f.rises in
      let out : is_in_window low q ≡ false = grind (arith, nat_tests) in
      sym (get_closed low ring q out)
  closed_at low high ring new f q w false t = refl

  near_at : (low high : ℕ) (ring new : List (Option X)) → IsFreed low high ring new → (q : ℕ) (b : Bool) → is_in_window high q ≡ b → get (rows_in high new) q ≡ cond (nat_lt high q) (get (rows_in low ring) q) None
  near_at low high ring new f q true w =
      let above : nat_lt high q ≡ true = grind (arith, nat_tests) in
      open_at low high ring new f q w (is_in_window low q) refl ∙ ap (λ b. cond b (get (rows_in low ring) q) None) (sym above)
  near_at low high ring new f q false w = get_closed high new q w ∙ closed_at low high ring new f q w (nat_lt high q) refl

  pub near_is : (low high : ℕ) (ring new : List (Option X)) → IsFreed low high ring new → rows_in high new ≡ retain_keys (rows_in low ring) (λ p. nat_lt high p)
  near_is low high ring new f = same_map nat_cmp_total nat_cmp-IsAntisymmetric _ _ (λ q. near_at low high ring new f q (is_in_window high q) refl ∙ sym (kept_at low high ring q))

  -- the entries of the map, place by place
  pub entries_are : (low : ℕ) (ring : List (Option X)) → entries_by (get (rows_in low ring)) (low + 1) 32 ≡ entries (rows_in low ring)
  unfolding rows_in
  entries_are low ring =
      same_listed (get (rows_in low ring)) (row_in ring) (low + 1) 32 (λ q l m. get_open low ring q (open_test low q (omega arith) (omega arith)))
      ∙ sym (entries-from_sorted nat_cmp (entries_by (row_in ring) (low + 1) 32) (sorted (row_in ring) (low + 1) 32))

  -- a free row more, and one freed
  pub free_pushed : (ring : List (Option X)) → ((i : ℕ) → get_or ring i None ≡ None) → (i : ℕ) → get_or (ring ++ None ∷ []) i None ≡ None
  free_pushed [] free zero = refl
  free_pushed [] free (suc i) = refl
  free_pushed (o ∷ ring) free zero = free zero
  free_pushed (o ∷ ring) free (suc i) = free_pushed ring (λ j. free (suc j)) i

  free_by : (ring : List (Option X)) (n : ℕ) → n < length ring → ((i : ℕ) → i < n → get_or ring i None ≡ None) → (i : ℕ) (b : Bool) → nat_eq i n ≡ b → i < n + 1 → get_or (set ring n None) i None ≡ None
  free_by ring n l free i true e h =
      let same : i ≡ n = grind (arith, nat_tests) in
      subst (λ j. get_or (set ring n None) j None ≡ None) (sym same) (get_or-set_same ring n None None l)
  free_by ring n l free i false e h =
      let other : i ≢ n = grind (arith, nat_tests) in
      get_or-set_other ring n i None None other ∙ free i (omega arith)

  pub free_more : (ring : List (Option X)) (n : ℕ) → n < length ring → ((i : ℕ) → i < n → get_or ring i None ≡ None) → (i : ℕ) → i < n + 1 → get_or (set ring n None) i None ≡ None
  free_more ring n l free i h = free_by ring n l free i (nat_eq i n) refl h

  past : (ring : List (Option X)) (i : ℕ) → length ring ≤ i → get_or ring i None ≡ None
  past [] i h = refl
  past (o ∷ ring) zero h = absurd (omega arith)
  past (o ∷ ring) (suc i) h = past ring i (omega arith)

  all_by : (ring : List (Option X)) (n : ℕ) → length ring ≤ n → ((i : ℕ) → i < n → get_or ring i None ≡ None) → (i : ℕ) (b : Bool) → nat_lt i n ≡ b → get_or ring i None ≡ None
  all_by ring n l free i true e = free i (grind (arith, nat_tests))
  all_by ring n l free i false e = past ring i (grind (arith, nat_tests))

  -- where the first rows are free, as many as there are, all are
  pub all_free : (ring : List (Option X)) (n : ℕ) → length ring ≤ n → ((i : ℕ) → i < n → get_or ring i None ≡ None) → (i : ℕ) → get_or ring i None ≡ None
  all_free ring n l free i = all_by ring n l free i (nat_lt i n) refl

  inside_by : (low : ℕ) (ring : List (Option X)) (q : ℕ) (b : Bool) → is_in_window low q ≡ b → is_some (get (rows_in low ring) q) ≡ true → b ≡ true
  inside_by low ring q true w h = refl
  inside_by low ring q false w h = sym (ap is_some (get_closed low ring q w)) ∙ h

  -- what has a row is in the window
  pub inside : (low : ℕ) (ring : List (Option X)) (q : ℕ) → is_some (get (rows_in low ring) q) ≡ true → is_in_window low q ≡ true
  inside low ring q h = inside_by low ring q (is_in_window low q) refl h

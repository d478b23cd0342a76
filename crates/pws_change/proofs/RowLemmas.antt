-- The rows of P and of Q, and what the sets give. For proofs alone; the crates above cite it.
use Rattle.std.proofs.Common.{◌≡◌, ◌⊎◌, inl, inr, ℕ, ◌<◌, ◌&&◌, Bool, true, false, List, [], ◌∷◌, map, Option, Some, None, Contains, refl, sym, ◌∙◌, ap, subst, nat_lt}
use Rattle.std.specs.List.{list_all}
use Rattle.std.specs.Ordering.{nat_cmp, is_lt}
use Rattle.std.specs.declared.cmp.Ordering.{Ordering}
use Rattle.std.specs.Cmp.Lexicographic.{slice_cmp}
use Rattle.std.specs.Str.{bytes_eq}
use Rattle.std.specs.Option.{unwrap_or}
use Rattle.std.specs.FinMap.{FinMap, get, insert, entries, entries_sorted, empty, get-empty}
use Rattle.std.specs.FinMap.Entries.{is_sorted, below_all}
use Rattle.std.proofs.lemmas.Bool.{false≢true, cases_eq, lt-ltb, ltb-true}
use Rattle.std.proofs.lemmas.Slice.Eq.{bytes_eq-Decides}
use Rattle.std.proofs.lemmas.Cmp.{nat_cmp_total, nat_list_cmp_total}
use Rattle.std.proofs.lemmas.Map.Lookups.{exact_unsigned, exact_bytes}
use Rattle.pws_msg.specs.declared.changes.PRow.{PRow}
use Rattle.pws_msg.specs.declared.changes.QRow.{QRow}
use Rattle.pws_msg.specs.declared.changes.Seen.{Seen}
use Rattle.pws_base.proofs.Maps.{entry_get, get_entry, put_here, put_other, retain_cases, retain_kept}
use Rattle.pws_base.proofs.Members.{map_has, has_map}
use Rattle.pws_change.specs.Rising.{rises, is_digest_below}
use Rattle.pws_change.specs.Sets.{Prepared, PrePrepared, Digests, p_rows, q_rows, seen_of, row_at, with_prepared, with_pre_prepared, trimmed}
use Rattle.pws_change.specs.SetLaws.{PreparedRows, PrePreparedRows, SeenRows, RowsRise, NotedPrepared, NotedPrePrepared, TrimmedRows}
use Rattle.pws_change.proofs.Sorted.{sorted_is}
use Rattle.pws_change.proofs.Placed.{lt_is, true_of}

abbrev p_row : ℕ × (List ℕ × ℕ) → PRow
p_row e = record { place = e.0; digest = e.1.0; view = e.1.1 }

abbrev seen : List ℕ × ℕ → Seen
seen e = record { digest = e.0; view = e.1 }

abbrev q_row : ℕ × Digests → QRow
q_row e = record { place = e.0; digests = seen_of e.1 }

pub p_row_get : (m : Prepared) (r : PRow) → Contains (p_rows m) r → get m r.place ≡ Some (r.digest, r.view)
p_row_get m r c =
    let x = map_has p_row (entries m) r c in
    subst (λ (r : PRow). get m r.place ≡ Some (r.digest, r.view)) x.2 (entry_get nat_cmp_total m x.0.0 x.0.1 x.1)

pub get_p_row : (m : Prepared) (place : ℕ) (digest : List ℕ) (view : ℕ) → get m place ≡ Some (digest, view) → Contains (p_rows m) (record { place = place; digest = digest; view = view })
get_p_row m place digest view h = has_map p_row (entries m) (place, (digest, view)) (get_entry nat_cmp_total exact_unsigned m place (digest, view) h)

-- a row of Q is the set's row at its place
pub q_row_get : (m : PrePrepared) (row : QRow) → Contains (q_rows m) row → (d : Digests) × (get m row.place ≡ Some d) × (row.digests ≡ seen_of d)
q_row_get m row c =
    let x = map_has q_row (entries m) row c in
    (x.0.1, subst (λ (r : QRow). get m r.place ≡ Some x.0.1) x.2 (entry_get nat_cmp_total m x.0.0 x.0.1 x.1), sym (ap (λ (r : QRow). r.digests) x.2))

pub get_q_row : (m : PrePrepared) (place : ℕ) (d : Digests) → get m place ≡ Some d → Contains (q_rows m) (record { place = place; digests = seen_of d })
get_q_row m place d h = has_map q_row (entries m) (place, d) (get_entry nat_cmp_total exact_unsigned m place d h)

pub q_seen_get : (m : PrePrepared) (row : QRow) → Contains (q_rows m) row → (e : Seen) → Contains row.digests e → get (row_at m row.place) e.digest ≡ Some e.view
q_seen_get m row c e k =
    let x = q_row_get m row c in
    let y = map_has seen (entries x.0) e (subst (λ (ds : List Seen). Contains ds e) x.2 k) in
    ap (λ (o : Option Digests). get (unwrap_or o empty) e.digest) x.1 ∙ subst (λ (s : Seen). get x.0 s.digest ≡ Some s.view) y.2 (entry_get nat_list_cmp_total x.0 y.0.0 y.0.1 y.1)

q_row_by : (m : PrePrepared) (place : ℕ) (digest : List ℕ) (view : ℕ) (o : Option Digests) → get m place ≡ o → get (unwrap_or o empty) digest ≡ Some view → (row : QRow) × Contains (q_rows m) row × (row.place ≡ place) × Contains row.digests (record { digest = digest; view = view })
q_row_by m place digest view None e h = absurd (let i : ◌≡◌ {A = Option ℕ} None (Some view) = sym (get-empty (slice_cmp nat_cmp) digest) ∙ h in cc)
q_row_by m place digest view (Some row) e h = (
  q_row (place, row),
  get_q_row m place row e,
  refl,
  has_map seen (entries row) (digest, view) (get_entry nat_list_cmp_total exact_bytes row digest view h),
)

pub get_q_seen : (m : PrePrepared) (place : ℕ) (digest : List ℕ) (view : ℕ) → get (row_at m place) digest ≡ Some view → (row : QRow) × Contains (q_rows m) row × (row.place ≡ place) × Contains row.digests (record { digest = digest; view = view })
get_q_seen m place digest view h = q_row_by m place digest view (get m place) refl h

pub prepared_rows : PreparedRows
prepared_rows m r = (p_row_get m r, get_p_row m r.place r.digest r.view)

pub pre_prepared_rows : PrePreparedRows
pre_prepared_rows = record { row = get_q_row; from = q_row_get }

pub seen_rows : SeenRows
seen_rows m place s = (
  get_q_seen m place s.digest s.view,
  λ x. subst (λ p. get (row_at m p) s.digest ≡ Some s.view) x.2 (q_seen_get m x.0 x.1 s x.3),
)

-- rows made of the entries of a map rise
back : {A B : Type 0} (e : B → A) (f : A → B) → ((x : A) → e (f x) ≡ x) → (xs : List A) → map e (map f xs) ≡ xs
back e f same [] = refl
back e f same (x ∷ xs) = λ i. same x i ∷ back e f same xs i

pub rows_rise : {K V X : Type 0} (R : K → K → Ordering) (e : X → K × V) (f : K × V → X) → ((x : K × V) → e (f x) ≡ x) → (below : X → X → Bool) → ((a b : X) → below a b ≡ is_lt (R (e a).0 (e b).0)) → (m : FinMap R V)
    → rises below (map f (entries m)) ≡ true
rows_rise R e f same below is m = sym (sorted_is R e below is (map f (entries m))) ∙ (ap (is_sorted R) (back e f same (entries m)) ∙ true_of (is_sorted R (entries m)) (entries_sorted m))

pub p_rows_rise : (m : Prepared) → rises (λ a b. nat_lt a.place b.place) (p_rows m) ≡ true
p_rows_rise m = rows_rise nat_cmp (λ (r : PRow). (r.place, (r.digest, r.view))) p_row (λ x. refl) (λ a b. nat_lt a.place b.place) (λ a b. lt_is a.place b.place) m

rise_by : (es : List (ℕ × Digests)) → rises (λ a b. nat_lt a.place b.place) (map q_row es) ≡ is_sorted nat_cmp es
rise_by [] = refl
rise_by (x ∷ es) = λ i. below es i && rise_by es i
  where
    below : (es : List (ℕ × Digests)) → list_all (λ (b : QRow). nat_lt x.0 b.place) (map q_row es) ≡ below_all nat_cmp x.0 es
    below [] = refl
    below (y ∷ es) = λ i. lt_is x.0 y.0 i && below es i

pub q_rows_rise : (m : PrePrepared) → rises (λ a b. nat_lt a.place b.place) (q_rows m) ≡ true
q_rows_rise m = rise_by (entries m) ∙ true_of (is_sorted nat_cmp (entries m)) (entries_sorted m)

pub seen_rise : (m : Digests) → rises (λ a b. is_digest_below a.digest b.digest) (seen_of m) ≡ true
seen_rise m = rows_rise (slice_cmp nat_cmp) (λ (s : Seen). (s.digest, s.view)) seen (λ x. refl) (λ a b. is_digest_below a.digest b.digest) (λ a b. refl) m

pub rows_are_rising : RowsRise
rows_are_rising = record { prepared = p_rows_rise; pre_prepared = q_rows_rise; digests = seen_rise }

-- after a digest was noted
same_row : (r : PRow) (place : ℕ) (digest : List ℕ) (view : ℕ) → r.place ≡ place → ◌≡◌ {A = List ℕ × ℕ} (r.digest, r.view) (digest, view) → r ≡ record { place = place; digest = digest; view = view }
same_row r place digest view e d = λ i. record { place = e i; digest = (d i).0; view = (d i).1 }

some_is : {X : Type 0} (x y : X) → ◌≡◌ {A = Option X} (Some x) (Some y) → x ≡ y
some_is x y h = ap (λ o. unwrap_or o x) h

module _ (m : Prepared) (place : ℕ) (digest : List ℕ) (view : ℕ) (r : PRow) where
  put_at : r.place ≡ place → get (with_prepared m place digest view) r.place ≡ Some (digest, view)
  put_at e = subst (λ q. get (with_prepared m place digest view) q ≡ Some (digest, view)) (sym e) (put_here nat_cmp_total m place (digest, view))

  put_off : (r.place ≡ place → ⊥) → get (with_prepared m place digest view) r.place ≡ get m r.place
  put_off n = put_other nat_cmp_total exact_unsigned m place r.place (digest, view) n

  noted_p : Contains (p_rows (with_prepared m place digest view)) r → (r ≡ record { place = place; digest = digest; view = view }) ⊎ ((r.place ≡ place → ⊥) × Contains (p_rows m) r)
  noted_p c =
      let at = p_row_get (with_prepared m place digest view) r c in
      elim (cases_eq r.place place) [
        | inl e ↦ inl (same_row r place digest view e (some_is {X = List ℕ × ℕ} (r.digest, r.view) (digest, view) (sym at ∙ put_at e)))
        | inr n ↦ inr (n, get_p_row m r.place r.digest r.view (sym (put_off n) ∙ at))
      ]

  p_noted : (r ≡ record { place = place; digest = digest; view = view }) ⊎ ((r.place ≡ place → ⊥) × Contains (p_rows m) r) → Contains (p_rows (with_prepared m place digest view)) r
  p_noted (inl e) = subst (λ x. Contains (p_rows (with_prepared m place digest view)) x) (sym e) (get_p_row (with_prepared m place digest view) place digest view (put_here nat_cmp_total m place (digest, view)))
  p_noted (inr x) = get_p_row (with_prepared m place digest view) r.place r.digest r.view (put_off x.0 ∙ p_row_get m r x.1)

pub noted_prepared : NotedPrepared
noted_prepared m place digest view r = (noted_p m place digest view r, p_noted m place digest view r)

digest_by : (a b : List ℕ) (t : Bool) → bytes_eq a b ≡ t → (a ≡ b) ⊎ (a ≡ b → ⊥)
digest_by a b true e = inl ((bytes_eq-Decides a b).0 e)
digest_by a b false e = inr (λ h. false≢true (sym e ∙ (bytes_eq-Decides a b).1 h))

module _ (m : PrePrepared) (place : ℕ) (digest : List ℕ) (view : ℕ) (p : ℕ) (s : Seen) where
  row_here : p ≡ place → row_at (with_pre_prepared m place digest view) p ≡ insert (row_at m place) digest view
  row_here e =
      ap (λ (o : Option Digests). unwrap_or o empty)
      (subst (λ q. get (with_pre_prepared m place digest view) q ≡ Some (insert (row_at m place) digest view)) (sym e) (put_here nat_cmp_total m place (insert (row_at m place) digest view)))

  row_off : (p ≡ place → ⊥) → row_at (with_pre_prepared m place digest view) p ≡ row_at m p
  row_off n = ap (λ (o : Option Digests). unwrap_or o empty) (put_other nat_cmp_total exact_unsigned m place p (insert (row_at m place) digest view) n)

  seen_off : (s.digest ≡ digest → ⊥) → get (insert (row_at m place) digest view) s.digest ≡ get (row_at m place) s.digest
  seen_off n = put_other nat_list_cmp_total exact_bytes (row_at m place) digest s.digest view n

  abbrev Now : Type 0
  Now = get (row_at (with_pre_prepared m place digest view) p) s.digest ≡ Some s.view

  abbrev Before : Type 0
  Before = ((p ≡ place) × (s.digest ≡ digest) × (s.view ≡ view)) ⊎ (((p ≡ place) × (s.digest ≡ digest) → ⊥) × (get (row_at m p) s.digest ≡ Some s.view))

  noted_here : p ≡ place → get (insert (row_at m place) digest view) s.digest ≡ Some s.view → Before
  noted_here e k =
      elim (digest_by s.digest digest (bytes_eq s.digest digest) refl) [
        | inl d ↦ (
            let put : get (insert (row_at m place) digest view) s.digest ≡ Some view = subst (λ x. get (insert (row_at m place) digest view) x ≡ Some view) (sym d) (put_here nat_list_cmp_total (row_at m place) digest view) in
            inl (e, d, some_is s.view view (sym k ∙ put)))
        | inr n ↦ inr ((λ x. n x.1), subst (λ q. get (row_at m q) s.digest ≡ Some s.view) (sym e) (sym (seen_off n) ∙ k))
      ]

  noted_q : Now → Before
  noted_q h =
      elim (cases_eq p place) [
        | inl e ↦ noted_here e (subst (λ (r : Digests). get r s.digest ≡ Some s.view) (row_here e) h)
        | inr n ↦ inr ((λ x. n x.0), subst (λ (r : Digests). get r s.digest ≡ Some s.view) (row_off n) h)
      ]

  q_noted : Before → Now
  q_noted (inl x) =
      subst (λ (r : Digests). get r s.digest ≡ Some s.view) (sym (row_here x.0))
      (subst (λ d. get (insert (row_at m place) digest view) d ≡ Some s.view) (sym x.1) (put_here nat_list_cmp_total (row_at m place) digest view ∙ ap (λ v. Some v) (sym x.2)))
  q_noted (inr x) =
      elim (cases_eq p place) [
        | inl e ↦ subst (λ (r : Digests). get r s.digest ≡ Some s.view) (sym (row_here e)) (seen_off (λ d. x.0 (e, d)) ∙ subst (λ q. get (row_at m q) s.digest ≡ Some s.view) e x.1)
        | inr n ↦ subst (λ (r : Digests). get r s.digest ≡ Some s.view) (sym (row_off n)) x.1
      ]

pub noted_pre_prepared : NotedPrePrepared
noted_pre_prepared m place digest view p s = (noted_q m place digest view p s, q_noted m place digest view p s)

-- after the sets were trimmed
trimmed_p : (m : Prepared) (low : ℕ) (r : PRow) → Contains (p_rows (trimmed low m)) r → (low < r.place) × Contains (p_rows m) r
trimmed_p m low r c =
    let t = retain_cases exact_unsigned m (λ place. nat_lt low place) r.place (r.digest, r.view) (p_row_get (trimmed low m) r c) in
    (ltb-true low r.place t.0, get_p_row m r.place r.digest r.view t.1)

p_trimmed : (m : Prepared) (low : ℕ) (r : PRow) → (low < r.place) × Contains (p_rows m) r → Contains (p_rows (trimmed low m)) r
p_trimmed m low r x = get_p_row (trimmed low m) r.place r.digest r.view (retain_kept exact_unsigned m (λ place. nat_lt low place) r.place (lt-ltb low r.place x.0) ∙ p_row_get m r x.1)

trimmed_q : (m : PrePrepared) (low : ℕ) (r : QRow) → Contains (q_rows (trimmed low m)) r → (low < r.place) × Contains (q_rows m) r
trimmed_q m low r c =
    let x = q_row_get (trimmed low m) r c in
    let t = retain_cases exact_unsigned m (λ place. nat_lt low place) r.place x.0 x.1 in
    let same : r ≡ q_row (r.place, x.0) = λ i. record { place = r.place; digests = x.2 i } in
    (ltb-true low r.place t.0, subst (λ (y : QRow). Contains (q_rows m) y) (sym same) (get_q_row m r.place x.0 t.1))

q_trimmed : (m : PrePrepared) (low : ℕ) (r : QRow) → (low < r.place) × Contains (q_rows m) r → Contains (q_rows (trimmed low m)) r
q_trimmed m low r y =
    let x = q_row_get m r y.1 in
    let same : r ≡ q_row (r.place, x.0) = λ i. record { place = r.place; digests = x.2 i } in
    subst (λ (z : QRow). Contains (q_rows (trimmed low m)) z) (sym same) (get_q_row (trimmed low m) r.place x.0 (retain_kept exact_unsigned m (λ place. nat_lt low place) r.place (lt-ltb low r.place y.0) ∙ x.1))

pub trimmed_rows : TrimmedRows
trimmed_rows = record {
  prepared = λ m low r. (trimmed_p m low r, p_trimmed m low r);
  pre_prepared = λ m low r. (trimmed_q m low r, q_trimmed m low r);
}

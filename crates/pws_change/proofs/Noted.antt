-- A pre-prepared set after a digest was noted.
use Rattle.std.proofs.Common.{◌≡◌, ℕ, zero, suc, ◌+◌, ◌<◌, ◌≤◌, ◌==◌, ◌&&◌, not, Bool, true, false, cond, nat_le, List, [], ◌∷◌, map, find, take, drop, length, get_or, set, Option, Some, unwrap_or, refl, sym, ◌∙◌, ap, subst, inl, inr, arith}
use Rattle.std.specs.List.{list_any, list_all, insert}
use Rattle.std.specs.Option.{option_map_or}
use Rattle.std.specs.Ordering.{nat_cmp}
use Rattle.std.specs.Str.{bytes_eq}
use Rattle.std.specs.Cmp.Lexicographic.{slice_cmp}
use Rattle.std.specs.FinMap.{empty, from_sorted, get-from_sorted, nat_cmp-IsAntisymmetric}
use Rattle.std.specs.FinMap as fin
use Rattle.std.specs.FinMap.Entries.{put, length-put, is_some-find}
use Rattle.std.proofs.lemmas.Bool.{false≢true, and_parts, and_from, and_cases, leb-false, eq-eqb, ne_eqb}
use Rattle.std.specs.declared.cmp.Ordering.TheVariants.{Greater}
use Rattle.std.proofs.lemmas.Cmp.{ranked, nat_cmp_total, nat_list_cmp_total}
use Rattle.std.proofs.lemmas.List.{length-map, take-append-drop}
use Rattle.std.proofs.lemmas.List.Folds.{list_all-append}
use Rattle.pws_msg.specs.declared.changes.QRow.{QRow}
use Rattle.pws_msg.specs.declared.changes.Seen.{Seen}
use Rattle.pws_change.specs.Rows.{seen_entry, digests_in, q_entry, pre_prepared_in, is_row_full, IsFoundAt, IsMissingAt}
use Rattle.pws_change.specs.Sets.{Digests, row_at, with_pre_prepared, is_q_row_lawful, are_q_rows_lawful}
use Rattle.pws_change.proofs.Sorted.{put_found, put_missing, made_put, made_empty, find_found, find_missing}
use Rattle.pws_change.proofs.Witnessed.{digests_rise, rows_rise, seen_sorted, seen_risen, sorted, risen, lawful_parts, lawful_from, has_is}

-- the row after a digest was put
put_length : (old : List Seen) (digest : List ℕ) (view : ℕ) → digests_rise old ≡ true → length (put (slice_cmp nat_cmp) digest view (map seen_entry old)) ≡ cond (list_any (λ s. bytes_eq digest s.digest) old) (length old) (length old + 1)
put_length old digest view h =
    length-put (slice_cmp nat_cmp) nat_list_cmp_total digest view (map seen_entry old) (seen_sorted old h)
    ∙ (ap (λ b. cond b (length (map seen_entry old)) (length (map seen_entry old) + 1)) (is_some-find (slice_cmp nat_cmp) digest (map seen_entry old) ∙ has_is digest old)
    ∙ ap (λ n. cond (list_any (λ s. bytes_eq digest s.digest) old) n (n + 1)) (length-map old seen_entry))

few_go : (n m : ℕ) (has : Bool) → 1 ≤ n → n ≤ 16 → nat_le 16 n && not has ≡ false → m ≡ cond has n (n + 1) → (1 ≤ m) × (m ≤ 16)
few_go n m true a b full h = (omega arith, omega arith)
few_go n m false a b full h = (
  omega arith,
  elim (and_cases (nat_le 16 n) true full) [ inl g ↦ (let l = leb-false 16 n g in omega arith) | inr g ↦ absurd (false≢true (sym g)) ],
)

pub row_put : (old new : QRow) (digest : List ℕ) (view : ℕ) → is_q_row_lawful old ≡ true → is_row_full digest old ≡ false → map seen_entry new.digests ≡ put (slice_cmp nat_cmp) digest view (map seen_entry old.digests)
    → (is_q_row_lawful new ≡ true) × (digests_in new.digests ≡ fin.insert (digests_in old.digests) digest view)
unfolding digests_in
row_put old new digest view lawful room e =
    let p = lawful_parts old lawful in
    let m = made_put (slice_cmp nat_cmp) seen_entry nat_list_cmp_total digest view old.digests new.digests (seen_sorted old.digests p.2) e in
    let long : length new.digests ≡ cond (list_any (λ s. bytes_eq digest s.digest) old.digests) (length old.digests) (length old.digests + 1) = sym (length-map new.digests seen_entry) ∙ (ap length e ∙ put_length old.digests digest view p.2) in
    let f = few_go (length old.digests) (length new.digests) (list_any (λ s. bytes_eq digest s.digest) old.digests) p.0 p.1 room long in
    (lawful_from new f.0 f.1 (seen_risen new.digests m.0), m.1)

-- a row of one digest
pub row_new : (place : ℕ) (seen : Seen) → (let r : QRow = record { place = place; digests = seen ∷ [] } in is_q_row_lawful r) ≡ true
row_new place seen = refl

pub digest_new : (seen : Seen) → digests_in (seen ∷ []) ≡ fin.insert empty seen.digest seen.view
unfolding digests_in
digest_new seen =
    (made_put (slice_cmp nat_cmp) seen_entry nat_list_cmp_total seen.digest seen.view [] (seen ∷ []) tt refl).1
    ∙ ap (λ (m : Digests). fin.insert m seen.digest seen.view) (made_empty (slice_cmp nat_cmp) nat_list_cmp_total (fin.slice_cmp-IsAntisymmetric nat_cmp-IsAntisymmetric))

all_set : {X : Type 0} (p : X → Bool) (xs : List X) (i : ℕ) (x : X) → list_all p xs ≡ true → p x ≡ true → list_all p (set xs i x) ≡ true
all_set p [] i x h k = h
all_set p (y ∷ ys) zero x h k = and_from (p x) (list_all p ys) k (and_parts (p y) (list_all p ys) h).1
all_set p (y ∷ ys) (suc i) x h k = let t = and_parts (p y) (list_all p ys) h in and_from (p y) (list_all p (set ys i x)) t.0 (all_set p ys i x t.1 k)

all_insert : {X : Type 0} (p : X → Bool) (xs : List X) (i : ℕ) (x : X) → list_all p xs ≡ true → p x ≡ true → list_all p (insert xs i x) ≡ true
all_insert p xs i x h k =
    let t = and_parts (list_all p (take i xs)) (list_all p (drop i xs)) (sym (list_all-append p (take i xs) (drop i xs)) ∙ (ap (list_all p) (take-append-drop i xs) ∙ h)) in
    list_all-append p (take i xs) (x ∷ drop i xs) ∙ and_from (list_all p (take i xs)) (p x && list_all p (drop i xs)) t.0 (and_from (p x) (list_all p (drop i xs)) k t.1)

all_at : {X : Type 0} (p : X → Bool) (xs : List X) (i : ℕ) (d : X) → i < length xs → list_all p xs ≡ true → p (get_or xs i d) ≡ true
all_at p [] i d l h = absurd (omega arith)
all_at p (x ∷ xs) zero d l h = (and_parts (p x) (list_all p xs) h).0
all_at p (x ∷ xs) (suc i) d l h = all_at p xs i d (omega arith) (and_parts (p x) (list_all p xs) h).1

-- the row that is found isn't full where the set's isn't
room_go : (p q : QRow → Bool) (rows : List QRow) (i : ℕ) (d : QRow) → i < length rows → ((j : ℕ) (e : QRow) → j < i → q (get_or rows j e) ≡ false) → q (get_or rows i d) ≡ true → option_map_or p (find q rows) false ≡ false → p (get_or rows i d) ≡ false
room_go p q [] i d l before at h = absurd (omega arith)
room_go p q (r ∷ rows) zero d l before at h = sym (ap (λ b. option_map_or p (cond b (Some r) (find q rows)) false) at) ∙ h
room_go p q (r ∷ rows) (suc i) d l before at h =
    room_go p q rows i d (omega arith) (λ j e m. before (suc j) e (omega arith)) at (sym (ap (λ b. option_map_or p (cond b (Some r) (find q rows)) false) (before 0 r (omega arith))) ∙ h)

pub room_found : (rows : List QRow) (place : ℕ) (digest : List ℕ) (i : ℕ) (row : QRow) → IsFoundAt nat_cmp (λ (r : QRow). r.place) rows place i → row ≡ get_or rows i row
    → option_map_or (is_row_full digest) (find (λ r. place == r.place) rows) false ≡ false → is_row_full digest row ≡ false
room_found rows place digest i row found at h =
    subst (λ r. is_row_full digest r ≡ false) (sym at)
    (room_go (is_row_full digest) (λ r. place == r.place) rows i row found.within
    (λ j e m. let g = ranked place (get_or rows j e).place Greater (sym (found.before j e m)) in ne_eqb place (get_or rows j e).place (λ q. omega arith))
    (eq-eqb place (get_or rows i row).place (nat_cmp-IsAntisymmetric place (get_or rows i row).place (found.at row))) h)

-- a digest is noted in the row that is found
pub found_put : (old : List QRow) (place : ℕ) (seen : Seen) (i : ℕ) (row new : QRow) → are_q_rows_lawful old ≡ true → IsFoundAt nat_cmp (λ (r : QRow). r.place) old place i
    → row ≡ get_or old i row → is_row_full seen.digest row ≡ false → new.place ≡ row.place → map seen_entry new.digests ≡ put (slice_cmp nat_cmp) seen.digest seen.view (map seen_entry row.digests)
    → (are_q_rows_lawful (set old i new) ≡ true) × (pre_prepared_in (set old i new) ≡ with_pre_prepared (pre_prepared_in old) place seen.digest seen.view)
unfolding pre_prepared_in
found_put old place seen i row new lawful found at room same e =
    let t = and_parts (list_all is_q_row_lawful old) (rows_rise old) lawful in
    let within = found.within in
    let row_lawful : is_q_row_lawful row ≡ true = subst (λ r. is_q_row_lawful r ≡ true) (sym at) (all_at is_q_row_lawful old i row within t.0) in
    let p = row_put row new seen.digest seen.view row_lawful room e in
    let here : row.place ≡ place = ap (λ (r : QRow). r.place) at ∙ sym (nat_cmp-IsAntisymmetric place (get_or old i row).place (found.at row)) in
    let entry_is : q_entry new ≡ (place, fin.insert (digests_in row.digests) seen.digest seen.view) = λ j. ((same ∙ here) j, p.1 j) in
    let put_is = put_found nat_cmp q_entry nat_cmp-IsAntisymmetric place (fin.insert (digests_in row.digests) seen.digest seen.view) old i new entry_is found in
    let m = made_put nat_cmp q_entry nat_cmp_total place (fin.insert (digests_in row.digests) seen.digest seen.view) old (set old i new) (sorted old t.1) put_is in
    let was : row_at (pre_prepared_in old) place ≡ digests_in row.digests = ap (λ (o : Option Digests). unwrap_or o empty) (get-from_sorted nat_cmp (map q_entry old) place (sorted old t.1) ∙ (find_found nat_cmp q_entry nat_cmp_total place old i row found ∙ ap (λ (r : QRow). Some (digests_in r.digests)) (sym at))) in (
      and_from (list_all is_q_row_lawful (set old i new)) (rows_rise (set old i new)) (all_set is_q_row_lawful old i new t.0 p.0) (risen (set old i new) m.0),
      m.1 ∙ ap (λ (ds : Digests). fin.insert (from_sorted (map q_entry old)) place (fin.insert ds seen.digest seen.view)) (sym was),
    )

-- a row is added where it belongs
pub missing_put : (old : List QRow) (place : ℕ) (seen : Seen) (i : ℕ) → are_q_rows_lawful old ≡ true → IsMissingAt nat_cmp (λ (r : QRow). r.place) old place i
    → (are_q_rows_lawful (insert old i (record { place = place; digests = seen ∷ [] })) ≡ true) × (pre_prepared_in (insert old i (record { place = place; digests = seen ∷ [] })) ≡ with_pre_prepared (pre_prepared_in old) place seen.digest seen.view)
unfolding pre_prepared_in
missing_put old place seen i lawful missing =
    let new : QRow = record { place = place; digests = seen ∷ [] } in
    let t = and_parts (list_all is_q_row_lawful old) (rows_rise old) lawful in
    let entry_is : q_entry new ≡ (place, fin.insert empty seen.digest seen.view) = λ j. (place, digest_new seen j) in
    let put_is = put_missing nat_cmp q_entry place (fin.insert empty seen.digest seen.view) old i new entry_is missing in
    let m = made_put nat_cmp q_entry nat_cmp_total place (fin.insert empty seen.digest seen.view) old (insert old i new) (sorted old t.1) put_is in
    let was : row_at (pre_prepared_in old) place ≡ empty = ap (λ (o : Option Digests). unwrap_or o empty) (get-from_sorted nat_cmp (map q_entry old) place (sorted old t.1) ∙ find_missing nat_cmp q_entry nat_cmp_total place old i (sorted old t.1) missing) in (
      and_from (list_all is_q_row_lawful (insert old i new)) (rows_rise (insert old i new)) (all_insert is_q_row_lawful old i new t.0 refl) (risen (insert old i new) m.0),
      m.1 ∙ ap (λ (ds : Digests). fin.insert (from_sorted (map q_entry old)) place (fin.insert ds seen.digest seen.view)) (sym was),
    )

-- The rows of a pre-prepared set, and the map that they stand for.
use Rattle.std.proofs.Common.{◌≡◌, ℕ, ◌≤◌, ◌==◌, ◌&&◌, ◌||◌, not, Bool, true, false, cond, nat_lt, nat_le, List, [], ◌∷◌, map, find, filter, length, Option, Some, None, unwrap_or, T, refl, sym, ◌∙◌, ap, arith}
use Rattle.std.specs.List.{list_any, list_all}
use Rattle.std.specs.Option.{option_map, option_map_or}
use Rattle.std.specs.Ordering.{nat_cmp, is_eq, eq_by_cmp}
use Rattle.std.specs.Str.{bytes_eq}
use Rattle.std.specs.declared.cmp.Ordering.TheVariants.{Less, Equal, Greater}
use Rattle.std.specs.Cmp.Lexicographic.{slice_cmp}
use Rattle.std.specs.FinMap.{empty, entries, get, len, contains_key, from_sorted, entries-from_sorted, get-from_sorted, len-entries, len-empty, contains_key-keys, nat_cmp-IsAntisymmetric}
use Rattle.std.specs.FinMap.Entries.{is_sorted}
use Rattle.std.specs.FinMap.Entries as entry
use Rattle.std.proofs.lemmas.Bool.{and_parts, and_from, ltb-true, leb-true, le-leb, ne_eqb}
use Rattle.std.proofs.lemmas.Cmp.{nat_cmp_total}
use Rattle.std.proofs.lemmas.List.{length-map}
use Rattle.std.proofs.lemmas.Map.Text.{is_eq-slice_cmp}
use Rattle.pws_msg.specs.declared.changes.QRow.{QRow}
use Rattle.pws_msg.specs.declared.changes.Seen.{Seen}
use Rattle.pws_change.specs.Rising.{rises, is_digest_below}
use Rattle.pws_change.specs.Rows.{seen_entry, digests_in, q_entry, pre_prepared_in, is_row_full}
use Rattle.pws_change.specs.Sets.{PrePrepared, Digests, row_at, seen_of, q_rows, is_full, trimmed, is_q_row_lawful, are_q_rows_lawful}
use Rattle.pws_change.proofs.Placed.{lt_is, true_of}
use Rattle.pws_change.proofs.Sorted.{holds, sorted_is, made_kept, made_empty}

abbrev pub digests_rise : List Seen → Bool
digests_rise ds = rises (λ a b. is_digest_below a.digest b.digest) ds

abbrev pub rows_rise : List QRow → Bool
rows_rise rows = rises (λ a b. nat_lt a.place b.place) rows

pub seen_sorted : (ds : List Seen) → digests_rise ds ≡ true → T (is_sorted (slice_cmp nat_cmp) (map seen_entry ds))
seen_sorted ds h = holds (is_sorted (slice_cmp nat_cmp) (map seen_entry ds)) (sorted_is (slice_cmp nat_cmp) seen_entry (λ a b. is_digest_below a.digest b.digest) (λ a b. refl) ds ∙ h)

pub seen_risen : (ds : List Seen) → T (is_sorted (slice_cmp nat_cmp) (map seen_entry ds)) → digests_rise ds ≡ true
seen_risen ds h = sym (sorted_is (slice_cmp nat_cmp) seen_entry (λ a b. is_digest_below a.digest b.digest) (λ a b. refl) ds) ∙ true_of (is_sorted (slice_cmp nat_cmp) (map seen_entry ds)) h

pub sorted : (rows : List QRow) → rows_rise rows ≡ true → T (is_sorted nat_cmp (map q_entry rows))
sorted rows h = holds (is_sorted nat_cmp (map q_entry rows)) (sorted_is nat_cmp q_entry (λ a b. nat_lt a.place b.place) (λ a b. lt_is a.place b.place) rows ∙ h)

pub risen : (rows : List QRow) → T (is_sorted nat_cmp (map q_entry rows)) → rows_rise rows ≡ true
risen rows h = sym (sorted_is nat_cmp q_entry (λ a b. nat_lt a.place b.place) (λ a b. lt_is a.place b.place) rows) ∙ true_of (is_sorted nat_cmp (map q_entry rows)) h

abbrev to_seen : List ℕ × ℕ → Seen
to_seen e = record { digest = e.0; view = e.1 }

seen_back : (ds : List Seen) → map to_seen (map seen_entry ds) ≡ ds
seen_back [] = refl
seen_back (d ∷ ds) = ap (λ es. d ∷ es) (seen_back ds)

digest_entries : (ds : List Seen) → digests_rise ds ≡ true → entries (digests_in ds) ≡ map seen_entry ds
unfolding digests_in
digest_entries ds h = entries-from_sorted (slice_cmp nat_cmp) (map seen_entry ds) (seen_sorted ds h)

seen_of_is : (ds : List Seen) → digests_rise ds ≡ true → seen_of (digests_in ds) ≡ ds
seen_of_is ds h = ap (map to_seen) (digest_entries ds h) ∙ seen_back ds

-- the parts of a lawful row
abbrev pub few : QRow → Bool
few r = nat_le 1 (length r.digests) && nat_le (length r.digests) 16

pub lawful_parts : (r : QRow) → is_q_row_lawful r ≡ true → (1 ≤ length r.digests) × (length r.digests ≤ 16) × (digests_rise r.digests ≡ true)
lawful_parts r h =
    let t = and_parts (few r) (digests_rise r.digests) h in
    let u = and_parts (nat_le 1 (length r.digests)) (nat_le (length r.digests) 16) t.0 in
    (leb-true 1 (length r.digests) u.0, leb-true (length r.digests) 16 u.1, t.1)

pub lawful_from : (r : QRow) → 1 ≤ length r.digests → length r.digests ≤ 16 → digests_rise r.digests ≡ true → is_q_row_lawful r ≡ true
lawful_from r a b h = and_from (few r) (digests_rise r.digests) (and_from (nat_le 1 (length r.digests)) (nat_le (length r.digests) 16) (le-leb 1 (length r.digests) a) (le-leb (length r.digests) 16 b)) h

abbrev to_row : ℕ × Digests → QRow
to_row e = record { place = e.0; digests = seen_of e.1 }

rows_of_entries : (rows : List QRow) → list_all is_q_row_lawful rows ≡ true → map to_row (map q_entry rows) ≡ rows
rows_of_entries [] h = refl
rows_of_entries (r ∷ rows) h =
    let t = and_parts (is_q_row_lawful r) (list_all is_q_row_lawful rows) h in
    let d = seen_of_is r.digests (lawful_parts r t.0).2 in
    ap (λ (ds : List Seen). let x : QRow = record { place = r.place; digests = ds } in x ∷ map to_row (map q_entry rows)) d ∙ ap (λ rs. r ∷ rs) (rows_of_entries rows t.1)

-- the rows of the set are those that keep it
pub rows_back : (rows : List QRow) → are_q_rows_lawful rows ≡ true → rows ≡ q_rows (pre_prepared_in rows)
unfolding pre_prepared_in
rows_back rows h =
    let t = and_parts (list_all is_q_row_lawful rows) (rows_rise rows) h in
    sym (ap (map to_row) (entries-from_sorted nat_cmp (map q_entry rows) (sorted rows t.1)) ∙ rows_of_entries rows t.0)

-- no rows keep the empty set
pub none_kept : pre_prepared_in [] ≡ empty
unfolding pre_prepared_in
none_kept = made_empty nat_cmp nat_cmp_total nat_cmp-IsAntisymmetric

all_filter_go : {X : Type 0} (p q : X → Bool) (x : X) (xs : List X) (b : Bool) → p x ≡ true → list_all p (filter q xs) ≡ true → list_all p (cond b (x ∷ filter q xs) (filter q xs)) ≡ true
all_filter_go p q x xs true h k = and_from (p x) (list_all p (filter q xs)) h k
all_filter_go p q x xs false h k = k

all_filter : {X : Type 0} (p q : X → Bool) (xs : List X) → list_all p xs ≡ true → list_all p (filter q xs) ≡ true
all_filter p q [] h = refl
all_filter p q (x ∷ xs) h = let t = and_parts (p x) (list_all p xs) h in all_filter_go p q x xs (q x) t.0 (all_filter p q xs t.1)

-- the set without the places up to a low mark
pub rows_kept : (old : List QRow) (low : ℕ) → are_q_rows_lawful old ≡ true → (are_q_rows_lawful (filter (λ r. nat_lt low r.place) old) ≡ true) × (pre_prepared_in (filter (λ r. nat_lt low r.place) old) ≡ trimmed low (pre_prepared_in old))
unfolding pre_prepared_in
rows_kept old low h =
    let t = and_parts (list_all is_q_row_lawful old) (rows_rise old) h in
    let m = made_kept nat_cmp q_entry nat_cmp_total nat_cmp-IsAntisymmetric (λ place. nat_lt low place) old (sorted old t.1) in
    let kept : List QRow = filter (λ r. nat_lt low r.place) old in
    (and_from (list_all is_q_row_lawful kept) (rows_rise kept) (all_filter is_q_row_lawful (λ r. nat_lt low r.place) old t.0) (risen kept m.0), m.1)

-- whether a digest is among those of a row
pub has_is : (digest : List ℕ) (ds : List Seen) → list_any (eq_by_cmp (slice_cmp nat_cmp) digest) (map (λ (e : List ℕ × ℕ). e.0) (map seen_entry ds)) ≡ list_any (λ s. bytes_eq digest s.digest) ds
has_is digest [] = refl
has_is digest (d ∷ ds) =
    ap (λ t. t || list_any (eq_by_cmp (slice_cmp nat_cmp) digest) (map (λ (e : List ℕ × ℕ). e.0) (map seen_entry ds))) (is_eq-slice_cmp digest d.digest) ∙ ap (λ t. bytes_eq digest d.digest || t) (has_is digest ds)

pub len_is : (ds : List Seen) → digests_rise ds ≡ true → len (digests_in ds) ≡ length ds
len_is ds h = len-entries (digests_in ds) ∙ (ap length (digest_entries ds h) ∙ length-map ds seen_entry)

pub key_is : (digest : List ℕ) (ds : List Seen) → digests_rise ds ≡ true → contains_key (digests_in ds) digest ≡ list_any (λ s. bytes_eq digest s.digest) ds
key_is digest ds h =
    contains_key-keys (digests_in ds) digest ∙ (ap (λ (es : List (List ℕ × ℕ)). list_any (eq_by_cmp (slice_cmp nat_cmp) digest) (map (λ e. e.0) es)) (digest_entries ds h) ∙ has_is digest ds)

row_full_is : (digest : List ℕ) (r : QRow) → is_q_row_lawful r ≡ true → nat_le 16 (len (digests_in r.digests)) && not (contains_key (digests_in r.digests) digest) ≡ is_row_full digest r
row_full_is digest r h =
    let rise = (lawful_parts r h).2 in
    ap (λ n. nat_le 16 n && not (contains_key (digests_in r.digests) digest)) (len_is r.digests rise) ∙ ap (λ t. nat_le 16 (length r.digests) && not t) (key_is digest r.digests rise)

eq_go : (a b : Bool) → (a ≡ true → b ≡ false) → is_eq (cond a Less (cond b Equal Greater)) ≡ b
eq_go true b h = sym (h refl)
eq_go false true h = refl
eq_go false false h = refl

eq_is : (a b : ℕ) → eq_by_cmp nat_cmp a b ≡ (a == b)
eq_is a b = eq_go (nat_lt a b) (a == b) (λ h. ne_eqb a b (λ e. (let l = ltb-true a b h in omega arith)))

find_go : (b : Bool) (r : QRow) (o : Option Digests) (p : Option QRow) → o ≡ option_map (λ (r : QRow). digests_in r.digests) p → cond b (Some (digests_in r.digests)) o ≡ option_map (λ (r : QRow). digests_in r.digests) (cond b (Some r) p)
find_go true r o p h = refl
find_go false r o p h = h

find_is : (place : ℕ) (rows : List QRow) → entry.find nat_cmp place (map q_entry rows) ≡ option_map (λ (r : QRow). digests_in r.digests) (find (λ r. place == r.place) rows)
find_is place [] = refl
find_is place (r ∷ rows) =
    ap (λ b. cond b (Some (digests_in r.digests)) (entry.find nat_cmp place (map q_entry rows))) (eq_is place r.place)
    ∙ find_go (place == r.place) r (entry.find nat_cmp place (map q_entry rows)) (find (λ r. place == r.place) rows) (find_is place rows)

-- a reader of the row at a place: what it gives of the set's row, and of the row that is found
at_go : {X : Type 0} (F : Digests → X) (G : QRow → X) (d : X) → F empty ≡ d → ((r : QRow) → is_q_row_lawful r ≡ true → F (digests_in r.digests) ≡ G r) → (o : Option QRow) → option_map_or is_q_row_lawful o true ≡ true
    → F (unwrap_or (option_map (λ (r : QRow). digests_in r.digests) o) empty) ≡ option_map_or G o d
at_go F G d none each None h = none
at_go F G d none each (Some r) h = each r h

found_go : (p q : QRow → Bool) (r : QRow) (b : Bool) (o : Option QRow) → p r ≡ true → option_map_or p o true ≡ true → option_map_or p (cond b (Some r) o) true ≡ true
found_go p q r true o h k = h
found_go p q r false o h k = k

pub found_all : (p q : QRow → Bool) (rows : List QRow) → list_all p rows ≡ true → option_map_or p (find q rows) true ≡ true
found_all p q [] h = refl
found_all p q (r ∷ rows) h = let t = and_parts (p r) (list_all p rows) h in found_go p q r (q r) (find q rows) t.0 (found_all p q rows t.1)

pub at_is : {X : Type 0} (F : Digests → X) (G : QRow → X) (d : X) → F empty ≡ d → ((r : QRow) → is_q_row_lawful r ≡ true → F (digests_in r.digests) ≡ G r) → (rows : List QRow) (place : ℕ) → are_q_rows_lawful rows ≡ true
    → F (row_at (pre_prepared_in rows) place) ≡ option_map_or G (find (λ r. place == r.place) rows) d
unfolding pre_prepared_in
at_is F G d none each rows place h =
    let t = and_parts (list_all is_q_row_lawful rows) (rows_rise rows) h in
    let g : get (from_sorted {R = nat_cmp} (map q_entry rows)) place ≡ option_map (λ (r : QRow). digests_in r.digests) (find (λ r. place == r.place) rows) = get-from_sorted nat_cmp (map q_entry rows) place (sorted rows t.1) ∙ find_is place rows in
    ap (λ (o : Option Digests). F (unwrap_or o empty)) g ∙ at_go F G d none each (find (λ r. place == r.place) rows) (found_all is_q_row_lawful (λ r. place == r.place) rows t.0)

-- whether the row of a place is full
full_is : (rows : List QRow) (place : ℕ) (digest : List ℕ) → are_q_rows_lawful rows ≡ true → is_full (pre_prepared_in rows) place digest ≡ option_map_or (is_row_full digest) (find (λ r. place == r.place) rows) false
full_is rows place digest h =
    at_is (λ (ds : Digests). nat_le 16 (len ds) && not (contains_key ds digest)) (is_row_full digest) false
    (ap (λ n. nat_le 16 n && not (contains_key (empty {X = ℕ} {R = slice_cmp nat_cmp}) digest)) (len-empty (slice_cmp nat_cmp) ℕ)) (row_full_is digest) rows place h

-- the same, where the rows keep a set
pub full_in : (rows given : List QRow) (m : PrePrepared) (place : ℕ) (digest : List ℕ) → are_q_rows_lawful rows ≡ true → given ≡ rows → pre_prepared_in rows ≡ m
    → option_map_or (is_row_full digest) (find (λ r. place == r.place) given) false ≡ is_full m place digest
full_in rows given m place digest lawful same keeps =
    ap (λ (xs : List QRow). option_map_or (is_row_full digest) (find (λ r. place == r.place) xs) false) same
    ∙ (sym (full_is rows place digest lawful) ∙ ap (λ (x : PrePrepared). is_full x place digest) keeps)

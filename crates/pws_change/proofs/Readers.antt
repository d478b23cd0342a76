-- What the readers of a pre-prepared set give of the set.
use Rattle.std.proofs.Common.{◌≡◌, ℕ, ◌+◌, ◌≤◌, ◌==◌, ◌||◌, true, false, is_some, List, [], ◌∷◌, map, find, length, Option, Some, None, refl, sym, ◌∙◌, ap, subst, arith}
use Rattle.std.specs.List.{list_any, list_all, sum_by}
use Rattle.std.specs.Option.{option_map_or}
use Rattle.std.specs.Ordering.{nat_cmp, eq_by_cmp}
use Rattle.std.specs.Str.{bytes_eq}
use Rattle.std.specs.Cmp.Lexicographic.{slice_cmp}
use Rattle.std.specs.FinMap.{empty, entries, values, len, contains_key, get-empty, len-entries, len-empty, contains_key-keys}
use Rattle.std.proofs.lemmas.Bool.{and_parts}
use Rattle.std.proofs.lemmas.List.{length-map}
use Rattle.std.proofs.lemmas.List.Sums.{sum_by-cons, sum-map}
use Rattle.std.proofs.lemmas.Map.Text.{is_eq-slice_cmp}
use Rattle.pws_msg.specs.declared.changes.QRow.{QRow}
use Rattle.pws_msg.specs.declared.changes.Seen.{Seen}
use Rattle.pws_change.specs.Rows.{digests_in, pre_prepared_in, row_has}
use Rattle.pws_change.specs.Sets.{Digests, PrePrepared, q_rows, seen_of, row_at, has_digest, names_digest, count_of_digests, is_q_row_lawful, are_q_rows_lawful}
use Rattle.pws_change.proofs.Witnessed.{at_is, found_all, len_is, key_is, lawful_parts, rows_rise}

-- a reader of the row at a place, where the rows keep a set
at_in : {X : Type 0} (F : Digests → X) (G : QRow → X) (d : X) → F empty ≡ d → ((r : QRow) → is_q_row_lawful r ≡ true → F (digests_in r.digests) ≡ G r) → (rows given : List QRow) (m : PrePrepared) (place : ℕ) → are_q_rows_lawful rows ≡ true → given ≡ rows → pre_prepared_in rows ≡ m
    → option_map_or G (find (λ r. place == r.place) given) d ≡ F (row_at m place)
at_in F G d none each rows given m place lawful same keeps =
    ap (λ (xs : List QRow). option_map_or G (find (λ r. place == r.place) xs) d) same ∙ (sym (at_is F G d none each rows place lawful) ∙ ap (λ (x : PrePrepared). F (row_at x place)) keeps)

pub count_at_in : (rows given : List QRow) (m : PrePrepared) (place : ℕ) → are_q_rows_lawful rows ≡ true → given ≡ rows → pre_prepared_in rows ≡ m → option_map_or (λ r. length r.digests) (find (λ r. place == r.place) given) 0 ≡ len (row_at m place)
count_at_in rows given m place lawful same keeps =
    at_in (λ (ds : Digests). len ds) (λ (r : QRow). length r.digests) 0 (len-empty (slice_cmp nat_cmp) ℕ) (λ r h. len_is r.digests (lawful_parts r h).2) rows given m place lawful same keeps

pub has_at_in : (rows given : List QRow) (m : PrePrepared) (place : ℕ) (digest : List ℕ) → are_q_rows_lawful rows ≡ true → given ≡ rows → pre_prepared_in rows ≡ m → option_map_or (row_has digest) (find (λ r. place == r.place) given) false ≡ has_digest m place digest
has_at_in rows given m place digest lawful same keeps =
    at_in (λ (ds : Digests). contains_key ds digest) (row_has digest) false (ap is_some (get-empty (slice_cmp nat_cmp) digest)) (λ r h. key_is digest r.digests (lawful_parts r h).2) rows given m place lawful same keeps

few_go : (o : Option QRow) → option_map_or is_q_row_lawful o true ≡ true → option_map_or (λ r. length r.digests) o 0 ≤ 16
few_go None h = omega arith
few_go (Some r) h = (lawful_parts r h).1

-- a row has at most 16 digests
pub few_at_in : (rows given : List QRow) (place : ℕ) → are_q_rows_lawful rows ≡ true → given ≡ rows → option_map_or (λ r. length r.digests) (find (λ r. place == r.place) given) 0 ≤ 16
few_at_in rows given place lawful same =
    let each = (and_parts (list_all is_q_row_lawful rows) (rows_rise rows) lawful).0 in
    subst (λ (xs : List QRow). option_map_or (λ r. length r.digests) (find (λ r. place == r.place) xs) 0 ≤ 16) (sym same)
    (few_go (find (λ r. place == r.place) rows) (found_all is_q_row_lawful (λ r. place == r.place) rows each))

-- the digests of a row, as its keys
keys_are : (digest : List ℕ) (es : List (List ℕ × ℕ)) → list_any (λ s. bytes_eq digest s.digest) (map (λ (e : List ℕ × ℕ). let s : Seen = record { digest = e.0; view = e.1 } in s) es) ≡ list_any (eq_by_cmp (slice_cmp nat_cmp) digest) (map (λ (e : List ℕ × ℕ). e.0) es)
keys_are digest [] = refl
keys_are digest (e ∷ es) =
    ap (λ t. t || list_any (λ (s : Seen). bytes_eq digest s.digest) (map (λ (e : List ℕ × ℕ). let s : Seen = record { digest = e.0; view = e.1 } in s) es)) (sym (is_eq-slice_cmp digest e.0))
    ∙ ap (λ t. eq_by_cmp (slice_cmp nat_cmp) digest e.0 || t) (keys_are digest es)

seen_is : (digest : List ℕ) (row : Digests) → list_any (λ s. bytes_eq digest s.digest) (seen_of row) ≡ contains_key row digest
seen_is digest row = keys_are digest (entries row) ∙ sym (contains_key-keys row digest)

abbrev to_row : ℕ × Digests → QRow
to_row e = record { place = e.0; digests = seen_of e.1 }

names_go : (digest : List ℕ) (es : List (ℕ × Digests)) → list_any (row_has digest) (map to_row es) ≡ list_any (λ (row : Digests). contains_key row digest) (map (λ (e : ℕ × Digests). e.1) es)
names_go digest [] = refl
names_go digest (e ∷ es) = ap (λ t. t || list_any (row_has digest) (map to_row es)) (seen_is digest e.1) ∙ ap (λ t. contains_key e.1 digest || t) (names_go digest es)

pub names_is : (digest : List ℕ) (m : PrePrepared) → list_any (row_has digest) (q_rows m) ≡ names_digest m digest
names_is digest m = names_go digest (entries m)

count_go : (es : List (ℕ × Digests)) → sum_by (λ (r : QRow). length r.digests) (map to_row es) ≡ sum_by (λ (row : Digests). len row) (map (λ (e : ℕ × Digests). e.1) es)
count_go [] = refl
count_go (e ∷ es) =
    let f : QRow → ℕ = λ r. length r.digests in
    let g : Digests → ℕ = λ row. len row in
    let one : length (seen_of e.1) ≡ len e.1 = length-map (entries e.1) (λ (x : List ℕ × ℕ). let s : Seen = record { digest = x.0; view = x.1 } in s) ∙ sym (len-entries e.1) in
    sum_by-cons f (to_row e) (map to_row es)
    ∙ (ap (λ n. n + sum_by f (map to_row es)) one ∙ (ap (λ n. len e.1 + n) (count_go es) ∙ sym (sum_by-cons g e.1 (map (λ (e : ℕ × Digests). e.1) es))))

pub count_is : (m : PrePrepared) → sum_by (λ (r : QRow). length r.digests) (q_rows m) ≡ count_of_digests m
count_is m = count_go (entries m) ∙ sym (sum-map (λ (row : Digests). len row) (values m))

-- The rows of a prepared set, and the map that they stand for.
use Rattle.std.proofs.Common.{◌≡◌, ℕ, ◌<◌, Bool, true, false, cond, nat_lt, nat_eq, List, [], ◌∷◌, map, filter, T, refl, sym, ◌∙◌, ap, arith}
use Rattle.std.specs.Ordering.{nat_cmp, is_lt}
use Rattle.std.specs.declared.cmp.Ordering.TheVariants.{Less, Equal, Greater}
use Rattle.std.specs.FinMap.{empty, entries-from_sorted, nat_cmp-IsAntisymmetric}
use Rattle.std.specs.FinMap.Entries.{is_sorted, put}
use Rattle.std.proofs.lemmas.Bool.{lt-ltb, le-ltb, eq-eqb, ne_eqb}
use Rattle.std.proofs.lemmas.Cmp.{nat_cmp_total}
use Rattle.pws_msg.specs.declared.changes.PRow.{PRow}
use Rattle.pws_change.specs.Rising.{rises}
use Rattle.pws_change.specs.Rows.{p_entry, prepared_in}
use Rattle.pws_change.specs.Sets.{p_rows, with_prepared, trimmed}
use Rattle.pws_change.proofs.Sorted.{holds, sorted_is, made_put, made_kept, made_empty}

lt_go : (b c : Bool) → b ≡ is_lt (cond b Less (cond c Equal Greater))
lt_go true c = refl
lt_go false true = refl
lt_go false false = refl

pub lt_is : (a b : ℕ) → nat_lt a b ≡ is_lt (nat_cmp a b)
lt_is a b = lt_go (nat_lt a b) (nat_eq a b)

pub less : (a b : ℕ) → a < b → nat_cmp a b ≡ Less
less a b h = ap (λ t. cond t Less (cond (nat_eq a b) Equal Greater)) (lt-ltb a b h)

pub equal : (a b : ℕ) → a ≡ b → nat_cmp a b ≡ Equal
equal a b h = ap (λ t. cond t Less (cond (nat_eq a b) Equal Greater)) (le-ltb a b (omega arith)) ∙ ap (λ t. cond t Equal Greater) (eq-eqb a b h)

pub greater : (a b : ℕ) → b < a → nat_cmp a b ≡ Greater
greater a b h = ap (λ t. cond t Less (cond (nat_eq a b) Equal Greater)) (le-ltb a b (omega arith)) ∙ ap (λ t. cond t Equal Greater) (ne_eqb a b (λ e. omega arith))

pub true_of : (b : Bool) → T b → b ≡ true
true_of true h = refl
true_of false h = absurd h

abbrev rising : List PRow → Bool
rising rows = rises (λ a b. nat_lt a.place b.place) rows

sorted : (rows : List PRow) → rising rows ≡ true → T (is_sorted nat_cmp (map p_entry rows))
sorted rows h = holds (is_sorted nat_cmp (map p_entry rows)) (sorted_is nat_cmp p_entry (λ a b. nat_lt a.place b.place) (λ a b. lt_is a.place b.place) rows ∙ h)

risen : (rows : List PRow) → T (is_sorted nat_cmp (map p_entry rows)) → rising rows ≡ true
risen rows h = sym (sorted_is nat_cmp p_entry (λ a b. nat_lt a.place b.place) (λ a b. lt_is a.place b.place) rows) ∙ true_of (is_sorted nat_cmp (map p_entry rows)) h

back : (rows : List PRow) → map (λ (e : ℕ × (List ℕ × ℕ)). let r : PRow = record { place = e.0; digest = e.1.0; view = e.1.1 } in r) (map p_entry rows) ≡ rows
back [] = refl
back (r ∷ rows) = ap (λ rs. r ∷ rs) (back rows)

-- the rows of the set are those that keep it
pub rows_back : (rows : List PRow) → rising rows ≡ true → rows ≡ p_rows (prepared_in rows)
unfolding prepared_in
rows_back rows h = sym (ap (map (λ (e : ℕ × (List ℕ × ℕ)). let r : PRow = record { place = e.0; digest = e.1.0; view = e.1.1 } in r)) (entries-from_sorted nat_cmp (map p_entry rows) (sorted rows h)) ∙ back rows)

-- the set after a row was put
pub rows_put : (old new : List PRow) (place : ℕ) (digest : List ℕ) (view : ℕ) → rising old ≡ true → map p_entry new ≡ put nat_cmp place (digest, view) (map p_entry old)
    → (rising new ≡ true) × (prepared_in new ≡ with_prepared (prepared_in old) place digest view)
unfolding prepared_in
rows_put old new place digest view h e =
    let m = made_put nat_cmp p_entry nat_cmp_total place (digest, view) old new (sorted old h) e in
    (risen new m.0, m.1)

-- the set without the places up to a low mark
pub rows_kept : (old : List PRow) (low : ℕ) → rising old ≡ true → (rising (filter (λ r. nat_lt low r.place) old) ≡ true) × (prepared_in (filter (λ r. nat_lt low r.place) old) ≡ trimmed low (prepared_in old))
unfolding prepared_in
rows_kept old low h =
    let m = made_kept nat_cmp p_entry nat_cmp_total nat_cmp-IsAntisymmetric (λ place. nat_lt low place) old (sorted old h) in
    (risen (filter (λ r. nat_lt low r.place) old) m.0, m.1)

-- no rows keep the empty set
pub none_kept : prepared_in [] ≡ empty
unfolding prepared_in
none_kept = made_empty nat_cmp nat_cmp_total nat_cmp-IsAntisymmetric

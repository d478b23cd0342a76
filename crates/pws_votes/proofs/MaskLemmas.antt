-- Rows of masks as a map from voters to digests.
use Rattle.std.proofs.Common.{◌≡◌, ◌≢◌, ℕ, zero, suc, ◌+◌, ◌*◌, ◌%◌, ◌^◌, ◌<◌, ◌≤◌, ◌&&◌, ◌||◌, max, w16, Bool, true, false, cond, nat_eq, nat_lt, List, [], ◌∷◌, length, length-set, get_or, set, take, find, Option, Some, None, is_some, refl, sym, ◌∙◌, ap, subst, arith}
use Rattle.std.specs.Int.{bit_at}
use Rattle.std.specs.Int.RustNames.{bit_or}
use Rattle.std.specs.List.{list_any, list_all}
use Rattle.std.specs.Option.{option_map, option_map_or}
use Rattle.std.specs.Ordering.{nat_cmp, eq_by_cmp}
use Rattle.std.specs.Cmp.{nat_cmp_total}
use Rattle.std.specs.Str.{bytes_eq}
use Rattle.std.specs.FinMap.{empty, get, insert, nat_cmp-IsAntisymmetric, get-empty, get-insert, get-from_sorted, same_map}
use Rattle.std.proofs.lemmas.Bool.{false≢true, and_parts}
use Rattle.std.proofs.lemmas.Bool.Decides.{nat_tests}
use Rattle.std.proofs.lemmas.List.{get_or-set_same, get_or-set_other}
use Rattle.std.proofs.lemmas.Option.{same_Some}
use Rattle.std.proofs.lemmas.Nat.Bits.{bit_at_or, bit_at-lt, bit_at-zero, bit_at_set_same, bit_at_set_other}
use Rattle.pws_base.specs.Counts.{count_below}
use Rattle.pws_places.specs.Rings.{entries_by}
use Rattle.pws_places.proofs.Listed.{apart, tied, sorted, find_in, find_after}
use Rattle.pws_votes.specs.declared.tallies.MaskRow.{MaskRow}
use Rattle.pws_votes.specs.Masks.{has_voter, free_row, said_in, is_for, is_said, votes_at, IsTally, IsRowFor}

abbrev has : MaskRow → ℕ → Bool
has r v = has_voter r.voters v

-- two masks as one
bits_or : (x y : ℕ) (b : Bool) → x < 2 → y < 2 → (b && nat_eq (max x y) 1) ≡ ((b && nat_eq x 1) || (b && nat_eq y 1))
bits_or x y true h k = grind (arith, nat_tests)
bits_or x y false h k = refl

pub has_or : (a b v : ℕ) → has_voter (bit_or a b) v ≡ (has_voter a v || has_voter b v)
has_or a b v = ap (λ x. nat_lt v 16 && nat_eq x 1) (bit_at_or a b v) ∙ bits_or (bit_at a v) (bit_at b v) (nat_lt v 16) (bit_at-lt a v) (bit_at-lt b v)

-- a mask with one voter more
pub set_same : (mask k : ℕ) → k < 10 → has_voter (bit_or mask (1 * 2 ^ k % 2 ^ 16)) k ≡ true
set_same mask k h =
    let few : nat_lt k 16 ≡ true = grind (arith, nat_tests) in
    ap (λ b. b && nat_eq (bit_at (bit_or mask (1 * 2 ^ k % 2 ^ 16)) k) 1) few ∙ ap (λ x. nat_eq x 1) (bit_at_set_same w16 mask k (omega arith))

pub set_other : (mask k q : ℕ) → k < 10 → q ≢ k → has_voter (bit_or mask (1 * 2 ^ k % 2 ^ 16)) q ≡ has_voter mask q
set_other mask k q h n = ap (λ x. nat_lt q 16 && nat_eq x 1) (bit_at_set_other w16 mask k (omega arith) q n)

and_false : (b : Bool) → (b && false) ≡ false
and_false true = refl
and_false false = refl

pub has_none : (v : ℕ) → has_voter 0 v ≡ false
has_none v = ap (λ x. nat_lt v 16 && nat_eq x 1) (bit_at-zero v) ∙ and_false (nat_lt v 16)

-- what a test that finds nothing, or the first, says of the first
none_first : (b : Bool) (r : MaskRow) (o : Option MaskRow) → cond b (Some r) o ≡ None → (b ≡ false) × (o ≡ None)
none_first true r o h = absurd (let i : ◌≡◌ {A = Option MaskRow} (Some r) None = h in cc)
none_first false r o h = (refl, h)

no_digest : (o : Option MaskRow) → ◌≡◌ {A = Option (List ℕ)} (option_map (λ r. r.digest) o) None → o ≡ None
no_digest None h = refl
no_digest (Some r) h = absurd (let i : ◌≡◌ {A = Option (List ℕ)} (Some r.digest) None = h in cc)

-- a row that has the voter, and is written where no row had it, is found
here : (rows : List MaskRow) (i : ℕ) (r : MaskRow) (v : ℕ) → i < length rows → find (λ x. has x v) rows ≡ None → has r v ≡ true → find (λ x. has x v) (set rows i r) ≡ Some r
here [] i r v l n h = absurd (omega arith)
here (x ∷ rows) zero r v l n h = ap (λ b. cond b (Some r) (find (λ x. has x v) rows)) h
here (x ∷ rows) (suc i) r v l n h =
    let p = none_first (has x v) x (find (λ y. has y v) rows) n in
    ap (λ b. cond b (Some x) (find (λ y. has y v) (set rows i r))) p.0 ∙ here rows i r v (omega arith) p.1 h

same_first : (b : Bool) (r x : MaskRow) (o : Option MaskRow) → (b ≡ true → r.digest ≡ x.digest) → option_map (λ r. r.digest) (cond b (Some r) o) ≡ option_map (λ r. r.digest) (cond b (Some x) o)
same_first true r x o h = ap Some (h refl)
same_first false r x o h = refl

under_first : (b : Bool) (x : MaskRow) (o p : Option MaskRow) → option_map (λ r. r.digest) o ≡ option_map (λ r. r.digest) p → option_map (λ r. r.digest) (cond b (Some x) o) ≡ option_map (λ r. r.digest) (cond b (Some x) p)
under_first true x o p h = refl
under_first false x o p h = h

-- one that has another voter exactly where the old one had it, and then for the same digest, changes nothing for that voter
stays : (rows : List MaskRow) (i : ℕ) (r : MaskRow) (q : ℕ) → i < length rows → has r q ≡ has (get_or rows i free_row) q → (has (get_or rows i free_row) q ≡ true → r.digest ≡ (get_or rows i free_row).digest)
    → said_in (set rows i r) q ≡ said_in rows q
stays [] i r q l h d = absurd (omega arith)
stays (x ∷ rows) zero r q l h d =
    ap (λ b. option_map (λ r. r.digest) (cond b (Some r) (find (λ y. has y q) rows))) h ∙ same_first (has x q) r x (find (λ y. has y q) rows) d
stays (x ∷ rows) (suc i) r q l h d = under_first (has x q) x (find (λ y. has y q) (set rows i r)) (find (λ y. has y q) rows) (stays rows i r q (omega arith) h d)

said_new : (rows : List MaskRow) (i : ℕ) (r : MaskRow) (v : ℕ) (d : List ℕ) → IsTally rows → IsRowFor rows i r v d → said_in (set rows i r) v ≡ Some d
said_new rows i r v d t h =
    let w = t.whole in
    let p = h.place in
    ap (option_map (λ r. r.digest)) (here rows i r v (omega arith) (no_digest (find (λ x. has x v) rows) h.none) h.voter) ∙ ap Some h.digest

said_old : (rows : List MaskRow) (i : ℕ) (r : MaskRow) (v : ℕ) (d : List ℕ) → IsTally rows → IsRowFor rows i r v d → (q : ℕ) → q ≢ v → said_in (set rows i r) q ≡ said_in rows q
said_old rows i r v d t h q n =
    let w = t.whole in
    let p = h.place in
    stays rows i r q (omega arith) (h.others q n) (λ b. h.digest ∙ sym (h.before q b))

-- a voter of some row has said something
not_none : (rows : List MaskRow) → IsTally rows → (j w : ℕ) → has (get_or rows j free_row) w ≡ true → said_in rows w ≡ None → ⊥
not_none rows t j w h n = let i : ◌≡◌ {A = Option (List ℕ)} (Some (get_or rows j free_row).digest) None = sym (t.said j w h) ∙ n in absurd (cc)

module _ (rows : List MaskRow) (i : ℕ) (r : MaskRow) (v : ℕ) (d : List ℕ) (t : IsTally rows) (h : IsRowFor rows i r v d) where
  at_new : get_or (set rows i r) i free_row ≡ r
  at_new = let w = t.whole in let p = h.place in get_or-set_same rows i r free_row (omega arith)

  at_old : (j : ℕ) → j ≢ i → get_or (set rows i r) j free_row ≡ get_or rows j free_row
  at_old j n = get_or-set_other rows i j r free_row n

  own_at : (j w : ℕ) (b : Bool) → nat_eq j i ≡ b → has (get_or (set rows i r) j free_row) w ≡ true → has (get_or (set rows i r) j free_row) j ≡ true
  own_at j w true e g =
      let same : j ≡ i = grind (arith, nat_tests) in
      subst (λ k. has (get_or (set rows i r) k free_row) k ≡ true) (sym same) (ap (λ x. has x i) at_new ∙ h.own)
  own_at j w false e g =
      let n : j ≢ i = grind (arith, nat_tests) in
      let old = at_old j n in
      ap (λ x. has x j) old ∙ t.own j w (ap (λ x. has x w) (sym old) ∙ g)

  new_row : (w : ℕ) (b : Bool) → nat_eq w v ≡ b → has r w ≡ true → said_in (set rows i r) w ≡ Some r.digest
  new_row w true e g =
      let same : w ≡ v = grind (arith, nat_tests) in
      subst (λ x. said_in (set rows i r) x ≡ Some r.digest) (sym same) (said_new rows i r v d t h ∙ ap Some (sym h.digest))
  new_row w false e g =
      let n : w ≢ v = grind (arith, nat_tests) in
      let b = sym (h.others w n) ∙ g in
      said_old rows i r v d t h w n ∙ (t.said i w b ∙ ap Some (h.before w b ∙ sym h.digest))

  said_at : (j w : ℕ) (b : Bool) → nat_eq j i ≡ b → has (get_or (set rows i r) j free_row) w ≡ true → said_in (set rows i r) w ≡ Some (get_or (set rows i r) j free_row).digest
  said_at j w true e g =
      let same : j ≡ i = grind (arith, nat_tests) in
      let at : get_or (set rows i r) j free_row ≡ r = ap (λ k. get_or (set rows i r) k free_row) same ∙ at_new in
      new_row w (nat_eq w v) refl (ap (λ x. has x w) (sym at) ∙ g) ∙ ap (λ x. Some x.digest) (sym at)
  said_at j w false e g =
      let n : j ≢ i = grind (arith, nat_tests) in
      let old = at_old j n in
      let b = ap (λ x. has x w) (sym old) ∙ g in
      let m : w ≢ v = λ s. not_none rows t j v (ap (λ x. has (get_or rows j free_row) x) (sym s) ∙ b) h.none in
      said_old rows i r v d t h w m ∙ (t.said j w b ∙ ap (λ x. Some x.digest) (sym old))

  -- the rows keep what they keep
  pub still_tally : IsTally (set rows i r)
  still_tally = record {
    whole = length-set rows i r ∙ t.whole;
    own = λ j w. own_at j w (nat_eq j i) refl;
    said = λ j w. said_at j w (nat_eq j i) refl;
  }

get_few : (rows : List MaskRow) (q : ℕ) → q < 10 → get (votes_at rows) q ≡ said_in rows q
unfolding votes_at
get_few rows q h = get-from_sorted nat_cmp (entries_by (said_in rows) 0 10) q (sorted (said_in rows) 0 10) ∙ find_in (said_in rows) 0 10 q (omega arith) (omega arith)

get_many : (rows : List MaskRow) (q : ℕ) → 10 ≤ q → get (votes_at rows) q ≡ None
unfolding votes_at
get_many rows q h = get-from_sorted nat_cmp (entries_by (said_in rows) 0 10) q (sorted (said_in rows) 0 10) ∙ find_after (said_in rows) 0 10 q (omega arith)

-- the map at a voter
pub get_is : (rows : List MaskRow) (q : ℕ) → q < 10 → get (votes_at rows) q ≡ said_in rows q
get_is rows q h = get_few rows q h

-- the map after a vote
module _ (rows : List MaskRow) (i : ℕ) (r : MaskRow) (v : ℕ) (d : List ℕ) (few : v < 10) (t : IsTally rows) (h : IsRowFor rows i r v d) where
  other_by : (q : ℕ) (b : Bool) → nat_lt q 10 ≡ b → q ≢ v → get (votes_at (set rows i r)) q ≡ get (votes_at rows) q
  other_by q true e n =
      let l : q < 10 = grind (arith, nat_tests) in
      get_few (set rows i r) q l ∙ (said_old rows i r v d t h q n ∙ sym (get_few rows q l))
  other_by q false e n =
      let l : 10 ≤ q = grind (arith, nat_tests) in
      get_many (set rows i r) q l ∙ sym (get_many rows q l)

  get_by : (q : ℕ) (b : Bool) → nat_eq q v ≡ b → get (votes_at (set rows i r)) q ≡ cond (eq_by_cmp nat_cmp q v) (Some d) (get (votes_at rows) q)
  get_by q true e =
      let same : q ≡ v = grind (arith, nat_tests) in
      subst (λ x. get (votes_at (set rows i r)) x ≡ Some d) (sym same) (get_few (set rows i r) v few ∙ said_new rows i r v d t h)
      ∙ ap (λ b. cond b (Some d) (get (votes_at rows) q)) (sym (tied q v same))
  get_by q false e =
      let n : q ≢ v = grind (arith, nat_tests) in
      other_by q (nat_lt q 10) refl n ∙ ap (λ b. cond b (Some d) (get (votes_at rows) q)) (sym (apart q v n))

  pub added : votes_at (set rows i r) ≡ insert (votes_at rows) v d
  added = same_map nat_cmp_total nat_cmp-IsAntisymmetric _ _ (λ q. get_by q (nat_eq q v) refl ∙ sym (get-insert nat_cmp_total (votes_at rows) v d q))

-- rows without voters
pub record AreFree (rows : List MaskRow) : Type 0 where
  pub whole : length rows ≡ 10
  pub free : list_all (λ r. nat_eq r.voters 0) rows ≡ true

all_zero : (rows : List MaskRow) → list_all (λ r. nat_eq r.voters 0) rows ≡ true → (i : ℕ) → (get_or rows i free_row).voters ≡ 0
all_zero [] h i = refl
all_zero (x ∷ rows) h zero = let p = and_parts (nat_eq x.voters 0) (list_all (λ r. nat_eq r.voters 0) rows) h in let q = p.0 in grind (arith, nat_tests)
all_zero (x ∷ rows) h (suc i) = all_zero rows (and_parts (nat_eq x.voters 0) (list_all (λ r. nat_eq r.voters 0) rows) h).1 i

none_said : (rows : List MaskRow) (q : ℕ) → ((i : ℕ) → (get_or rows i free_row).voters ≡ 0) → find (λ x. has x q) rows ≡ None
none_said [] q h = refl
none_said (x ∷ rows) q h = ap (λ b. cond b (Some x) (find (λ y. has y q) rows)) (ap (λ m. has_voter m q) (h 0) ∙ has_none q) ∙ none_said rows q (λ i. h (suc i))

no_voter : (rows : List MaskRow) → AreFree rows → (i v : ℕ) → has (get_or rows i free_row) v ≡ true → ⊥
no_voter rows f i v h = false≢true (sym (ap (λ m. has_voter m v) (all_zero rows f.free i) ∙ has_none v) ∙ h)

pub free_tally : (rows : List MaskRow) → AreFree rows → IsTally rows
free_tally rows f = record {
  whole = f.whole;
  own = λ i v h. absurd (no_voter rows f i v h);
  said = λ i v h. absurd (no_voter rows f i v h);
}

free_at : (rows : List MaskRow) → AreFree rows → (q : ℕ) (b : Bool) → nat_lt q 10 ≡ b → get (votes_at rows) q ≡ None
free_at rows f q true e = get_few rows q (grind (arith, nat_tests)) ∙ ap (option_map (λ r. r.digest)) (none_said rows q (all_zero rows f.free))
free_at rows f q false e = get_many rows q (grind (arith, nat_tests))

pub free_is : (rows : List MaskRow) → AreFree rows → votes_at rows ≡ empty
free_is rows f = same_map nat_cmp_total nat_cmp-IsAntisymmetric _ _ (λ q. free_at rows f q (nat_lt q 10) refl ∙ sym (get-empty nat_cmp q))

-- the voters for a digest
join : (x e a c : Bool) → (c ≡ true → x ≡ e) → ((x && c) || (a && e)) ≡ ((c || a) && e)
join true true a true h = refl
join true false a true h = absurd (false≢true (sym (h refl)))
join false true a true h = absurd (false≢true (h refl))
join false false a true h = and_false a
join true e a false h = refl
join false e a false h = refl

any_is : (v : ℕ) (d s : List ℕ) (rows : List MaskRow) → ((i : ℕ) → has (get_or rows i free_row) v ≡ true → (get_or rows i free_row).digest ≡ s) → list_any (is_for d v) rows ≡ (list_any (λ x. has x v) rows && bytes_eq s d)
any_is v d s [] h = refl
any_is v d s (x ∷ rows) h =
    ap (λ b. (bytes_eq x.digest d && has x v) || b) (any_is v d s rows (λ i. h (suc i)))
    ∙ join (bytes_eq x.digest d) (bytes_eq s d) (list_any (λ y. has y v) rows) (has x v) (λ g. ap (λ y. bytes_eq y d) (h 0 g))

found_by : (b a : Bool) (x : MaskRow) (o : Option MaskRow) → a ≡ is_some o → (b || a) ≡ is_some (cond b (Some x) o)
found_by true a x o h = refl
found_by false a x o h = h

any_found : (v : ℕ) (rows : List MaskRow) → list_any (λ x. has x v) rows ≡ is_some (find (λ x. has x v) rows)
any_found v [] = refl
any_found v (x ∷ rows) = found_by (has x v) (list_any (λ y. has y v) rows) x (find (λ y. has y v) rows) (any_found v rows)

mapped : (o : Option MaskRow) → is_some o ≡ is_some (option_map (λ r. r.digest) o)
mapped None = refl
mapped (Some r) = refl

any_said : (v : ℕ) (rows : List MaskRow) → list_any (λ x. has x v) rows ≡ is_some (said_in rows v)
any_said v rows = any_found v rows ∙ mapped (find (λ x. has x v) rows)

for_by : (rows : List MaskRow) (v : ℕ) (d : List ℕ) → IsTally rows → (o : Option (List ℕ)) → said_in rows v ≡ o → list_any (is_for d v) rows ≡ option_map_or (λ s. bytes_eq s d) o false
for_by rows v d t None e =
    any_is v d [] rows (λ i h. absurd (not_none rows t i v h e)) ∙ ap (λ b. b && bytes_eq [] d) (any_said v rows ∙ ap is_some e)
for_by rows v d t (Some s) e =
    any_is v d s rows (λ i h. same_Some (get_or rows i free_row).digest s (sym (t.said i v h) ∙ e)) ∙ ap (λ b. b && bytes_eq s d) (any_said v rows ∙ ap is_some e)

-- whether a mask of all that are for a digest has a voter
pub is_for_said : (rows : List MaskRow) (v : ℕ) (d : List ℕ) → IsTally rows → v < 10 → list_any (is_for d v) rows ≡ is_said (votes_at rows) v d
is_for_said rows v d t h = for_by rows v d t (said_in rows v) refl ∙ ap (λ o. option_map_or (λ s. bytes_eq s d) o false) (sym (get_few rows v h))

-- tests that agree below n count alike
pub same_count : (n : ℕ) (f g : ℕ → Bool) → ((v : ℕ) → v < n → f v ≡ g v) → count_below n f ≡ count_below n g
same_count zero f g h = refl
same_count (suc n) f g h =
    ap (λ b. cond b (suc (count_below n f)) (count_below n f)) (h n (omega arith)) ∙ ap (λ c. cond (g n) (suc c) c) (same_count n f g (λ v l. h v (omega arith)))

or_step : (b a c : Bool) → (b || (a || c)) ≡ ((b || a) || c)
or_step true a c = refl
or_step false a c = refl

pub or_none : (b : Bool) → (b || false) ≡ b
or_none true = refl
or_none false = refl

-- one row more
pub any_more : (p : MaskRow → Bool) (rows : List MaskRow) (i : ℕ) (r : MaskRow) → i < length rows → list_any p (take (i + 1) rows) ≡ (list_any p (take i rows) || p (get_or rows i r))
any_more p [] i r h = absurd (omega arith)
any_more p (x ∷ rows) zero r h = or_none (p x)
any_more p (x ∷ rows) (suc i) r h =
    ap (λ n. list_any p (take n (x ∷ rows))) (let z : suc i + 1 ≡ suc (i + 1) = omega arith in z)
    ∙ (ap (λ b. p x || b) (any_more p rows i r (omega arith)) ∙ or_step (p x) (list_any p (take i rows)) (p (get_or rows i r)))

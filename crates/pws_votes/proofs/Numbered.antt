-- The votes that tallies stand for, by the numbers of their keys.
use Rattle.std.proofs.Common.{◌≡◌, ◌≢◌, ◌⊎◌, inl, inr, ℕ, zero, suc, ◌+◌, ◌*◌, ◌-◌, ◌/◌, ◌%◌, ◌<◌, ◌≤◌, Bool, true, false, cond, nat_lt, List, [], length, Option, Some, None, is_some, T, refl, sym, ◌∙◌, ap, subst, arith}
use Rattle.std.specs.declared.cmp.Ordering.TheVariants.{Less}
use Rattle.std.specs.List.{cons_option, filter_map, range_with_len}
use Rattle.std.specs.Option.{option_map}
use Rattle.std.specs.Ordering.{nat_cmp, is_lt, eq_by_cmp, ordering_then}
use Rattle.std.specs.FinMap.{len, get, from_sorted, find, get-from_sorted, entries-from_sorted, len-entries}
use Rattle.std.specs.FinMap.Entries.{is_sorted, below_all}
use Rattle.std.proofs.lemmas.Bool.{false≢true}
use Rattle.std.proofs.lemmas.Bool.Decides.{nat_tests}
use Rattle.std.proofs.lemmas.Map.Views.{tells_apart}
use Rattle.pws_places.proofs.Listed.{both}
use Rattle.pws_votes.specs.declared.kinds.VoteKind.{VoteKind}
use Rattle.pws_votes.specs.declared.kinds.VoteKind.TheVariants.{Prepare, Commit, Checkpoint}
use Rattle.pws_votes.specs.declared.mask_book.Tallies.{Tallies}
use Rattle.pws_votes.specs.Votes.{Key, key_cmp, number_of}
use Rattle.pws_votes.specs.MaskBooks.{kind_at, key_at, numbered, listed, is_inside, vote_in, map_of, vote_at, votes_of}
use Rattle.pws_votes.proofs.Found.{kind_is, keys_exact, self_test}

abbrev Vote : Type 0
Vote = Key → Option (List ℕ)

kind_number : (m : ℕ) → m < 3 → number_of (kind_at m) ≡ m
kind_number zero h = refl
kind_number (suc zero) h = refl
kind_number (suc (suc m)) h = last m (omega arith)
  where
    last : (m : ℕ) → m ≡ 0 → number_of (kind_at (suc (suc m))) ≡ suc (suc m)
    last m e = subst (λ n. number_of (kind_at (suc (suc n))) ≡ suc (suc n)) (sym e) refl

-- what comes first decides
lex : (a b c d e f : ℕ) → (a < d) ⊎ ((a ≡ d) × ((b < e) ⊎ ((b ≡ e) × (c < f)))) → ordering_then (nat_cmp a d) (ordering_then (nat_cmp b e) (nat_cmp c f)) ≡ Less
lex a b c d e f h = grind (arith, nat_tests)

-- keys rise with their numbers
rises : (low i j : ℕ) → i < j → j < 960 → key_cmp (key_at low i) (key_at low j) ≡ Less
rises low i j h k =
    ap (λ n. ordering_then (nat_cmp n (number_of (kind_at (j / 320)))) (ordering_then (nat_cmp (low + 1 + i % 320 / 10) (low + 1 + j % 320 / 10)) (nat_cmp (i % 10) (j % 10)))) (kind_number (i / 320) (omega arith))
    ∙ (ap (λ n. ordering_then (nat_cmp (i / 320) n) (ordering_then (nat_cmp (low + 1 + i % 320 / 10) (low + 1 + j % 320 / 10)) (nat_cmp (i % 10) (j % 10)))) (kind_number (j / 320) (omega arith))
    ∙ lex (i / 320) (low + 1 + i % 320 / 10) (i % 10) (j / 320) (low + 1 + j % 320 / 10) (j % 10) (kinds (nat_lt (i / 320) (j / 320)) refl))
  where
    voters : (i / 320 ≡ j / 320) → (b : Bool) → nat_lt (i % 320 / 10) (j % 320 / 10) ≡ b → (low + 1 + i % 320 / 10 < low + 1 + j % 320 / 10) ⊎ ((low + 1 + i % 320 / 10 ≡ low + 1 + j % 320 / 10) × (i % 10 < j % 10))
    voters e true t = let l : i % 320 / 10 < j % 320 / 10 = grind (arith, nat_tests) in inl (omega arith)
    voters e false t = let l : j % 320 / 10 ≤ i % 320 / 10 = grind (arith, nat_tests) in inr (omega arith, omega arith)

    kinds : (b : Bool) → nat_lt (i / 320) (j / 320) ≡ b → (i / 320 < j / 320) ⊎ ((i / 320 ≡ j / 320) × ((low + 1 + i % 320 / 10 < low + 1 + j % 320 / 10) ⊎ ((low + 1 + i % 320 / 10 ≡ low + 1 + j % 320 / 10) × (i % 10 < j % 10))))
    kinds true t = inl (grind (arith, nat_tests))
    kinds false t =
        let l : j / 320 ≤ i / 320 = grind (arith, nat_tests) in
        let e : i / 320 ≡ j / 320 = omega arith in
        inr (e, voters e (nat_lt (i % 320 / 10) (j % 320 / 10)) refl)

below_go : (x k : Key) (o : Option (List ℕ)) (es : List (Key × List ℕ)) → key_cmp x k ≡ Less → T (below_all key_cmp x es) → T (below_all key_cmp x (cons_option (option_map (λ d. (k, d)) o) es))
below_go x k None es h t = t
below_go x k (Some d) es h t = both (is_lt (key_cmp x k)) (below_all key_cmp x es) (subst (λ r. T (is_lt r)) (sym h) tt) t

below : (low : ℕ) (vote : Vote) (i a n : ℕ) → i < a → a + n ≤ 960 → T (below_all key_cmp (key_at low i) (filter_map (numbered low vote) (range_with_len a n)))
below low vote i a zero h k = tt
below low vote i a (suc n) h k = below_go (key_at low i) (key_at low a) (vote (key_at low a)) (filter_map (numbered low vote) (range_with_len (a + 1) n)) (rises low i a h (omega arith)) (below low vote i (a + 1) n (omega arith) (omega arith))

sorted_go : (k : Key) (o : Option (List ℕ)) (es : List (Key × List ℕ)) → T (below_all key_cmp k es) → T (is_sorted key_cmp es) → T (is_sorted key_cmp (cons_option (option_map (λ d. (k, d)) o) es))
sorted_go k None es b s = s
sorted_go k (Some d) es b s = both (below_all key_cmp k es) (is_sorted key_cmp es) b s

sorted : (low : ℕ) (vote : Vote) (a n : ℕ) → a + n ≤ 960 → T (is_sorted key_cmp (filter_map (numbered low vote) (range_with_len a n)))
sorted low vote a zero h = tt
sorted low vote a (suc n) h = sorted_go (key_at low a) (vote (key_at low a)) (filter_map (numbered low vote) (range_with_len (a + 1) n)) (below low vote a (a + 1) n (omega arith) (omega arith)) (sorted low vote (a + 1) n (omega arith))

-- a key without a vote isn't found
none_go : (vote : Vote) (q k : Key) (o : Option (List ℕ)) (es : List (Key × List ℕ)) → vote k ≡ o → vote q ≡ None → find key_cmp q es ≡ None → find key_cmp q (cons_option (option_map (λ d. (k, d)) o) es) ≡ None
none_go vote q k None es e n h = h
none_go vote q k (Some d) es e n h = by_test (eq_by_cmp key_cmp q k) refl
  where
    by_test : (b : Bool) → eq_by_cmp key_cmp q k ≡ b → cond b (Some d) (find key_cmp q es) ≡ None
    by_test true t =
        let i : ◌≡◌ {A = Option (List ℕ)} (Some d) None = sym e ∙ (ap vote (sym (tells_apart keys_exact q k t)) ∙ n) in
        absurd (cc)
    by_test false t = h

find_none : (low : ℕ) (vote : Vote) (q : Key) (a n : ℕ) → vote q ≡ None → find key_cmp q (filter_map (numbered low vote) (range_with_len a n)) ≡ None
find_none low vote q a zero h = refl
find_none low vote q a (suc n) h = none_go vote q (key_at low a) (vote (key_at low a)) (filter_map (numbered low vote) (range_with_len (a + 1) n)) refl h (find_none low vote q (a + 1) n h)

-- one with a vote is, at its number
some_go : (vote : Vote) (q k : Key) (d : List ℕ) (o : Option (List ℕ)) (es : List (Key × List ℕ)) (b : Bool) → vote k ≡ o → vote q ≡ Some d → eq_by_cmp key_cmp q k ≡ b → (b ≡ false → find key_cmp q es ≡ Some d) → find key_cmp q (cons_option (option_map (λ d. (k, d)) o) es) ≡ Some d
some_go vote q k d None es true e v t more =
    let i : ◌≡◌ {A = Option (List ℕ)} None (Some d) = sym e ∙ (ap vote (sym (tells_apart keys_exact q k t)) ∙ v) in
    absurd (cc)
some_go vote q k d (Some x) es true e v t more =
    ap (λ b. cond b (Some x) (find key_cmp q es)) t ∙ (sym e ∙ (ap vote (sym (tells_apart keys_exact q k t)) ∙ v))
some_go vote q k d None es false e v t more = more refl
some_go vote q k d (Some x) es false e v t more = ap (λ b. cond b (Some x) (find key_cmp q es)) t ∙ more refl

find_some : (low : ℕ) (vote : Vote) (q : Key) (d : List ℕ) (i a n : ℕ) → a ≤ i → i < a + n → key_at low i ≡ q → vote q ≡ Some d → find key_cmp q (filter_map (numbered low vote) (range_with_len a n)) ≡ Some d
find_some low vote q d i a zero h k e v = absurd (omega arith)
find_some low vote q d i a (suc n) h k e v =
    some_go vote q (key_at low a) d (vote (key_at low a)) (filter_map (numbered low vote) (range_with_len (a + 1) n)) (eq_by_cmp key_cmp q (key_at low a)) refl v refl
    (λ t. let m : i ≢ a = λ s. false≢true (sym t ∙ (ap (λ x. eq_by_cmp key_cmp q (key_at low x)) (sym s) ∙ (ap (eq_by_cmp key_cmp q) e ∙ self_test q))) in find_some low vote q d i (a + 1) n (omega arith) (omega arith) e v)

-- a key that there may be has a number
number : ℕ → Key → ℕ
number low k = number_of k.kind * 320 + (k.place - (low + 1)) * 10 + k.voter

record IsOpenKey (low : ℕ) (k : Key) : Type 0 where
  voter : k.voter < 10
  above : low < k.place
  near : k.place ≤ low + 32

opened : (f low : ℕ) (k : Key) → f ≤ 3 → is_inside f low k ≡ true → IsOpenKey low k
opened f low k s h = record { voter = grind (arith, nat_tests); above = grind (arith, nat_tests); near = grind (arith, nat_tests) }

few_kinds : (k : VoteKind) → number_of k ≤ 2
few_kinds Prepare = omega arith
few_kinds Commit = omega arith
few_kinds Checkpoint = omega arith

small : (low : ℕ) (k : Key) → IsOpenKey low k → number low k < 960
unfolding number
small low k o = let n = few_kinds k.kind in omega (arith, o.voter, o.above, o.near)

key_back : (low : ℕ) (k : Key) → IsOpenKey low k → key_at low (number low k) ≡ k
unfolding number
key_back low k o =
    let n = few_kinds k.kind in
    let i = number_of k.kind * 320 + (k.place - (low + 1)) * 10 + k.voter in
    let d : i / 320 ≡ number_of k.kind = omega (arith, o.voter, o.above, o.near) in
    let a : kind_at (i / 320) ≡ k.kind = kind_is (kind_at (i / 320)) k.kind (kind_number (i / 320) (omega arith) ∙ d) in
    let p : low + 1 + i % 320 / 10 ≡ k.place = omega (arith, o.voter, o.above, o.near) in
    let v : i % 10 ≡ k.voter = omega (arith, o.voter, o.above, o.near) in
    λ x. record { kind = a x; place = p x; voter = v x }

vote_inside : (f : ℕ) (t : Tallies) (k : Key) (b : Bool) → is_inside f t.prepares.low k ≡ b → (d : List ℕ) → cond b (vote_at (map_of k.kind t) k.place k.voter) None ≡ Some d → b ≡ true
vote_inside f t k true e d h = refl
vote_inside f t k false e d h = absurd (let i : ◌≡◌ {A = Option (List ℕ)} None (Some d) = h in cc)

get_by : (f : ℕ) (t : Tallies) → f ≤ 3 → (q : Key) (o : Option (List ℕ)) → vote_in f t q ≡ o → get (votes_of f t) q ≡ o
unfolding votes_of listed
get_by f t s q None e =
    let low = t.prepares.low in
    get-from_sorted key_cmp (filter_map (numbered low (vote_in f t)) (range_with_len 0 960)) q (sorted low (vote_in f t) 0 960 (omega arith)) ∙ find_none low (vote_in f t) q 0 960 e
get_by f t s q (Some d) e =
    let low = t.prepares.low in
    let o = opened f low q s (vote_inside f t q (is_inside f low q) refl d e) in
    get-from_sorted key_cmp (filter_map (numbered low (vote_in f t)) (range_with_len 0 960)) q (sorted low (vote_in f t) 0 960 (omega arith)) ∙ find_some low (vote_in f t) q d (number low q) 0 960 (omega arith) (small low q o) (key_back low q o) e

-- what the book has at a key is what its tally has
pub get_is : (f : ℕ) (t : Tallies) → f ≤ 3 → (q : Key) → get (votes_of f t) q ≡ vote_in f t q
get_is f t s q = get_by f t s q (vote_in f t q) refl

-- counting them
length_cons : {Y : Type 0} (o : Option Y) (xs : List Y) → length (cons_option o xs) ≡ cond (is_some o) 1 0 + length xs
length_cons None xs = omega arith
length_cons (Some y) xs = omega arith

length_more : {Y : Type 0} (e : ℕ → Option Y) (a n : ℕ) → length (filter_map e (range_with_len a (suc n))) ≡ length (filter_map e (range_with_len a n)) + cond (is_some (e (a + n))) 1 0
length_more e a zero = length_cons (e a) [] ∙ (ap (λ x. cond (is_some (e x)) 1 0 + 0) (let z : a ≡ a + 0 = omega arith in z) ∙ (let z : cond (is_some (e (a + 0))) 1 0 + 0 ≡ 0 + cond (is_some (e (a + 0))) 1 0 = omega arith in z))
length_more e a (suc n) =
    let more : length (filter_map e (range_with_len (a + 1) (suc n))) ≡ length (filter_map e (range_with_len (a + 1) n)) + cond (is_some (e (a + suc n))) 1 0 =
    length_more e (a + 1) n ∙ ap (λ i. length (filter_map e (range_with_len (a + 1) n)) + cond (is_some (e i)) 1 0) (let z : a + 1 + n ≡ a + suc n = omega arith in z) in
    let c : length (filter_map e (range_with_len a (suc (suc n)))) ≡ cond (is_some (e a)) 1 0 + length (filter_map e (range_with_len (a + 1) (suc n))) = length_cons (e a) (filter_map e (range_with_len (a + 1) (suc n))) in
    let d : length (filter_map e (range_with_len a (suc n))) ≡ cond (is_some (e a)) 1 0 + length (filter_map e (range_with_len (a + 1) n)) = length_cons (e a) (filter_map e (range_with_len (a + 1) n)) in
    omega arith

mapped_some : {A B : Type 0} (f : A → B) (o : Option A) → is_some (option_map f o) ≡ is_some o
mapped_some f None = refl
mapped_some f (Some x) = refl

pub listed_more : (low : ℕ) (vote : Vote) (i : ℕ) → length (listed low vote (i + 1)) ≡ length (listed low vote i) + cond (is_some (vote (key_at low i))) 1 0
unfolding listed
listed_more low vote i =
    ap (λ n. length (filter_map (numbered low vote) (range_with_len 0 n))) (let z : i + 1 ≡ suc i = omega arith in z)
    ∙ (length_more (numbered low vote) 0 i
    ∙ ap (λ b. length (filter_map (numbered low vote) (range_with_len 0 i)) + cond b 1 0) (ap (λ x. is_some (numbered low vote x)) (let z : 0 + i ≡ i = omega arith in z) ∙ mapped_some (λ d. (key_at low i, d)) (vote (key_at low i))))

pub listed_none : (low : ℕ) (vote : Vote) → length (listed low vote 0) ≡ 0
unfolding listed
listed_none low vote = refl

few_by : (b : Bool) → cond b 1 0 ≤ 1
few_by true = omega arith
few_by false = omega arith

pub listed_few : (low : ℕ) (vote : Vote) (n : ℕ) → length (listed low vote n) ≤ n
listed_few low vote zero = let e = listed_none low vote in omega arith
listed_few low vote (suc n) =
    let e = listed_more low vote n in
    let b = few_by (is_some (vote (key_at low n))) in
    let m = listed_few low vote n in
    let s : length (listed low vote (suc n)) ≡ length (listed low vote (n + 1)) = ap (λ k. length (listed low vote k)) (let z : suc n ≡ n + 1 = omega arith in z) in
    omega arith

pub len_is : (f : ℕ) (t : Tallies) → len (votes_of f t) ≡ length (listed t.prepares.low (vote_in f t) 960)
unfolding votes_of listed
len_is f t =
    let es = filter_map (numbered t.prepares.low (vote_in f t)) (range_with_len 0 960) in
    len-entries (from_sorted es) ∙ ap length (entries-from_sorted key_cmp es (sorted t.prepares.low (vote_in f t) 0 960 (omega arith)))

-- Tables from rows: one more row, and rows that aren't as they ought to be.
use Rattle.std.proofs.Common.{◌≡◌, ℕ, zero, suc, ◌+◌, ◌<◌, ◌≤◌, ◌&&◌, ◌||◌, not, List, [], ◌∷◌, ◌++◌, length, take, find, get_or, Option, Some, None, true, false, Bool, Err, is_some, cond, refl, sym, ◌∙◌, ap, subst, arith}
use Rattle.std.specs.FinMap.{empty}
use Rattle.pws_auth.specs.declared.tables.KeysError.{KeysError}
use Rattle.pws_auth.specs.declared.tables.KeysError.TheVariants as keys_error
use Rattle.std.specs.List.{list_any, list_all}
use Rattle.std.specs.Option.{option_map}
use Rattle.std.proofs.lemmas.Bool.Decides.{nat_tests}
use Rattle.std.proofs.lemmas.List.{take_more}
use Rattle.std.proofs.lemmas.List.Folds.{list_any-append, list_any_at, list_all_more}
use Rattle.pws_base.specs.declared.shapes.ReplicaId.{ReplicaId}
use Rattle.pws_base.specs.Shapes.{has_replica}
use Rattle.pws_base.specs.Replicas.{is_same, is_among}
use Rattle.pws_auth.specs.Keys.{Keys, key_for, Rows, is_named, are_distinct, row_key, key_of_rows, has_key, AreRowsOf, GivesRows, SealsForAll}
use Rattle.pws_auth.specs.Steps.{added_pair, is_free, AddsRow}
use Rattle.pws_auth.proofs.Found.{all_at}
use Rattle.pws_auth.proofs.Seeds.{all_taken, key_of_empty, seals_for_all}
use Rattle.pws_auth.proofs.Puts.{both, same_is, same_itself}

pub same_turned : (a b : ReplicaId) → is_same a b ≡ is_same b a
same_turned a b = grind (arith, nat_tests)

mapped : (x : Bool) (row : ReplicaId × List ℕ) (o : Option (ReplicaId × List ℕ)) → option_map (λ (r : ReplicaId × List ℕ). r.1) (cond x (Some row) o) ≡ cond x (Some row.1) (option_map (λ (r : ReplicaId × List ℕ). r.1) o)
mapped true row o = refl
mapped false row o = refl

row_key-cons : (row : ReplicaId × List ℕ) (rows : Rows) (b : ReplicaId) → row_key (row ∷ rows) b ≡ cond (is_same row.0 b) (Some row.1) (row_key rows b)
row_key-cons row rows b = mapped (is_same row.0 b) row (find (λ r. is_same r.0 b) rows)

row_go : (x y : Bool) (v k : List ℕ) (f g : Option (List ℕ)) → (x ≡ true → y ≡ true → true ≡ false) → f ≡ cond y (Some k) g → cond x (Some v) f ≡ cond y (Some k) (cond x (Some v) g)
row_go true true v k f g n h = let e = n refl refl in absurd (cc)
row_go true false v k f g n h = refl
row_go false y v k f g n h = h

neither : (a b : Bool) → a || b ≡ false → (a ≡ false) × (b ≡ false)
neither true b h = absurd (cc)
neither false b h = (refl, h)

apart : (x r b : ReplicaId) → is_same x r ≡ false → is_same x b ≡ true → is_same r b ≡ true → true ≡ false
apart x r b n h k =
    let e : is_same x r ≡ true = grind (arith, nat_tests) in
    cc

-- the keys that rows give, and one more row
row_key-push : (rows : Rows) (r : ReplicaId) (k : List ℕ) (b : ReplicaId) → is_named rows r ≡ false → row_key (rows ++ (r, k) ∷ []) b ≡ cond (is_same r b) (Some k) (row_key rows b)
row_key-push [] r k b h = row_key-cons (r, k) [] b
row_key-push (row ∷ rows) r k b h =
    let n = neither (is_same row.0 r) (is_named rows r) h in
    row_key-cons row (rows ++ (r, k) ∷ []) b
    ∙ (row_go (is_same row.0 b) (is_same r b) row.1 k (row_key (rows ++ (r, k) ∷ []) b) (row_key rows b) (apart row.0 r b n.0) (row_key-push rows r k b n.1)
    ∙ ap (λ o. cond (is_same r b) (Some k) o) (sym (row_key-cons row rows b)))

some_go : (x : Bool) (v : List ℕ) (o : Option (List ℕ)) → is_some (cond x (Some v) o) ≡ x || is_some o
some_go true v o = refl
some_go false v o = refl

-- the replicas that rows name are those that they give a key
is_some-row_key : (rows : Rows) (r : ReplicaId) → is_some (row_key rows r) ≡ is_named rows r
is_some-row_key [] r = refl
is_some-row_key (row ∷ rows) r =
    ap is_some (row_key-cons row rows r) ∙ (some_go (is_same row.0 r) row.1 (row_key rows r) ∙ ap (λ t. is_same row.0 r || t) (is_some-row_key rows r))

key_go : {X : Type 0} (s ma mb ra rb : Bool) (k oa ob : Option X) → (ma ≡ true → mb ≡ true → s ≡ true) → cond s None (cond ma (cond rb k ob) (cond mb (cond ra k oa) None)) ≡ cond (not s && ((ma && rb) || (mb && ra))) k (cond s None (cond ma ob (cond mb oa None)))
key_go true ma mb ra rb k oa ob h = refl
key_go false true true ra rb k oa ob h = let e : false ≡ true = h refl refl in absurd (cc)
key_go false true false ra true k oa ob h = refl
key_go false true false ra false k oa ob h = refl
key_go false false true true rb k oa ob h = refl
key_go false false true false rb k oa ob h = refl
key_go false false false ra rb k oa ob h = refl

both_me : (x a b : ReplicaId) → is_same x a ≡ true → is_same x b ≡ true → is_same a b ≡ true
both_me x a b h k = grind (arith, nat_tests)

key_of_rows-push : (me : ReplicaId) (rows : Rows) (r : ReplicaId) (k : List ℕ) (a b : ReplicaId) → is_named rows r ≡ false → key_of_rows me (rows ++ (r, k) ∷ []) a b ≡ added_pair me r k a b (key_of_rows me rows a b)
key_of_rows-push me rows r k a b h =
    ap (λ o. cond (is_same a b) None (cond (is_same me a) o (cond (is_same me b) (row_key (rows ++ (r, k) ∷ []) a) None))) (row_key-push rows r k b h)
    ∙ (ap (λ o. cond (is_same a b) None (cond (is_same me a) (cond (is_same r b) (Some k) (row_key rows b)) (cond (is_same me b) o None))) (row_key-push rows r k a h)
    ∙ key_go (is_same a b) (is_same me a) (is_same me b) (is_same r a) (is_same r b) (Some k) (row_key rows a) (row_key rows b) (both_me me a b))

-- one more row in a loop
pub key_of_rows_more : (me : ReplicaId) (rows : Rows) (i : ℕ) (d : ReplicaId × List ℕ) (a b : ReplicaId) → i < length rows → is_named (take i rows) (get_or rows i d).0 ≡ false
    → added_pair me (get_or rows i d).0 (get_or rows i d).1 a b (key_of_rows me (take i rows) a b) ≡ key_of_rows me (take (i + 1) rows) a b
key_of_rows_more me rows i d a b h n =
    sym (ap (λ rs. key_of_rows me rs a b) (take_more rows i d h) ∙ key_of_rows-push me (take i rows) (get_or rows i d).0 (get_or rows i d).1 a b n)

no_rows_go : {X : Type 0} (s ma mb : Bool) → ◌≡◌ {A = Option X} (cond s None (cond ma None (cond mb None None))) None
no_rows_go true ma mb = refl
no_rows_go false true mb = refl
no_rows_go false false true = refl
no_rows_go false false false = refl

pub key_of_no_rows : (me a b : ReplicaId) → key_of_rows me [] a b ≡ None
key_of_no_rows me a b = no_rows_go (is_same a b) (is_same me a) (is_same me b)

has_go : (s m : Bool) (o p : Option (List ℕ)) → m ≡ true → is_some (cond s None (cond m o p)) ≡ not s && is_some o
has_go true m o p h = refl
has_go false true o p h = refl
has_go false false o p h = absurd (cc)

-- whether I have a key with a replica by rows
is_some-key_of_rows : (me : ReplicaId) (rows : Rows) (r : ReplicaId) → is_some (key_of_rows me rows me r) ≡ not (is_same me r) && is_named rows r
is_some-key_of_rows me rows r =
    has_go (is_same me r) (is_same me me) (row_key rows r) _ (same_itself me) ∙ ap (λ t. not (is_same me r) && t) (is_some-row_key rows r)

free_go : (h s n : Bool) → h && not s && not (not s && n) ≡ h && not s && not n
free_go true true n = refl
free_go true false n = refl
free_go false s n = refl

-- a replica is free where it is another one and isn't named by the rows so far
pub is_free_by_rows : (t : Keys) (layout : List ℕ) (me : ReplicaId) (rows : Rows) (r : ReplicaId) → t.layout ≡ layout → ((a b : ReplicaId) → key_for t a b ≡ key_of_rows me rows a b) → is_free t me r ≡ (has_replica layout r && not (is_same r me)) && not (is_named rows r)
is_free_by_rows t layout me rows r e keys =
    ap (λ l. has_replica l r && not (is_same r me) && not (is_some (key_for t me r))) e
    ∙ (ap (λ o. has_replica layout r && not (is_same r me) && not (is_some o)) (keys me r)
    ∙ (ap (λ t. has_replica layout r && not (is_same r me) && not t) (is_some-key_of_rows me rows r ∙ ap (λ s. not s && is_named rows r) (same_turned me r))
    ∙ free_go (has_replica layout r) (is_same r me) (is_named rows r)))

held_go : (s n : Bool) → s || (not s && n) ≡ s || n
held_go true n = refl
held_go false n = refl

-- I can seal for a replica that is me or is named
pub has_key_by_rows : (t : Keys) (me : ReplicaId) (rows : Rows) (r : ReplicaId) → ((a b : ReplicaId) → key_for t a b ≡ key_of_rows me rows a b) → has_key t me r ≡ is_same me r || is_named rows r
has_key_by_rows t me rows r keys =
    ap (λ o. is_same me r || is_some o) (keys me r) ∙ (ap (λ t. is_same me r || t) (is_some-key_of_rows me rows r) ∙ held_go (is_same me r) (is_named rows r))

distinct_go : (n d t m : Bool) → not (n || (t || false)) && (d && not m) ≡ (not n && d) && not (t || m)
distinct_go true d t m = refl
distinct_go false true true m = refl
distinct_go false true false m = refl
distinct_go false false true m = refl
distinct_go false false false m = refl

are_distinct-push : (rows : Rows) (x : ReplicaId × List ℕ) → are_distinct (rows ++ x ∷ []) ≡ are_distinct rows && not (is_named rows x.0)
are_distinct-push [] x = refl
are_distinct-push (y ∷ ys) x =
    ap (λ t. not t && are_distinct (ys ++ x ∷ [])) (list_any-append (λ row. is_same row.0 y.0) ys (x ∷ []) ∙ ap (λ t. is_named ys y.0 || (t || false)) (same_turned x.0 y.0))
    ∙ (ap (λ t. not (is_named ys y.0 || (is_same y.0 x.0 || false)) && t) (are_distinct-push ys x)
    ∙ distinct_go (is_named ys y.0) (are_distinct ys) (is_same y.0 x.0) (is_named ys x.0))

pub are_distinct_more : (rows : Rows) (i : ℕ) (d : ReplicaId × List ℕ) → i < length rows → are_distinct (take i rows) ≡ true → is_named (take i rows) (get_or rows i d).0 ≡ false → are_distinct (take (i + 1) rows) ≡ true
are_distinct_more rows i d h e n =
    ap are_distinct (take_more rows i d h) ∙ (are_distinct-push (take i rows) (get_or rows i d) ∙ (ap (λ t. t && not (is_named (take i rows) (get_or rows i d).0)) e ∙ ap not n))

pub list_all_one_more : {X : Type 0} (p : X → Bool) (xs : List X) (i : ℕ) (d : X) → i < length xs → list_all p (take i xs) ≡ true → p (get_or xs i d) ≡ true → list_all p (take (i + 1) xs) ≡ true
list_all_one_more p xs i d h e f = list_all_more p xs i d h ∙ (ap (λ t. t && p (get_or xs i d)) e ∙ f)

turn_not : (a : Bool) → not a ≡ true → a ≡ false
turn_not true h = absurd (cc)
turn_not false h = refl

absent_go : {X : Type 0} (p : X → Bool) (xs : List X) (i : ℕ) (d : X) (b : Bool) → p (get_or xs i d) ≡ b → i < length xs → list_any p xs ≡ false → p (get_or xs i d) ≡ false
absent_go p xs i d true e h n = let f = list_any_at p xs i d h e in absurd (cc)
absent_go p xs i d false e h n = e

-- of distinct rows the one at an index isn't named before
distinct_at : (rows : Rows) (i : ℕ) (d : ReplicaId × List ℕ) → i < length rows → are_distinct rows ≡ true → is_named (take i rows) (get_or rows i d).0 ≡ false
distinct_at [] i d h e = absurd (omega arith)
distinct_at (y ∷ ys) zero d h e = refl
distinct_at (y ∷ ys) (suc i) d h e =
    let b = both (not (is_named ys y.0)) (are_distinct ys) e in
    let n : is_same (get_or ys i d).0 y.0 ≡ false = absent_go (λ row. is_same row.0 y.0) ys i d (is_same (get_or ys i d).0 y.0) refl (omega arith) (turn_not (is_named ys y.0) b.0) in
    ap (λ t. t || is_named (take i ys) (get_or ys i d).0) (same_turned y.0 (get_or ys i d).0 ∙ n) ∙ distinct_at ys i d (omega arith) b.1

-- rows as they ought to be have a free replica at each index
pub row_is_free : (layout : List ℕ) (me : ReplicaId) (rows : Rows) (i : ℕ) (d : ReplicaId × List ℕ) → i < length rows → AreRowsOf layout me rows
    → (has_replica layout (get_or rows i d).0 && not (is_same (get_or rows i d).0 me)) && not (is_named (take i rows) (get_or rows i d).0) ≡ true
row_is_free layout me rows i d h w =
    ap (λ t. t && not (is_named (take i rows) (get_or rows i d).0)) (all_at (λ row. has_replica layout row.0 && not (is_same row.0 me)) rows i d h w.others)
    ∙ ap not (distinct_at rows i d h w.once)

among_go : (p : ReplicaId → Bool) (x r : ReplicaId) (s : Bool) (rest : Bool) → is_same x r ≡ s → p x ≡ true → (rest ≡ true → p r ≡ true) → s || rest ≡ true → p r ≡ true
among_go p x r true rest e f k h = ap p (sym (same_is x r e)) ∙ f
among_go p x r false rest e f k h = k h

-- what all of these pass, each one among them passes
pub all_among : (p : ReplicaId → Bool) (members : List ReplicaId) (r : ReplicaId) → list_all p members ≡ true → is_among members r ≡ true → p r ≡ true
all_among p [] r h k = absurd (cc)
all_among p (x ∷ xs) r h k =
    let b = both (p x) (list_all p xs) h in
    among_go p x r (is_same x r) (is_among xs r) refl b.0 (λ e. all_among p xs r b.1 e) k

pub all_if_among : (p : ReplicaId → Bool) (members : List ReplicaId) → ((r : ReplicaId) → is_among members r ≡ true → p r ≡ true) → list_all p members ≡ true
all_if_among p [] h = refl
all_if_among p (x ∷ xs) h =
    let first : p x ≡ true = h x (ap (λ t. t || is_among xs x) (same_itself x)) in
    let or_true : (b : Bool) → b || true ≡ true = λ b. elim b as (λ v. v || true ≡ true) [ true ↦ refl | false ↦ refl ] in
    rw first (all_if_among p xs (λ r e. h r (ap (λ t. is_same x r || t) e ∙ or_true (is_same x r))))

-- a table has the keys of rows, which so far are as they ought to be
pub record HasRows (t : Keys) (layout : List ℕ) (me : ReplicaId) (rows : Rows) : Type 0 where
  pub layout_is : t.layout ≡ layout
  pub keys : (a b : ReplicaId) → key_for t a b ≡ key_of_rows me rows a b
  pub others : list_all (λ row. has_replica layout row.0 && not (is_same row.0 me)) rows ≡ true
  pub once : are_distinct rows ≡ true

pub has_no_rows : (t : Keys) (layout : List ℕ) (me : ReplicaId) → t.layout ≡ layout → t.keys ≡ empty → HasRows t layout me []
has_no_rows t layout me e h =
    record { layout_is = e; keys = λ a b. key_of_empty t h a b ∙ sym (key_of_no_rows me a b); others = refl; once = refl }

pub has_row_more : (old new : Keys) (layout : List ℕ) (me : ReplicaId) (rows : Rows) (i : ℕ) (d : ReplicaId × List ℕ) → i < length rows → HasRows old layout me (take i rows) → new.layout ≡ old.layout → is_free old me (get_or rows i d).0 ≡ true
    → ((a b : ReplicaId) → key_for new a b ≡ added_pair me (get_or rows i d).0 (get_or rows i d).1 a b (key_for old a b)) → HasRows new layout me (take (i + 1) rows)
has_row_more old new layout me rows i d h before e free keys =
    let x = get_or rows i d in
    let test = both (has_replica layout x.0 && not (is_same x.0 me)) (not (is_named (take i rows) x.0)) (sym (is_free_by_rows old layout me (take i rows) x.0 before.layout_is before.keys) ∙ free) in
    let absent : is_named (take i rows) x.0 ≡ false = turn_not (is_named (take i rows) x.0) test.1 in
    record {
      layout_is = e ∙ before.layout_is;
      keys = λ a b. keys a b ∙ (ap (added_pair me x.0 x.1 a b) (before.keys a b) ∙ key_of_rows_more me rows i d a b h absent);
      others = list_all_one_more (λ row. has_replica layout row.0 && not (is_same row.0 me)) rows i d h before.others test.0;
      once = are_distinct_more rows i d h before.once absent;
    }

-- where a replica isn't free the rows aren't as they ought to be
pub not_free : (t : Keys) (layout : List ℕ) (me : ReplicaId) (rows : Rows) (i : ℕ) (d : ReplicaId × List ℕ) → i < length rows → HasRows t layout me (take i rows) → is_free t me (get_or rows i d).0 ≡ false → ¬ AreRowsOf layout me rows
not_free t layout me rows i d h before free w =
    let e = is_free_by_rows t layout me (take i rows) (get_or rows i d).0 before.layout_is before.keys in
    let f = row_is_free layout me rows i d h w in
    cc

pub row_refused : (old new : Keys) (layout : List ℕ) (me : ReplicaId) (rows : Rows) (i : ℕ) (d : ReplicaId × List ℕ) (key : List ℕ) (e : KeysError) → i < length rows → HasRows old layout me (take i rows)
    → AddsRow old new me (get_or rows i d).0 key (Err e) → GivesRows layout me rows (Err e)
row_refused old new layout me rows i d key keys_error.BadKeys h before free = not_free old layout me rows i d h before free
row_refused old new layout me rows i d key keys_error.Memory h before free = tt

-- a table whose rows name all others comes of rows as they ought to be
pub rows_are_whole : (t : Keys) (layout : List ℕ) (me : ReplicaId) (rows : Rows) (members : List ReplicaId) → HasRows t layout me rows → ((r : ReplicaId) → is_among members r ≡ has_replica layout r) → list_all (λ r. has_key t me r) members ≡ true → AreRowsOf layout me rows
rows_are_whole t layout me rows members before all h =
    record {
      others = before.others;
      once = before.once;
      whole = λ r k. sym (has_key_by_rows t me rows r before.keys) ∙ all_among (λ r. has_key t me r) members r h (all r ∙ k);
    }

pub me_seals : (t : Keys) (layout : List ℕ) (me : ReplicaId) (members : List ReplicaId) → t.layout ≡ layout → ((r : ReplicaId) → is_among members r ≡ has_replica layout r) → list_all (λ r. has_key t me r) members ≡ true → SealsForAll t me
me_seals t layout me members e all h =
    seals_for_all t me (λ r k. all_among (λ r. has_key t me r) members r h (all r ∙ (ap (λ l. has_replica l r) (sym e) ∙ k)))

pub not_whole : (t : Keys) (layout : List ℕ) (me : ReplicaId) (rows : Rows) (members : List ReplicaId) → HasRows t layout me rows → ((r : ReplicaId) → is_among members r ≡ has_replica layout r) → list_all (λ r. has_key t me r) members ≡ false → ¬ AreRowsOf layout me rows
not_whole t layout me rows members before all h w =
    let e = all_if_among (λ r. has_key t me r) members (λ r k. has_key_by_rows t me rows r before.keys ∙ w.whole r (sym (all r) ∙ k)) in
    cc

pub has_all_rows : (t : Keys) (layout : List ℕ) (me : ReplicaId) (rows : Rows) (i : ℕ) → i ≤ length rows → length rows ≤ i → HasRows t layout me (take i rows) → HasRows t layout me rows
has_all_rows t layout me rows i h k before = subst (λ rs. HasRows t layout me rs) (all_taken i rows h k) before

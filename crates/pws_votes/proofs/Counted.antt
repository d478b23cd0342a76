-- How many votes a list has: one an entry, and few.
use Rattle.std.proofs.Common.{◌≡◌, ℕ, ◌+◌, ◌-◌, ◌*◌, ◌<◌, ◌≤◌, ◌||◌, not, Bool, true, false, nat_eq, List, [], ◌∷◌, length, map, find, Option, Some, is_some, cond, refl, sym, ◌∙◌, ap, arith}
use Rattle.std.specs.FinMap.{len, get, from_entries, len-insert, len-empty}
use Rattle.std.specs.List.{list_any, list_all, IsDistinct, AllByRecursion}
use Rattle.std.specs.Option.{option_map}
use Rattle.std.proofs.lemmas.Bool.Decides.{nat_tests}
use Rattle.std.proofs.lemmas.List.{length-map}
use Rattle.std.proofs.lemmas.Map.Steps.{length-le_from_distinct_below}
use Rattle.pws_votes.specs.declared.kinds.VoteKind.{VoteKind}
use Rattle.pws_votes.specs.declared.kinds.VoteKind.TheVariants.{Prepare, Commit, Checkpoint}
use Rattle.pws_votes.specs.declared.list_book.Entry.{Entry}
use Rattle.pws_votes.specs.Votes.{Key, key_cmp, number_of}
use Rattle.pws_votes.specs.ListBooks.{votes_in, key_of, row_of, is_same_key, are_apart, is_inside, IsKept}
use Rattle.pws_votes.proofs.Found.{both, get_is, kind_is, key_itself, keys_total}
use Rattle.pws_votes.proofs.Kept.{turn_not}

found_go : (x : Bool) (e : Entry) (o : Option Entry) → is_some (option_map (λ (e : Entry). e.digest) (cond x (Some e) o)) ≡ x || is_some (option_map (λ (e : Entry). e.digest) o)
found_go true e o = refl
found_go false e o = refl

found : (k : Key) (es : List Entry) → is_some (option_map (λ (e : Entry). e.digest) (find (λ e. is_same_key k (key_of e)) es)) ≡ list_any (λ e. is_same_key k (key_of e)) es
found k [] = refl
found k (e ∷ es) = found_go (is_same_key k (key_of e)) e (find (λ e. is_same_key k (key_of e)) es) ∙ ap (λ t. is_same_key k (key_of e) || t) (found k es)

-- entries with keys apart stand for as many votes
pub count_is : (es : List Entry) → are_apart es ≡ true → len (votes_in es) ≡ length es
unfolding votes_in
count_is [] h = len-empty key_cmp (List ℕ)
count_is (e ∷ es) h =
    let b = both (not (list_any (λ x. is_same_key (key_of e) (key_of x)) es)) (are_apart es) h in
    let n : is_some (get (from_entries {R = key_cmp} (map row_of es)) (key_of e)) ≡ false = ap is_some (get_is es (key_of e)) ∙ (found (key_of e) es ∙ turn_not _ b.0) in
    len-insert keys_total (from_entries (map row_of es)) (key_of e) e.digest
    ∙ (ap (λ t. cond t (len (from_entries {R = key_cmp} (map row_of es))) (len (from_entries {R = key_cmp} (map row_of es)) + 1)) n
    ∙ (ap (λ m. m + 1) (count_is es b.1) ∙ omega arith))

-- a number for a vote in the window
abbrev number : ℕ → Entry → ℕ
number low e = number_of e.kind * 320 + (e.place - (low + 1)) * 10 + e.voter

few_kinds : (k : VoteKind) → number_of k ≤ 2
few_kinds Prepare = omega arith
few_kinds Commit = omega arith
few_kinds Checkpoint = omega arith

record Ranges (low : ℕ) (e : Entry) : Type 0 where
  voter : e.voter ≤ 9
  above : low < e.place
  near : e.place ≤ low + 32

ranges_of : (f low : ℕ) (e : Entry) → f ≤ 3 → is_inside f low e ≡ true → Ranges low e
ranges_of f low e s h =
    record { voter = grind (arith, nat_tests); above = grind (arith, nat_tests); near = grind (arith, nat_tests) }

small : (low : ℕ) (e : Entry) → Ranges low e → number low e < 960
small low e r = let k = few_kinds e.kind in omega (arith, r.voter, r.above, r.near)

same_of_parts : (a b : Key) → a.kind ≡ b.kind → a.place ≡ b.place → a.voter ≡ b.voter → is_same_key a b ≡ true
same_of_parts a b k p v =
    let e : a ≡ b = λ i. record { kind = k i; place = p i; voter = v i } in
    ap (λ c. is_same_key a c) (sym e) ∙ key_itself a

number_go : (low : ℕ) (a b : Entry) (t : Bool) → nat_eq (number low a) (number low b) ≡ t → Ranges low a → Ranges low b → is_same_key (key_of a) (key_of b) ≡ false → t ≡ false
number_go low a b true h r s n =
    let e : number low a ≡ number low b = grind (arith, nat_tests) in
    let j = few_kinds a.kind in
    let k = few_kinds b.kind in
    let same = same_of_parts (key_of a) (key_of b) (kind_is a.kind b.kind (omega (arith, r.voter, r.above, r.near, s.voter, s.above, s.near))) (omega (arith, r.voter, r.above, r.near, s.voter, s.above, s.near)) (omega (arith, r.voter, r.above, r.near, s.voter, s.above, s.near)) in
    cc
number_go low a b false h r s n = refl

neither : (a b : Bool) → a || b ≡ false → (a ≡ false) × (b ≡ false)
neither true b h = absurd (cc)
neither false b h = (refl, h)

others_apart : (f low : ℕ) (e : Entry) (es : List Entry) → f ≤ 3 → Ranges low e → list_all (is_inside f low) es ≡ true → list_any (λ x. is_same_key (key_of e) (key_of x)) es ≡ false → AllByRecursion (λ y. nat_eq (number low e) y ≡ false) (map (number low) es)
others_apart f low e [] s r i a = tt
others_apart f low e (x ∷ xs) s r i a =
    let b = both (is_inside f low x) (list_all (is_inside f low) xs) i in
    let n = neither (is_same_key (key_of e) (key_of x)) (list_any (λ y. is_same_key (key_of e) (key_of y)) xs) a in
    (number_go low e x (nat_eq (number low e) (number low x)) refl r (ranges_of f low x s b.0) n.0, others_apart f low e xs s r b.1 n.1)

numbers_apart : (f low : ℕ) (es : List Entry) → f ≤ 3 → list_all (is_inside f low) es ≡ true → are_apart es ≡ true → IsDistinct nat_eq (map (number low) es)
unfolding IsDistinct
numbers_apart f low [] s i a = tt
numbers_apart f low (e ∷ es) s i a =
    let b = both (is_inside f low e) (list_all (is_inside f low) es) i in
    let n = both (not (list_any (λ x. is_same_key (key_of e) (key_of x)) es)) (are_apart es) a in
    (others_apart f low e es s (ranges_of f low e s b.0) b.1 (turn_not _ n.0), numbers_apart f low es s b.1 n.1)

small_go : (q low : ℕ) (e : Entry) (rest : Bool) (t : Bool) → nat_eq q (number low e) ≡ t → Ranges low e → (rest ≡ true → q < 960) → t || rest ≡ true → q < 960
small_go q low e rest true h r k a =
    let e : q ≡ number low e = grind (arith, nat_tests) in
    let s = small low _ r in
    omega arith
small_go q low e rest false h r k a = k a

numbers_small : (f low : ℕ) (es : List Entry) → f ≤ 3 → list_all (is_inside f low) es ≡ true → (q : ℕ) → list_any (nat_eq q) (map (number low) es) ≡ true → q < 960
numbers_small f low [] s i q a = absurd (cc)
numbers_small f low (e ∷ es) s i q a =
    let b = both (is_inside f low e) (list_all (is_inside f low) es) i in
    small_go q low e (list_any (nat_eq q) (map (number low) es)) (nat_eq q (number low e)) refl (ranges_of f low e s b.0) (λ h. numbers_small f low es s b.1 q h) a

-- three kinds, 32 places and at most 10 voters
pub count_few : (f low : ℕ) (es : List Entry) → IsKept f low es → length es ≤ 960
count_few f low es k =
    let n = length-le_from_distinct_below (map (number low) es) 960 (numbers_apart f low es k.shape k.inside k.apart) (numbers_small f low es k.shape k.inside) in
    rw length-map at n

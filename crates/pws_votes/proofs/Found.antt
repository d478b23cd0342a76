use Rattle.std.proofs.Common.{◌≡◌, ℕ, Bool, true, false, List, [], ◌∷◌, ◌++◌, find, filter, map, Option, Some, None, refl, sym, ◌∙◌, ap, subst, cond, arith, nat_eq, nat_lt, ◌&&◌}
use Rattle.std.specs.Option.{option_map}
use Rattle.std.specs.Ordering.{nat_cmp, is_eq, eq_by_cmp, ordering_then}
use Rattle.std.specs.Cmp.{IsTotalOrder, nat_cmp_total, tied_itself}
use Rattle.std.proofs.lemmas.List.{map-append}
use Rattle.std.proofs.lemmas.Cmp.{on_total, then_total}
use Rattle.std.proofs.lemmas.Map.Lookups.{CmpEqualImpliesEq, exact_unsigned, exact_pairs}
use Rattle.std.proofs.lemmas.Map.Views.{tells_apart}
use Rattle.std.proofs.lemmas.Bool.Decides.{nat_tests}
use Rattle.std.specs.FinMap.{from_entries, get, insert, retain_keys, get-from_entries, get-retain_keys, from_entries_push, same_map}
use Rattle.std.specs.FinMap as fin
use Rattle.pws_votes.specs.declared.kinds.VoteKind.{VoteKind}
use Rattle.pws_votes.specs.declared.kinds.VoteKind.TheVariants.{Prepare, Commit, Checkpoint}
use Rattle.pws_votes.specs.declared.list_book.Entry.{Entry}
use Rattle.pws_votes.specs.Votes.{Key, key_cmp, number_of, is_checkpoint}
use Rattle.pws_votes.specs.ListBooks.{votes_in, key_of, row_of, is_same_kind, is_same_key}

pub keys_total : IsTotalOrder key_cmp
keys_total = then_total (on_total (λ k. number_of k.kind) nat_cmp_total) (then_total (on_total (λ (k : Key). k.place) nat_cmp_total) (on_total (λ (k : Key). k.voter) nat_cmp_total))

pub kind_is : (a b : VoteKind) → number_of a ≡ number_of b → a ≡ b
kind_is Prepare Prepare h = refl
kind_is Commit Commit h = refl
kind_is Checkpoint Checkpoint h = refl
kind_is Prepare Commit h = absurd (omega arith)
kind_is Prepare Checkpoint h = absurd (omega arith)
kind_is Commit Prepare h = absurd (omega arith)
kind_is Commit Checkpoint h = absurd (omega arith)
kind_is Checkpoint Prepare h = absurd (omega arith)
kind_is Checkpoint Commit h = absurd (omega arith)

abbrev three : Key → ℕ × (ℕ × ℕ)
three k = (number_of k.kind, (k.place, k.voter))

same_three : (a b : Key) → three a ≡ three b → a ≡ b
same_three a b h =
    let k = kind_is a.kind b.kind (ap (λ t. t.0) h) in
    let p : a.place ≡ b.place = ap (λ t. t.1.0) h in
    let v : a.voter ≡ b.voter = ap (λ t. t.1.1) h in
    λ i. record { kind = k i; place = p i; voter = v i }

pub keys_exact : CmpEqualImpliesEq key_cmp
keys_exact a b h = same_three a b (exact_pairs nat_cmp (λ (x y : ℕ × ℕ). ordering_then (nat_cmp x.0 y.0) (nat_cmp x.1 y.1)) exact_unsigned (exact_pairs nat_cmp nat_cmp exact_unsigned exact_unsigned) (three a) (three b) h)

kind_itself : (k : VoteKind) → is_same_kind k k ≡ true
kind_itself Prepare = refl
kind_itself Commit = refl
kind_itself Checkpoint = refl

kinds_are : (a b : VoteKind) → is_same_kind a b ≡ true → a ≡ b
kinds_are Prepare Prepare h = refl
kinds_are Commit Commit h = refl
kinds_are Checkpoint Checkpoint h = refl
kinds_are Prepare Commit h = absurd (cc)
kinds_are Prepare Checkpoint h = absurd (cc)
kinds_are Commit Prepare h = absurd (cc)
kinds_are Commit Checkpoint h = absurd (cc)
kinds_are Checkpoint Prepare h = absurd (cc)
kinds_are Checkpoint Commit h = absurd (cc)

pub both : (a b : Bool) → a && b ≡ true → (a ≡ true) × (b ≡ true)
both true true h = (refl, refl)
both true false h = absurd (cc)
both false b h = absurd (cc)

pub keys_are : (a b : Key) → is_same_key a b ≡ true → a ≡ b
keys_are a b h =
    let p = both (is_same_kind a.kind b.kind && nat_eq a.place b.place) (nat_eq a.voter b.voter) h in
    let q = both (is_same_kind a.kind b.kind) (nat_eq a.place b.place) p.0 in
    let k = kinds_are a.kind b.kind q.0 in
    let pl : a.place ≡ b.place = grind (arith, nat_tests) in
    let vo : a.voter ≡ b.voter = grind (arith, nat_tests) in
    λ i. record { kind = k i; place = pl i; voter = vo i }

pub key_itself : (a : Key) → is_same_key a a ≡ true
key_itself a = rw kind_itself (grind (arith, nat_tests))

pub self_test : (a : Key) → eq_by_cmp key_cmp a a ≡ true
self_test a = ap is_eq (tied_itself keys_total a)

test_by : (a b : Key) (x y : Bool) → eq_by_cmp key_cmp a b ≡ x → is_same_key a b ≡ y → x ≡ y
test_by a b true true h k = refl
test_by a b true false h k = let e : a ≡ b = tells_apart keys_exact a b h in let f : is_same_key a b ≡ true = subst (λ x. is_same_key a x ≡ true) e (key_itself a) in cc
test_by a b false true h k = let e : a ≡ b = keys_are a b k in let f : eq_by_cmp key_cmp a b ≡ true = subst (λ x. eq_by_cmp key_cmp a x ≡ true) e (self_test a) in cc
test_by a b false false h k = refl

pub test_is : (a b : Key) → eq_by_cmp key_cmp a b ≡ is_same_key a b
test_is a b = test_by a b (eq_by_cmp key_cmp a b) (is_same_key a b) refl refl

find_go : (b : Bool) (e : Entry) (o : Option (List ℕ)) (p : Option Entry) → o ≡ option_map (λ (e : Entry). e.digest) p → cond b (Some e.digest) o ≡ option_map (λ (e : Entry). e.digest) (cond b (Some e) p)
find_go true e o p h = refl
find_go false e o p h = h

find_is : (es : List Entry) (k : Key) → fin.find key_cmp k (map row_of es) ≡ option_map (λ (e : Entry). e.digest) (find (λ e. is_same_key k (key_of e)) es)
find_is [] k = refl
find_is (e ∷ es) k = ap (λ b. cond b (Some e.digest) (fin.find key_cmp k (map row_of es))) (test_is k (key_of e)) ∙ find_go (is_same_key k (key_of e)) e _ (find (λ e. is_same_key k (key_of e)) es) (find_is es k)

pub get_is : (es : List Entry) (k : Key) → get (votes_in es) k ≡ option_map (λ (e : Entry). e.digest) (find (λ e. is_same_key k (key_of e)) es)
unfolding votes_in
get_is es k = get-from_entries keys_total (map row_of es) k ∙ find_is es k

pub pushed : (es : List Entry) (e : Entry) → get (votes_in es) (key_of e) ≡ None → votes_in (es ++ e ∷ []) ≡ insert (votes_in es) (key_of e) e.digest
unfolding votes_in
pushed es e h = ap (λ rows. from_entries {R = key_cmp} rows) (map-append row_of es (e ∷ [])) ∙ from_entries_push keys_total keys_exact (map row_of es) (key_of e) e.digest (sym (get-from_entries keys_total (map row_of es) (key_of e)) ∙ h)

nothing : (b : Bool) → ◌≡◌ {A = Option Entry} None (cond b None None)
nothing true = refl
nothing false = refl

filter_go : (f : Key → Bool) (e : Entry) (k : Key) (fs : List Entry) (o : Option Entry) (x y z : Bool) → is_same_key k (key_of e) ≡ x → f (key_of e) ≡ y → f k ≡ z → find (λ e. is_same_key k (key_of e)) fs ≡ cond z o None → find (λ e. is_same_key k (key_of e)) (cond y (e ∷ fs) fs) ≡ cond z (cond x (Some e) o) None
filter_go f e k fs o true true true h i l m = ap (λ b. cond b (Some e) (find (λ e. is_same_key k (key_of e)) fs)) h
filter_go f e k fs o true true false h i l m = let s = ap f (keys_are k (key_of e) h) in absurd (cc)
filter_go f e k fs o true false true h i l m = let s = ap f (keys_are k (key_of e) h) in absurd (cc)
filter_go f e k fs o true false false h i l m = m
filter_go f e k fs o false true z h i l m = ap (λ b. cond b (Some e) (find (λ e. is_same_key k (key_of e)) fs)) h ∙ m
filter_go f e k fs o false false z h i l m = m

filter_find : (f : Key → Bool) (es : List Entry) (k : Key) → find (λ e. is_same_key k (key_of e)) (filter (λ e. f (key_of e)) es) ≡ cond (f k) (find (λ e. is_same_key k (key_of e)) es) None
filter_find f [] k = nothing (f k)
filter_find f (e ∷ es) k = filter_go f e k (filter (λ e. f (key_of e)) es) (find (λ e. is_same_key k (key_of e)) es) (is_same_key k (key_of e)) (f (key_of e)) (f k) refl refl refl (filter_find f es k)

under : (b : Bool) (o : Option Entry) → option_map (λ (e : Entry). e.digest) (cond b o None) ≡ cond b (option_map (λ (e : Entry). e.digest) o) None
under true o = refl
under false o = refl

filtered : (f : Key → Bool) (es : List Entry) → votes_in (filter (λ e. f (key_of e)) es) ≡ retain_keys (votes_in es) f
filtered f es = same_map keys_total keys_exact _ _ (λ k.
    get_is (filter (λ e. f (key_of e)) es) k ∙ (ap (option_map (λ (e : Entry). e.digest)) (filter_find f es k) ∙ (under (f k) (find (λ e. is_same_key k (key_of e)) es)
    ∙ sym (get-retain_keys (votes_in es) f k (λ x e. ap f (sym (keys_exact k x e))) ∙ ap (λ o. cond (f k) o None) (get_is es k)))))

pub filtered_kind : (es : List Entry) → votes_in (filter (λ e. is_checkpoint e.kind) es) ≡ retain_keys (votes_in es) (λ k. is_checkpoint k.kind)
filtered_kind es = filtered (λ k. is_checkpoint k.kind) es

pub filtered_above : (es : List Entry) (low : ℕ) → votes_in (filter (λ e. nat_lt low e.place) es) ≡ retain_keys (votes_in es) (λ k. nat_lt low k.place)
filtered_above es low = filtered (λ k. nat_lt low k.place) es

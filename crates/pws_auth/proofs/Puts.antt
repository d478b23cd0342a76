-- A pair gets its key, and what a table then has for two replicas.
use Rattle.std.proofs.Common.{◌≡◌, ℕ, ◌&&◌, ◌||◌, not, List, Option, Some, None, true, false, Bool, cond, refl, sym, ◌∙◌, ap, subst, arith}
use Rattle.std.proofs.lemmas.Bool.Decides.{nat_tests}
use Rattle.std.proofs.lemmas.Map.Views.{tells_apart}
use Rattle.std.specs.Cmp.{tied_itself}
use Rattle.std.specs.FinMap.{insert, get, get-insert}
use Rattle.std.specs.Ordering.{eq_by_cmp, is_eq}
use Rattle.pws_base.specs.declared.shapes.ReplicaId.{ReplicaId}
use Rattle.pws_auth.specs.declared.pairs.Pair.{Pair}
use Rattle.pws_base.specs.Replicas.{is_same, is_before}
use Rattle.pws_auth.specs.Pairs.{pair_of, pair_cmp}
use Rattle.pws_auth.specs.Steps.{are_these}
use Rattle.pws_auth.specs.Keys.{Keys, key_for}
use Rattle.pws_auth.specs.Steps.{added_pair}
use Rattle.pws_auth.proofs.Maps.{pairs_total, pairs_exact}

pub both : (a b : Bool) → a && b ≡ true → (a ≡ true) × (b ≡ true)
both true true h = (refl, refl)
both true false h = absurd (cc)
both false b h = absurd (cc)

pub same_is : (a b : ReplicaId) → is_same a b ≡ true → a ≡ b
same_is a b h =
    let g : a.group ≡ b.group = grind (arith, nat_tests) in
    let i : a.index ≡ b.index = grind (arith, nat_tests) in
    λ k. record { group = g k; index = i k }

pub same_itself : (a : ReplicaId) → is_same a a ≡ true
same_itself a = grind (arith, nat_tests)

alike : (a b : ReplicaId) → a ≡ b → is_same a b ≡ true
alike a b e = subst (λ x. is_same a x ≡ true) e (same_itself a)

turned_go : (p q : Bool) (a b : ReplicaId) → is_before b a ≡ p → is_before a b ≡ q → ◌≡◌ {A = Pair} (cond p (record { lesser = b; greater = a }) (record { lesser = a; greater = b })) (cond q (record { lesser = a; greater = b }) (record { lesser = b; greater = a }))
turned_go true true a b h k = absurd (grind (arith, nat_tests))
turned_go true false a b h k = refl
turned_go false true a b h k = refl
turned_go false false a b h k =
    let e : a ≡ b = same_is a b (grind (arith, nat_tests)) in
    λ i. record { lesser = e i; greater = sym e i }

-- a pair is the same whichever of its replicas is named first
pub turned : (a b : ReplicaId) → pair_of a b ≡ pair_of b a
turned a b = turned_go (is_before b a) (is_before a b) a b refl refl

these_go : (s t : Bool) (x y a b : ReplicaId) → (is_same x a && is_same y b) ≡ s → (is_same x b && is_same y a) ≡ t → s || t ≡ true → pair_of a b ≡ pair_of x y
these_go true t x y a b h k o =
    let e = both (is_same x a) (is_same y b) h in
    sym (ap (λ z. pair_of z y) (same_is x a e.0) ∙ ap (pair_of a) (same_is y b e.1))
these_go false true x y a b h k o =
    let e = both (is_same x b) (is_same y a) k in
    turned a b ∙ sym (ap (λ z. pair_of z y) (same_is x b e.0) ∙ ap (pair_of b) (same_is y a e.1))
these_go false false x y a b h k o = absurd (cc)

pub pair_of_these : (x y a b : ReplicaId) → are_these x y a b ≡ true → pair_of a b ≡ pair_of x y
pair_of_these x y a b h = these_go (is_same x a && is_same y b) (is_same x b && is_same y a) x y a b refl refl h

straight : (x y a b : ReplicaId) → a ≡ x → b ≡ y → are_these x y a b ≡ true
straight x y a b e f = rw (alike x a (sym e), alike y b (sym f)) refl

crossed : (s : Bool) (x y a b : ReplicaId) → (is_same x a && is_same y b) ≡ s → a ≡ y → b ≡ x → s || (is_same x b && is_same y a) ≡ true
crossed true x y a b h e f = refl
crossed false x y a b h e f = rw (alike x b (sym f), alike y a (sym e)) refl

these_of_go : (p q : Bool) (x y a b : ReplicaId) → ◌≡◌ {A = Pair} (cond p (record { lesser = b; greater = a }) (record { lesser = a; greater = b })) (cond q (record { lesser = y; greater = x }) (record { lesser = x; greater = y })) → are_these x y a b ≡ true
these_of_go true true x y a b e = straight x y a b (ap (λ (r : Pair). r.greater) e) (ap (λ (r : Pair). r.lesser) e)
these_of_go true false x y a b e = crossed (is_same x a && is_same y b) x y a b refl (ap (λ (r : Pair). r.greater) e) (ap (λ (r : Pair). r.lesser) e)
these_of_go false true x y a b e = crossed (is_same x a && is_same y b) x y a b refl (ap (λ (r : Pair). r.lesser) e) (ap (λ (r : Pair). r.greater) e)
these_of_go false false x y a b e = straight x y a b (ap (λ (r : Pair). r.lesser) e) (ap (λ (r : Pair). r.greater) e)

these_of_pair : (x y a b : ReplicaId) → pair_of a b ≡ pair_of x y → are_these x y a b ≡ true
these_of_pair x y a b e = these_of_go (is_before b a) (is_before y x) x y a b e

test_go : (s t : Bool) (x y a b : ReplicaId) → eq_by_cmp pair_cmp (pair_of a b) (pair_of x y) ≡ s → are_these x y a b ≡ t → s ≡ t
test_go true true x y a b h k = refl
test_go true false x y a b h k = let e = these_of_pair x y a b (tells_apart pairs_exact (pair_of a b) (pair_of x y) h) in cc
test_go false true x y a b h k =
    let e = pair_of_these x y a b k in
    let f : eq_by_cmp pair_cmp (pair_of a b) (pair_of x y) ≡ true = subst (λ z. eq_by_cmp pair_cmp (pair_of a b) z ≡ true) e (ap is_eq (tied_itself pairs_total (pair_of a b))) in
    cc
test_go false false x y a b h k = refl

test_is : (x y a b : ReplicaId) → eq_by_cmp pair_cmp (pair_of a b) (pair_of x y) ≡ are_these x y a b
test_is x y a b = test_go (eq_by_cmp pair_cmp (pair_of a b) (pair_of x y)) (are_these x y a b) x y a b refl refl

chosen : {X : Type 0} (s w : Bool) (k o : Option X) → cond s None (cond w k o) ≡ cond (not s && w) k (cond s None o)
chosen true w k o = refl
chosen false true k o = refl
chosen false false k o = refl

-- the key of two replicas after two got one
pub put_is : (old new : Keys) (x y : ReplicaId) (p : Pair) (key : List ℕ) → p ≡ pair_of x y → new.keys ≡ insert old.keys p key → (a b : ReplicaId) → key_for new a b ≡ added_pair x y key a b (key_for old a b)
unfolding key_for
put_is old new x y p key e h a b =
    ap (λ m. cond (is_same a b) None (get m (pair_of a b))) (h ∙ ap (λ q. insert old.keys q key) e)
    ∙ ap (λ o. cond (is_same a b) None o) (get-insert pairs_total old.keys (pair_of x y) key (pair_of a b) ∙ ap (λ t. cond t (Some key) (get old.keys (pair_of a b))) (test_is x y a b))
    ∙ chosen (is_same a b) (are_these x y a b) (Some key) (get old.keys (pair_of a b))

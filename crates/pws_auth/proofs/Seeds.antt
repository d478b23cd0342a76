-- Tables from a seed: one more replica, and who can seal.
use Rattle.std.proofs.Common.{◌≡◌, ℕ, zero, suc, ◌+◌, ◌<◌, ◌≤◌, ◌&&◌, ◌||◌, not, List, [], length, take, get_or, Option, Some, None, true, false, Bool, is_some, slice_get, nat_lt, cond, refl, sym, ◌∙◌, ap, arith}
use Rattle.std.specs.FinMap.{get, get-empty, empty}
use Rattle.std.specs.List.{list_all, range_with_len}
use Rattle.std.specs.Option.{option_map_or}
use Rattle.std.proofs.lemmas.Bool.Decides.{nat_tests}
use Rattle.std.proofs.lemmas.List.Folds.{list_any_more}
use Rattle.std.proofs.Math.Seq.{take-length}
use Rattle.pws_base.specs.declared.shapes.ReplicaId.{ReplicaId}
use Rattle.pws_base.specs.Shapes.{has_replica, size_of_group}
use Rattle.pws_base.specs.Replicas.{is_same, is_among}
use Rattle.pws_auth.specs.Pairs.{pair_of, pair_cmp}
use Rattle.pws_auth.specs.Steps.{are_these}
use Rattle.pws_auth.specs.Tags.{seed_key}
use Rattle.pws_auth.specs.Keys.{Keys, key_for, key_of_seed, has_key, has_keys, SealsForAll}
use Rattle.pws_auth.specs.Steps.{added_pair, added_by_seed}
use Rattle.pws_auth.proofs.Puts.{pair_of_these}

-- the key of two of these replicas by a seed
abbrev pub key_among : List ReplicaId → List ℕ → ReplicaId → ReplicaId → Option (List ℕ)
key_among members seed a b = cond (not (is_same a b) && is_among members a && is_among members b) (Some (seed_key seed (pair_of a b))) None

nothing : {X : Type 0} (s : Bool) → ◌≡◌ {A = Option X} (cond s None None) None
nothing true = refl
nothing false = refl

pub key_of_empty : (t : Keys) → t.keys ≡ empty → (a b : ReplicaId) → key_for t a b ≡ None
unfolding key_for
key_of_empty t h a b =
    ap (λ m. cond (is_same a b) None (get m (pair_of a b))) h ∙ (ap (cond (is_same a b) None) (get-empty pair_cmp (pair_of a b)) ∙ nothing (is_same a b))

none_go : (s : Bool) (k : Option (List ℕ)) → ◌≡◌ {A = Option (List ℕ)} (cond (not s && false && false) k None) None
none_go true k = refl
none_go false k = refl

-- no replicas share no key
pub among_none : (seed : List ℕ) (a b : ReplicaId) → key_among [] seed a b ≡ None
among_none seed a b = none_go (is_same a b) _

seeded_go : (w : Bool) (seed : List ℕ) (x y a b : ReplicaId) (o : Option (List ℕ)) → are_these x y a b ≡ w → cond w (Some (seed_key seed (pair_of x y))) o ≡ cond w (Some (seed_key seed (pair_of a b))) o
seeded_go true seed x y a b o h = ap (λ p. Some (seed_key seed p)) (sym (pair_of_these x y a b h))
seeded_go false seed x y a b o h = refl

under : {X : Type 0} (s w : Bool) (k l o : Option X) → cond w k o ≡ cond w l o → cond (not s && w) k o ≡ cond (not s && w) l o
under true w k l o h = refl
under false w k l o h = h

-- two replicas got the key of a seed
seeded : (seed : List ℕ) (x y a b : ReplicaId) (o : Option (List ℕ)) → added_pair x y (seed_key seed (pair_of x y)) a b o ≡ cond (not (is_same a b) && are_these x y a b) (Some (seed_key seed (pair_of a b))) o
seeded seed x y a b o = under (is_same a b) (are_these x y a b) _ _ o (seeded_go (are_these x y a b) seed x y a b o refl)

either : {X : Type 0} (p q : Bool) (k o : X) → cond q k (cond p k o) ≡ cond (p || q) k o
either true true k o = refl
either true false k o = refl
either false q k o = refl

parted : (s ma mb ib ob ia oa : Bool) → (not s && ((ma && ib) || (mb && ia))) || (not s && ((ma && ob) || (mb && oa))) ≡ not s && ((ma && (ib || ob)) || (mb && (ia || oa)))
parted true ma mb ib ob ia oa = refl
parted false false false ib ob ia oa = refl
parted false false true ib ob ia oa = refl
parted false true false true ob ia oa = refl
parted false true false false true ia oa = refl
parted false true false false false ia oa = refl
parted false true true true ob ia oa = refl
parted false true true false true true oa = refl
parted false true true false true false oa = refl
parted false true true false false ia oa = refl

-- one more of the others
pub added_more : (seed : List ℕ) (x : ReplicaId) (others : List ReplicaId) (i : ℕ) (d a b : ReplicaId) (o : Option (List ℕ)) → i < length others
    → added_pair x (get_or others i d) (seed_key seed (pair_of x (get_or others i d))) a b (added_by_seed seed x (take i others) a b o) ≡ added_by_seed seed x (take (i + 1) others) a b o
added_more seed x others i d a b o h =
    let k = Some (seed_key seed (pair_of a b)) in
    let y = get_or others i d in
    let s = is_same a b in
    let before = not s && ((is_same x a && is_among (take i others) b) || (is_same x b && is_among (take i others) a)) in
    seeded seed x y a b (added_by_seed seed x (take i others) a b o)
    ∙ (either before (not s && are_these x y a b) k o
    ∙ ap (λ t. cond t k o) (parted s (is_same x a) (is_same x b) (is_among (take i others) b) (is_same y b) (is_among (take i others) a) (is_same y a)
    ∙ ap (λ t. not s && ((is_same x a && t) || (is_same x b && (is_among (take i others) a || is_same y a)))) (sym (list_any_more (λ z. is_same z b) others i d h))
    ∙ ap (λ t. not s && ((is_same x a && is_among (take (i + 1) others) b) || (is_same x b && t))) (sym (list_any_more (λ z. is_same z a) others i d h))))

whole : {X : Type 0} (s ma mb A B : Bool) (k o : X) → (ma ≡ true → mb ≡ true → s ≡ true) → cond (not s && ((ma && B) || (mb && A))) k (cond (not s && A && B) k o) ≡ cond (not s && (A || ma) && (B || mb)) k o
whole true ma mb A B k o h = refl
whole false true true A B k o h = let e : false ≡ true = h refl refl in absurd (cc)
whole false true false true true k o h = refl
whole false true false true false k o h = refl
whole false true false false true k o h = refl
whole false true false false false k o h = refl
whole false false true true true k o h = refl
whole false false true true false k o h = refl
whole false false true false B k o h = refl
whole false false false true true k o h = refl
whole false false false true false k o h = refl
whole false false false false B k o h = refl

both_one : (x a b : ReplicaId) → is_same x a ≡ true → is_same x b ≡ true → is_same a b ≡ true
both_one x a b h k = grind (arith, nat_tests)

-- one more of all replicas
pub among_more : (seed : List ℕ) (members : List ReplicaId) (i : ℕ) (d a b : ReplicaId) → i < length members
    → added_by_seed seed (get_or members i d) (take i members) a b (key_among (take i members) seed a b) ≡ key_among (take (i + 1) members) seed a b
among_more seed members i d a b h =
    let k = Some (seed_key seed (pair_of a b)) in
    let x = get_or members i d in
    whole (is_same a b) (is_same x a) (is_same x b) (is_among (take i members) a) (is_among (take i members) b) k None (both_one x a b)
    ∙ (ap (λ t. cond (not (is_same a b) && t && (is_among (take i members) b || is_same x b)) k None) (sym (list_any_more (λ z. is_same z a) members i d h))
    ∙ ap (λ t. cond (not (is_same a b) && is_among (take (i + 1) members) a && t) k None) (sym (list_any_more (λ z. is_same z b) members i d h)))

pub among_layout : (seed : List ℕ) (members : List ReplicaId) (layout : List ℕ) → ((r : ReplicaId) → is_among members r ≡ has_replica layout r) → (a b : ReplicaId) → key_among members seed a b ≡ key_of_seed layout seed a b
among_layout seed members layout h a b =
    let k = Some (seed_key seed (pair_of a b)) in
    ap (λ t. cond (not (is_same a b) && t && is_among members b) k None) (h a)
    ∙ ap (λ t. cond (not (is_same a b) && has_replica layout a && t) k None) (h b)

all_go : (p : ℕ → Bool) (a n : ℕ) → ((i : ℕ) → a ≤ i → i < a + n → p i ≡ true) → list_all p (range_with_len a n) ≡ true
all_go p a zero h = refl
all_go p a (suc n) h =
    let first : p a ≡ true = h a (omega arith) (omega arith) in
    rw first (all_go p (a + 1) n (λ i l u. h i (omega arith) (omega arith)))

shape_is : (layout : List ℕ) (group index : ℕ) (f : ℕ) → slice_get layout group ≡ Some f → index < size_of_group f → has_replica layout (record { group = group; index = index }) ≡ true
shape_is layout group index f e h = ap (λ o. option_map_or (λ f. nat_lt index (size_of_group f)) o false) e ∙ grind (arith, nat_tests)

seals_go : (t : Keys) (s : ReplicaId) (group : ℕ) (o : Option ℕ) → slice_get t.layout group ≡ o → is_some o ≡ true → ((r : ReplicaId) → has_replica t.layout r ≡ true → has_key t s r ≡ true) → option_map_or (λ f. has_keys t s group (size_of_group f)) o false ≡ true
seals_go t s group None e h k = absurd (cc)
seals_go t s group (Some f) e h k = all_go (λ i. has_key t s (record { group = group; index = i })) 0 (size_of_group f) (λ i l u. k (record { group = group; index = i }) (shape_is t.layout group i f e (omega arith)))

-- who has the key with each replica seals for all groups
pub seals_for_all : (t : Keys) (s : ReplicaId) → ((r : ReplicaId) → has_replica t.layout r ≡ true → has_key t s r ≡ true) → SealsForAll t s
seals_for_all t s k group h = seals_go t s group (slice_get t.layout group) refl h k

shared : (s A B : Bool) (k : List ℕ) → A ≡ true → B ≡ true → s || is_some (cond (not s && A && B) (Some k) None) ≡ true
shared true A B k h i = refl
shared false true true k h i = refl
shared false true false k h i = absurd (cc)
shared false false B k h i = absurd (cc)

-- each two replicas share a key that a seed made
pub seeds_share : (t : Keys) (layout seed : List ℕ) → t.layout ≡ layout → ((a b : ReplicaId) → key_for t a b ≡ key_of_seed layout seed a b) → (s : ReplicaId) → has_replica layout s ≡ true → SealsForAll t s
seeds_share t layout seed e keys s h =
    seals_for_all t s (λ r k. ap (λ o. is_same s r || is_some o) (keys s r) ∙ shared (is_same s r) (has_replica layout s) (has_replica layout r) (seed_key seed (pair_of s r)) h (ap (λ l. has_replica l r) (sym e) ∙ k))

pub all_taken : {X : Type 0} (i : ℕ) (xs : List X) → i ≤ length xs → length xs ≤ i → take i xs ≡ xs
all_taken i xs h k =
    let e : i ≡ length xs = omega arith in
    ap (λ n. take n xs) e ∙ take-length xs

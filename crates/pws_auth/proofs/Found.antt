-- What a table has for two replicas.
use Rattle.std.proofs.Common.{◌≡◌, ℕ, ◌+◌, ◌<◌, ◌≤◌, List, [], ◌∷◌, ◌++◌, map, length, get_or, slice_get, Option, Some, None, true, false, Bool, IsTrue, cond, refl, sym, ◌∙◌, ap, arith}
use Rattle.std.specs.FinMap.{get}
use Rattle.std.specs.List.{list_all, range_with_len}
use Rattle.std.specs.Option.{option_map_or}
use Rattle.std.proofs.lemmas.List.Folds.{list_all_at}
use Rattle.std.proofs.lemmas.List.FromFn.{length-range_with_len, length-map-range_with_len, get_or-range_with_len, map-range_with_len_more}
use Rattle.pws_base.specs.declared.shapes.ReplicaId.{ReplicaId}
use Rattle.pws_base.specs.Shapes.{size_of_group}
use Rattle.pws_base.specs.Replicas.{is_same}
use Rattle.pws_auth.specs.Pairs.{pair_of}
use Rattle.pws_auth.specs.Keys.{Keys, key_for, has_key, has_keys, can_seal}

pub none_with_itself : (t : Keys) (a b : ReplicaId) → is_same a b ≡ true → ◌≡◌ {A = Option (List ℕ)} None (key_for t a b)
unfolding key_for
none_with_itself t a b h = ap (λ s. cond s None (get t.keys (pair_of a b))) (sym h)

pub key_of_pair : (t : Keys) (a b : ReplicaId) → is_same a b ≡ false → get t.keys (pair_of a b) ≡ key_for t a b
unfolding key_for
key_of_pair t a b h = ap (λ s. cond s None (get t.keys (pair_of a b))) (sym h)

all_go : {X : Type 0} (p : X → Bool) (xs : List X) (i : ℕ) (d : X) (b : Bool) → p (get_or xs i d) ≡ b → i < length xs → list_all p xs ≡ true → p (get_or xs i d) ≡ true
all_go p xs i d true e h a = e
all_go p xs i d false e h a = let n = list_all_at p xs i d h e in absurd (cc)

-- what each item passes, the item at an index passes
pub all_at : {X : Type 0} (p : X → Bool) (xs : List X) (i : ℕ) (d : X) → i < length xs → list_all p xs ≡ true → p (get_or xs i d) ≡ true
all_at p xs i d h a = all_go p xs i d (p (get_or xs i d)) refl h a

pub key_at : (t : Keys) (s : ReplicaId) (group n i : ℕ) → i < n → has_keys t s group n ≡ true → has_key t s (record { group = group; index = i }) ≡ true
key_at t s group n i h a =
    let e : get_or (range_with_len 0 n) i 0 ≡ i = get_or-range_with_len 0 n i 0 h ∙ omega arith in
    ap (λ k. has_key t s (record { group = group; index = k })) (sym e) ∙ all_at (λ k. has_key t s (record { group = group; index = k })) (range_with_len 0 n) i 0 (rw length-range_with_len h) a

-- a sender that can seal for a group has the key with each of its replicas
pub can_seal_at : (t : Keys) (s : ReplicaId) (group f i : ℕ) → IsTrue (can_seal t s group) → slice_get t.layout group ≡ Some f → i < size_of_group f → IsTrue (has_key t s (record { group = group; index = i }))
can_seal_at t s group f i c e h =
    key_at t s group (size_of_group f) i h (ap (λ o. option_map_or (λ f. has_keys t s group (size_of_group f)) o false) (sym e) ∙ c)

-- what was made for the indices below i, and one more item
pub rising_more : {X : Type 0} (f : ℕ → X) (i : ℕ) (old new : List X) (item : X) → old ≡ map f (range_with_len 0 i) → item ≡ f i → new ≡ old ++ item ∷ [] → new ≡ map f (range_with_len 0 (i + 1))
rising_more f i old new item h e n =
    n ∙ ap (λ xs. xs ++ item ∷ []) h ∙ ap (λ x. map f (range_with_len 0 i) ++ x ∷ []) e ∙ sym (map-range_with_len_more f 0 i i (omega arith))

-- what was made for the indices below i, of at most ten, is at most ten
pub few_made : {X : Type 0} (f : ℕ → X) (i n : ℕ) (items : List X) → items ≡ map f (range_with_len 0 i) → i ≤ n → n ≤ 10 → length items ≤ 10
few_made f i n items e h k =
    let l : length items ≡ i = ap length e ∙ length-map-range_with_len f 0 i in
    omega arith

-- The list of namespaces behind a set in order of insertion.
use Rattle.std.proofs.Common.{◌≡◌, ℕ, suc, ◌+◌, Bool, true, false, not, ◌&&◌, ◌||◌, cond, List, [], ◌∷◌, ◌++◌, map, length, refl, ap, sym, Bor, position}
use Rattle.std.specs.List.{list_any, position_or_len}
use Rattle.std.specs.Str.{bytes_eq}
use Rattle.indexmap.specs.IndexSet.{insert_key}
use Rattle.pws_mark.specs.Canonical.{with_space, needs_prefix}

abbrev pub texts_of : List (Bor (List ℕ)) → List (List ℕ)
texts_of keys = map (λ b. b.now) keys

abbrev pub same_text : Bor (List ℕ) → Bor (List ℕ) → Bool
same_text a b = bytes_eq a.now b.now

any_text : (s : List ℕ) (keys : List (Bor (List ℕ))) → list_any (bytes_eq s) (texts_of keys) ≡ list_any (λ b. bytes_eq s b.now) keys
any_text s [] = refl
any_text s (k ∷ keys) = ap (λ z. bytes_eq s k.now || z) (any_text s keys)

texts_of_more : (keys : List (Bor (List ℕ))) (k : Bor (List ℕ)) → texts_of (keys ++ k ∷ []) ≡ texts_of keys ++ k.now ∷ []
texts_of_more [] k = refl
texts_of_more (j ∷ keys) k = ap (λ z. j.now ∷ z) (texts_of_more keys k)

pub keys_noted : (keys : List (Bor (List ℕ))) (k : Bor (List ℕ)) → needs_prefix k.now ≡ true → texts_of (insert_key same_text keys k) ≡ with_space (texts_of keys) k.now
keys_noted keys k need =
    by (list_any (λ b. bytes_eq k.now b.now) keys) (list_any (bytes_eq k.now) (texts_of keys)) (needs_prefix k.now) (sym (any_text k.now keys)) need
  where
    by : (b c n : Bool) → b ≡ c → n ≡ true → texts_of (cond b keys (keys ++ k ∷ [])) ≡ cond (n && not c) (texts_of keys ++ k.now ∷ []) (texts_of keys)
    by true true true e h = refl
    by true true false e h = cc
    by true false n e h = cc
    by false true n e h = cc
    by false false true e h = texts_of_more keys k
    by false false false e h = cc

place_in : (s : List ℕ) (keys : List (Bor (List ℕ))) → position_or_len (bytes_eq s) (texts_of keys) ≡ position_or_len (λ b. bytes_eq s b.now) keys
place_in s [] = refl
place_in s (k ∷ keys) = ap (λ z. cond (not (bytes_eq s k.now)) (1 + z) 0) (place_in s keys)

texts_length : (keys : List (Bor (List ℕ))) → length (texts_of keys) ≡ length keys
texts_length [] = refl
texts_length (k ∷ keys) = ap suc (texts_length keys)

pub place_of : (s : List ℕ) (keys : List (Bor (List ℕ))) → position (λ b. bytes_eq s b.now) keys ≡ position (bytes_eq s) (texts_of keys)
place_of s keys = rw (place_in s keys, texts_length keys)

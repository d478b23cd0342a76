-- What the prefixes of a canonical text are bound to.
use Rattle.std.proofs.Common.{◌≡◌, ℕ, suc, ◌+◌, ◌<◌, ◌≤◌, ◌^◌, Bool, true, false, not, ◌&&◌, ◌||◌, cond, List, [], ◌∷◌, ◌++◌, length, refl, ap, sym, ◌∙◌, arith, Some, None, Option, option_map, find, position, unwrap_or, is_none}
use Rattle.std.specs.List.{list_any, position_or_len}
use Rattle.std.specs.Fmt.{decimal}
use Rattle.std.specs.Str.{bytes_eq}
use Rattle.std.specs.Cmp.Lexicographic.{bytes_decides}
use Rattle.std.proofs.lemmas.Bool.{false_from_ne_true, lt-ltb}
use Rattle.std.proofs.lemmas.Fmt.{decimal_injective}
use Rattle.pws_mark.specs.Canonical.{xml_space, xml_word, needs_prefix}
use Rattle.pws_mark.specs.Bindings.{Bindings, outermost, space_at, is_bound}
use Rattle.pws_mark.proofs.PrefixTexts.{prefix_chars}

unfoldable pub bindings_from : ℕ → List (List ℕ) → Bindings
bindings_from i [] = []
bindings_from i (s ∷ ss) = (110 ∷ decimal i, Some s) ∷ bindings_from (i + 1) ss

found_here : (i k : ℕ) (x : List ℕ) (rest : Bindings) → i ≡ k → space_at ((110 ∷ decimal i, Some x) ∷ rest) (110 ∷ decimal k) ≡ Some (Some x)
found_here i k x rest e =
    ap (λ z. option_map (λ b. b.1) (cond z (Some (110 ∷ decimal i, Some x)) (find (λ b. bytes_eq b.0 (110 ∷ decimal k)) rest))) ((bytes_decides (decimal i) (decimal k)).1 (ap decimal e))

found_past : (i k : ℕ) (x : List ℕ) (rest : Bindings) → i < 2 ^ 64 → k < 2 ^ 64 → (i ≡ k → ⊥) → space_at ((110 ∷ decimal i, Some x) ∷ rest) (110 ∷ decimal k) ≡ space_at rest (110 ∷ decimal k)
found_past i k x rest low low' ne =
    ap (λ z. option_map (λ b. b.1) (cond z (Some (110 ∷ decimal i, Some x)) (find (λ b. bytes_eq b.0 (110 ∷ decimal k)) rest)))
    (false_from_ne_true (bytes_eq (decimal i) (decimal k)) (λ same. ne (decimal_injective i k low low' ((bytes_decides (decimal i) (decimal k)).0 same))))

found_in : (i : ℕ) (spaces : List (List ℕ)) (s : List ℕ) (rest : Bindings) → i + length spaces < 2 ^ 64 → list_any (bytes_eq s) spaces ≡ true → space_at (bindings_from i spaces ++ rest) (110 ∷ decimal (i + position_or_len (bytes_eq s) spaces)) ≡ Some (Some s)
unfolding bindings_from
found_in i [] s rest few h = cc
found_in i (x ∷ spaces) s rest few h =
    by (bytes_eq s x) (λ e. (bytes_decides s x).0 e) (λ g. found_in (i + 1) spaces s rest (omega arith) g) (within spaces) h
  where
    within : (xs : List (List ℕ)) → position_or_len (bytes_eq s) xs ≤ length xs
    within [] = omega arith
    within (y ∷ ys) = step (bytes_eq s y) (within ys)
      where
        step : (b : Bool) → position_or_len (bytes_eq s) ys ≤ length ys → cond (not b) (1 + position_or_len (bytes_eq s) ys) 0 ≤ suc (length ys)
        step true h = omega arith
        step false h = omega arith

    by : (b : Bool) → (b ≡ true → s ≡ x) → (list_any (bytes_eq s) spaces ≡ true → space_at (bindings_from (i + 1) spaces ++ rest) (110 ∷ decimal (i + 1 + position_or_len (bytes_eq s) spaces)) ≡ Some (Some s)) → position_or_len (bytes_eq s) spaces ≤ length spaces → (b || list_any (bytes_eq s) spaces) ≡ true → space_at ((110 ∷ decimal i, Some x) ∷ (bindings_from (i + 1) spaces ++ rest)) (110 ∷ decimal (i + cond (not b) (1 + position_or_len (bytes_eq s) spaces) 0)) ≡ Some (Some s)
    by true same more low g = found_here i (i + 0) x (bindings_from (i + 1) spaces ++ rest) (omega arith) ∙ ap (λ z. Some (Some z)) (sym (same refl))
    by false same more low g =
        let place : i + (1 + position_or_len (bytes_eq s) spaces) ≡ i + 1 + position_or_len (bytes_eq s) spaces = omega arith in
        found_past i (i + (1 + position_or_len (bytes_eq s) spaces)) x (bindings_from (i + 1) spaces ++ rest) (omega arith) (omega arith) (λ e. absurd (omega arith))
        ∙ (ap (λ z. space_at (bindings_from (i + 1) spaces ++ rest) (110 ∷ decimal z)) place ∙ more g)

place_of : (s : List ℕ) (spaces : List (List ℕ)) → list_any (bytes_eq s) spaces ≡ true → position_or_len (bytes_eq s) spaces < length spaces
place_of s [] h = cc
place_of s (x ∷ spaces) h = by (bytes_eq s x) (λ g. place_of s spaces g) h
  where
    by : (b : Bool) → (list_any (bytes_eq s) spaces ≡ true → position_or_len (bytes_eq s) spaces < length spaces) → (b || list_any (bytes_eq s) spaces) ≡ true → cond (not b) (1 + position_or_len (bytes_eq s) spaces) 0 < suc (length spaces)
    by true more g = omega arith
    by false more g = omega (arith, more g)

found_by_text : (spaces : List (List ℕ)) (s : List ℕ) → length spaces < 2 ^ 64 → list_any (bytes_eq s) spaces ≡ true → space_at (bindings_from 0 spaces ++ outermost) (110 ∷ decimal (unwrap_or (position (bytes_eq s) spaces) 0)) ≡ Some (Some s)
found_by_text spaces s few h =
    let zero_on : 0 + position_or_len (bytes_eq s) spaces ≡ position_or_len (bytes_eq s) spaces = omega arith in
    ap (λ z. space_at (bindings_from 0 spaces ++ outermost) (110 ∷ decimal (unwrap_or (cond z (Some (position_or_len (bytes_eq s) spaces)) None) 0))) (lt-ltb (position_or_len (bytes_eq s) spaces) (length spaces) (place_of s spaces h))
    ∙ (ap (λ z. space_at (bindings_from 0 spaces ++ outermost) (110 ∷ decimal z)) (sym zero_on)
    ∙ found_in 0 spaces s outermost (omega arith) h)

none_bound : (i : ℕ) (spaces : List (List ℕ)) → space_at (bindings_from i spaces ++ outermost) [] ≡ None
unfolding bindings_from outermost xml_word
none_bound i [] = refl
none_bound i (s ∷ spaces) = none_bound (i + 1) spaces

xml_bound : (i : ℕ) (spaces : List (List ℕ)) → space_at (bindings_from i spaces ++ outermost) xml_word ≡ Some (Some xml_space)
unfolding bindings_from outermost xml_word
xml_bound i [] = refl
xml_bound i (s ∷ spaces) = xml_bound (i + 1) spaces

-- a namespace that needs a prefix has one
abbrev pub Covered : List (List ℕ) → List ℕ → Type 0
Covered spaces s = needs_prefix s ≡ true → list_any (bytes_eq s) spaces ≡ true

abbrev pub bound_space : Bindings → List ℕ → Option (List ℕ)
bound_space m p = unwrap_or (space_at m p) (cond (bytes_eq p []) (Some []) None)

-- these bindings give each namespace back
pub record Binds (m : Bindings) (spaces : List (List ℕ)) : Type 0 where
  pub none : space_at m [] ≡ None
  pub found : (s : List ℕ) → Covered spaces s → bound_space m (prefix_chars spaces s) ≡ Some s
  pub bound : (s : List ℕ) → Covered spaces s → is_bound m (prefix_chars spaces s) ≡ true

-- the bindings that the root of a canonical text makes
abbrev pub root_bindings : List (List ℕ) → Bindings
root_bindings spaces = bindings_from 0 spaces ++ outermost

pub root_binds : (spaces : List (List ℕ)) → length spaces < 2 ^ 64 → Binds (root_bindings spaces) spaces
unfolding prefix_chars xml_word
root_binds spaces few =
    record {
      none = none_bound 0 spaces;
      found = λ s cover. by s (bytes_eq s []) (bytes_eq s xml_space) ((bytes_decides s []).0) ((bytes_decides s xml_space).0) cover;
      bound = λ s cover. by_bound s (bytes_eq s []) (bytes_eq s xml_space) cover;
    }
  where
    by : (s : List ℕ) (a b : Bool) → (a ≡ true → s ≡ []) → (b ≡ true → s ≡ xml_space) → ((not a && not b) ≡ true → list_any (bytes_eq s) spaces ≡ true) → bound_space (root_bindings spaces) (cond a [] (cond b xml_word (110 ∷ decimal (unwrap_or (position (bytes_eq s) spaces) 0)))) ≡ Some s
    by s true b h g cover = ap (λ z. unwrap_or z (Some [])) (none_bound 0 spaces) ∙ ap (λ z. Some z) (sym (h refl))
    by s false true h g cover = ap (λ z. unwrap_or z (cond (bytes_eq xml_word []) (Some []) None)) (xml_bound 0 spaces) ∙ ap (λ z. Some z) (sym (g refl))
    by s false false h g cover = ap (λ z. unwrap_or z None) (found_by_text spaces s few (cover refl))

    by_bound : (s : List ℕ) (a b : Bool) → ((not a && not b) ≡ true → list_any (bytes_eq s) spaces ≡ true) → is_bound (root_bindings spaces) (cond a [] (cond b xml_word (110 ∷ decimal (unwrap_or (position (bytes_eq s) spaces) 0)))) ≡ true
    by_bound s true b cover = refl
    by_bound s false true cover = ap (λ z. not (is_none z)) (xml_bound 0 spaces)
    by_bound s false false cover = ap (λ z. not (is_none z)) (found_by_text spaces s few (cover refl))

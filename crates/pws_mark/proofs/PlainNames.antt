-- Names as they are written: their prefix, their local part, and what they have no character of.
use Rattle.std.proofs.Common.{◌≡◌, ℕ, zero, suc, ◌+◌, ◌<◌, ◌^◌, ◌%◌, Bool, true, false, not, ◌&&◌, ◌||◌, List, [], ◌∷◌, ◌++◌, length, take, drop, refl, ap, sym, ◌∙◌, arith, add-one, one-add, cond}
use Rattle.std.specs.Prelude.{◌==◌}
use Rattle.std.specs.List.{list_any, list_all}
use Rattle.std.specs.Fmt.{decimal}
use Rattle.std.specs.Str.{bytes_eq}
use Rattle.std.proofs.lemmas.Bool.{ne_eqb, and_parts, and_from, or_left, both_ways, or_from, or_parts, or_right}
use Rattle.std.proofs.lemmas.List.Folds.{list_all-append}
use Rattle.std.proofs.lemmas.Fmt.{decimal_by_steps}
use Rattle.pws_tree.specs.Characters.{is_name_start, is_name_char, are_a_name, name_start_ranges, name_more_ranges}
use Rattle.pws_mark.specs.Bindings.{has_colon, before_colon, written_prefix, written_local}
use Rattle.pws_mark.specs.Tokens.{is_name, goes_on}

-- a character that passes a test isn't one that doesn't
pub apart : (p : ℕ → Bool) (k c : ℕ) → p k ≡ false → p c ≡ true → (c == k) ≡ false
apart p k c no_k yes_c = ne_eqb c k (λ e. both_ways (p k) no_k (ap p (sym e) ∙ yes_c))

pub none_is : (p : ℕ → Bool) (k : ℕ) (cs : List ℕ) → p k ≡ false → list_all p cs ≡ true → list_any (λ c. c == k) cs ≡ false
none_is p k [] no_k all = refl
none_is p k (c ∷ cs) no_k all =
    let parts = and_parts (p c) (list_all p cs) all in
    or_from (c == k) (list_any (λ d. d == k) cs) (apart p k c no_k parts.0) (none_is p k cs no_k parts.1)

no_colon_char : is_name_char 58 ≡ false
unfolding name_start_ranges name_more_ranges
no_colon_char = refl

-- a name has no colon, no white space, and none of the characters of tags
pub no_colon : (cs : List ℕ) → list_all is_name_char cs ≡ true → has_colon cs ≡ false
no_colon cs all = none_is is_name_char 58 cs no_colon_char all

pub name_chars_all : (cs : List ℕ) → are_a_name cs ≡ true → list_all is_name_char cs ≡ true
name_chars_all [] h = refl
name_chars_all (c ∷ cs) h =
    let parts = and_parts (is_name_start c) (list_all is_name_char cs) h in
    and_from (is_name_char c) (list_all is_name_char cs) (or_left (is_name_start c) _ parts.0) parts.1

-- digits go on a name
digit_char : (d : ℕ) → d < 10 → is_name_char (48 + d) ≡ true
unfolding name_start_ranges name_more_ranges
digit_char zero h = refl
digit_char (suc zero) h = refl
digit_char (suc (suc zero)) h = refl
digit_char (suc (suc (suc zero))) h = refl
digit_char (suc (suc (suc (suc zero)))) h = refl
digit_char (suc (suc (suc (suc (suc zero))))) h = refl
digit_char (suc (suc (suc (suc (suc (suc zero)))))) h = refl
digit_char (suc (suc (suc (suc (suc (suc (suc zero))))))) h = refl
digit_char (suc (suc (suc (suc (suc (suc (suc (suc zero)))))))) h = refl
digit_char (suc (suc (suc (suc (suc (suc (suc (suc (suc zero))))))))) h = refl
digit_char (suc (suc (suc (suc (suc (suc (suc (suc (suc (suc d)))))))))) h = absurd (omega arith)

pub decimal_chars : (n : ℕ) → n < 2 ^ 64 → list_all is_name_char (decimal n) ≡ true
decimal_chars n low =
    decimal_by_steps (λ m ds. list_all is_name_char ds ≡ true)
    (λ m small. and_from (is_name_char (48 + m)) true (digit_char m small) refl)
    (λ m ds large all.
    list_all-append is_name_char ds ((48 + m % 10) ∷ []) ∙ and_from (list_all is_name_char ds) (is_name_char (48 + m % 10) && true) all (and_from (is_name_char (48 + m % 10)) true (digit_char (m % 10) (omega arith)) refl))
    n low

-- a prefix, a colon and a local part; without a prefix the local part alone
abbrev pub qualified : List ℕ → List ℕ → List ℕ
qualified [] local = local
qualified (c ∷ cs) local = (c ∷ cs) ++ 58 ∷ local

take_step : (b : Bool) (n c : ℕ) (xs ys : List ℕ) → b ≡ false → take n xs ≡ ys → take (cond (not b) (1 + n) 0) (c ∷ xs) ≡ c ∷ ys
take_step true n c xs ys e h = cc
take_step false n c xs ys e h = rw one-add (ap (λ z. c ∷ z) h)

take_before : (p rest : List ℕ) → has_colon p ≡ false → before_colon (p ++ 58 ∷ rest) ≡ p
take_before [] rest h = refl
take_before (c ∷ cs) rest h =
    let parts = or_parts (c == 58) (has_colon cs) h in
    take_step (c == 58) _ c (cs ++ 58 ∷ rest) cs parts.0 (take_before cs rest parts.1)

colon_in : (p rest : List ℕ) → has_colon (p ++ 58 ∷ rest) ≡ true
colon_in [] rest = refl
colon_in (c ∷ cs) rest = or_right (c == 58) (has_colon (cs ++ 58 ∷ rest)) (colon_in cs rest)

drop_past : (p rest : List ℕ) → drop (length p + 1) (p ++ 58 ∷ rest) ≡ rest
drop_past [] rest = refl
drop_past (c ∷ cs) rest = rw add-one (rw add-one at (drop_past cs rest))

pub colon_of : (c : ℕ) (cs local : List ℕ) → has_colon (qualified (c ∷ cs) local) ≡ true
colon_of c cs local = colon_in (c ∷ cs) local

pub prefix_of : (p local : List ℕ) → has_colon p ≡ false → has_colon local ≡ false → written_prefix (qualified p local) ≡ p
prefix_of [] local h g = ap (λ z. cond z (before_colon local) []) g
prefix_of (c ∷ cs) local h g = ap (λ z. cond z (before_colon ((c ∷ cs) ++ 58 ∷ local)) []) (colon_in (c ∷ cs) local) ∙ take_before (c ∷ cs) local h

pub local_of : (p local : List ℕ) → has_colon p ≡ false → has_colon local ≡ false → written_local (qualified p local) ≡ local
local_of [] local h g = ap (λ z. cond z (drop (length (before_colon local) + 1) local) local) g
local_of (c ∷ cs) local h g =
    let name : List ℕ = (c ∷ cs) ++ 58 ∷ local in
    ap (λ z. cond z (drop (length (before_colon name) + 1) name) name) (colon_in (c ∷ cs) local)
    ∙ (ap (λ z. drop (length z + 1) name) (take_before (c ∷ cs) local h) ∙ drop_past (c ∷ cs) local)

goes_on_all : (cs : List ℕ) → list_all is_name_char cs ≡ true → goes_on false cs ≡ true
goes_on_all [] h = refl
goes_on_all (c ∷ cs) h =
    let parts = and_parts (is_name_char c) (list_all is_name_char cs) h in
    ap (λ z. cond z (goes_on true cs) (is_name_char c && goes_on false cs)) (apart is_name_char 58 c no_colon_char parts.0)
    ∙ and_from (is_name_char c) (goes_on false cs) parts.0 (goes_on_all cs parts.1)

goes_on_past : (cs rest : List ℕ) → list_all is_name_char cs ≡ true → goes_on true rest ≡ true → goes_on false (cs ++ 58 ∷ rest) ≡ true
goes_on_past [] rest h g = g
goes_on_past (c ∷ cs) rest h g =
    let parts = and_parts (is_name_char c) (list_all is_name_char cs) h in
    ap (λ z. cond z (goes_on true (cs ++ 58 ∷ rest)) (is_name_char c && goes_on false (cs ++ 58 ∷ rest))) (apart is_name_char 58 c no_colon_char parts.0)
    ∙ and_from (is_name_char c) (goes_on false (cs ++ 58 ∷ rest)) parts.0 (goes_on_past cs rest parts.1 g)

starts_name : (cs : List ℕ) → are_a_name cs ≡ true → goes_on true cs ≡ true
starts_name [] h = cc
starts_name (c ∷ cs) h =
    let parts = and_parts (is_name_start c) (list_all is_name_char cs) h in
    and_from (is_name_start c) (goes_on false cs) parts.0 (goes_on_all cs parts.1)

pub name_of_parts : (p local : List ℕ) → (bytes_eq p [] || are_a_name p) ≡ true → are_a_name local ≡ true → is_name (qualified p local) ≡ true
unfolding is_name
name_of_parts [] local h g = starts_name local g
name_of_parts (c ∷ cs) local h g =
    let parts = and_parts (is_name_start c) (list_all is_name_char cs) h in
    and_from (is_name_start c) (goes_on false (cs ++ 58 ∷ local)) parts.0 (goes_on_past cs local parts.1 (starts_name local g))

-- A qualified name that is the content of a Value is read as it is written.
use Rattle.std.proofs.Common.{◌≡◌, ℕ, ◌+◌, true, false, not, ◌&&◌, ◌||◌, cond, List, [], ◌∷◌, length, take, drop, take_while, refl, ap, ◌∙◌, one-add, Some, None}
use Rattle.std.specs.Prelude.{◌==◌}
use Rattle.std.specs.List.{list_all, prefix_len}
use Rattle.std.specs.Option.{option_and_then}
use Rattle.std.proofs.lemmas.Bool.{and_parts, and_from, or_from, not_from_false, not-true}
use lib.Utf8.{encode}
use Rattle.pws_tree.specs.Characters.{name_start_ranges, name_more_ranges}
use Rattle.pws_mark.specs.Documents.{Nothing}
use Rattle.pws_mark.specs.Bindings.{has_two_colons}
use Rattle.pws_mark.specs.Tokens.{is_white, is_name}
use Rattle.pws_mark.specs.Values.{Marked, placed, marked, then_marked, behind_white, first_word, letters, is_one_name}
use Rattle.pws_mark.specs.Meaning.{name_within}
use Rattle.pws_mark.proofs.WrittenDocument.{name_then}
use Rattle.pws_mark.proofs.WrittenGrammar.{is_word_char, word_of, word_not}

marked_name : (at : ℕ) (cs : List ℕ) → marked at (name_then cs Nothing) ≡ Some (placed at cs)
marked_name at [] = refl
marked_name at (c ∷ cs) = ap (then_marked (Some c) at) (marked_name (at + length (encode c)) cs)

pub letters_of : (at : ℕ) (cs : List ℕ) → letters (placed at cs) ≡ cs
letters_of at [] = refl
letters_of at (c ∷ cs) = ap (λ z. c ∷ z) (letters_of (at + length (encode c)) cs)

word_white : (c : ℕ) → is_word_char c ≡ true → is_white c ≡ false
unfolding name_start_ranges name_more_ranges
word_white c h =
    or_from (c == 32) (c == 9 || (c == 10 || c == 13)) (word_not 32 c refl h)
    (or_from (c == 9) (c == 10 || c == 13) (word_not 9 c refl h) (or_from (c == 10) (c == 13) (word_not 10 c refl h) (word_not 13 c refl h)))

none_white : (at : ℕ) (cs : List ℕ) → list_all is_word_char cs ≡ true → list_all (λ c. not (is_white c.0)) (placed at cs) ≡ true
none_white at [] h = refl
none_white at (c ∷ cs) h =
    let parts = and_parts (is_word_char c) (list_all is_word_char cs) h in
    and_from (not (is_white c)) (list_all (λ c. not (is_white c.0)) (placed (at + length (encode c)) cs)) (not_from_false (is_white c) (word_white c parts.0)) (none_white (at + length (encode c)) cs parts.1)

none_behind : (xs : Marked) → list_all (λ c. not (is_white c.0)) xs ≡ true → behind_white xs ≡ xs
none_behind [] h = refl
none_behind (x ∷ xs) h = ap (λ z. cond z (behind_white xs) (x ∷ xs)) (not-true (is_white x.0) (and_parts (not (is_white x.0)) (list_all (λ c. not (is_white c.0)) xs) h).0)

all_taken : (xs : Marked) → list_all (λ c. not (is_white c.0)) xs ≡ true → take_while (λ c. not (is_white c.0)) xs ≡ xs
all_taken [] h = refl
all_taken (x ∷ xs) h =
    let parts = and_parts (not (is_white x.0)) (list_all (λ c. not (is_white c.0)) xs) h in
    ap (λ z. take (cond z (1 + prefix_len (λ c. not (is_white c.0)) xs) 0) (x ∷ xs)) parts.0
    ∙ rw one-add (ap (λ z. x ∷ z) (all_taken xs parts.1))

drop_whole : (xs : Marked) → drop (length xs) xs ≡ []
drop_whole [] = refl
drop_whole (x ∷ xs) = drop_whole xs

pub one_word : (at : ℕ) (cs : List ℕ) → is_name cs ≡ true → has_two_colons cs ≡ false → name_within at (name_then cs Nothing) ≡ Some (placed at cs)
unfolding is_name
one_word at cs named once =
    let word : Marked = placed at cs in
    let chars : list_all (λ c. not (is_white c.0)) word ≡ true = none_white at cs (word_of cs true named) in
    let behind : behind_white word ≡ word = none_behind word chars in
    let first : first_word word ≡ word = ap (take_while (λ c. not (is_white c.0))) behind ∙ all_taken word chars in
    let name : is_name (letters word) ≡ true = ap is_name (letters_of at cs) ∙ named in
    let colons : not (has_two_colons (letters word)) ≡ true = not_from_false (has_two_colons (letters word)) (ap has_two_colons (letters_of at cs) ∙ once) in
    let rest : list_all (λ c. is_white c.0) (drop (length word) word) ≡ true = ap (list_all (λ c. is_white c.0)) (drop_whole word) in
    let whole : (is_name (letters word) && (not (has_two_colons (letters word)) && list_all (λ c. is_white c.0) (drop (length word) word))) ≡ true =
    and_from (is_name (letters word)) (not (has_two_colons (letters word)) && list_all (λ c. is_white c.0) (drop (length word) word)) name
    (and_from (not (has_two_colons (letters word))) (list_all (λ c. is_white c.0) (drop (length word) word)) colons rest) in
    marked_as at cs word (marked_name at cs) (parted word first behind ∙ whole) first
  where
    parted : (word : Marked) → first_word word ≡ word → behind_white word ≡ word → is_one_name word ≡ (is_name (letters word) && (not (has_two_colons (letters word)) && list_all (λ c. is_white c.0) (drop (length word) word)))
    parted word first behind =
        ap (λ z. is_name (letters z) && (not (has_two_colons (letters z)) && list_all (λ c. is_white c.0) (drop (length z) (behind_white word)))) first
        ∙ ap (λ z. is_name (letters word) && (not (has_two_colons (letters word)) && list_all (λ c. is_white c.0) (drop (length word) z))) behind

    marked_as : (at : ℕ) (cs : List ℕ) (word : Marked) → marked at (name_then cs Nothing) ≡ Some word → is_one_name word ≡ true → first_word word ≡ word → name_within at (name_then cs Nothing) ≡ Some word
    marked_as at cs word e one first =
        ap (λ z. option_and_then (λ chars. cond (is_one_name chars) (Some (first_word chars)) None) z) e
        ∙ (ap (λ z. cond z (Some (first_word word)) None) one ∙ ap (λ z. Some z) first)

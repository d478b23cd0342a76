-- Prefixes, and the names that are written with them.
use Rattle.std.proofs.Common.{◌≡◌, ℕ, ◌<◌, ◌≤◌, ◌^◌, Bool, true, false, ◌&&◌, ◌||◌, cond, List, [], ◌∷◌, ◌++◌, length, refl, ap, sym, ◌∙◌, arith, Some, None, position, unwrap_or, nat_lt}
use Rattle.std.specs.List.{position_or_len}
use Rattle.std.specs.Fmt.{decimal}
use Rattle.std.specs.Str.{bytes_eq, IsUtf8, IsAscii, chars}
use Rattle.std.specs.Cmp.Lexicographic.{bytes_decides}
use Rattle.std.proofs.lemmas.Bool.{and_right, both_ways, false_from_ne_true, ltb-true}
use Rattle.std.proofs.lemmas.Fmt.{IsAscii-decimal}
use Rattle.std.proofs.lemmas.Str.{encodes-chars, chars-IsAscii, IsUtf8-from_ascii, encodes-append}
use lib.Utf8.{encode, encodes}
use Rattle.pws_tree.specs.Characters.{are_a_name, name_start_ranges, name_more_ranges}
use Rattle.pws_tree.specs.declared.texts.Name.{Name}
use Rattle.pws_mark.specs.Canonical.{xml_space, xml_word, prefix_text, name_text}
use Rattle.pws_mark.specs.Documents.{Attribute}
use Rattle.pws_mark.specs.Bindings.{xmlns_word, has_colon, written_prefix, written_local, declared_prefix}
use Rattle.pws_mark.proofs.PlainNames.{qualified, decimal_chars, no_colon, name_chars_all, prefix_of, colon_of}

-- the prefix of a namespace, and a name as it is written, in characters
unfoldable pub prefix_chars : List (List ℕ) → List ℕ → List ℕ
prefix_chars spaces space = cond (bytes_eq space []) [] (prefix_text spaces space)

unfoldable pub name_chars : List (List ℕ) → Name → List ℕ
name_chars spaces n = qualified (prefix_chars spaces n.space) (chars n.local)

-- a place in a list is within it
pub place_low : {A : Type 0} (p : A → Bool) (xs : List A) → unwrap_or (position p xs) 0 ≤ length xs
place_low p xs = by (nat_lt (position_or_len p xs) (length xs)) (ltb-true (position_or_len p xs) (length xs))
  where
    by : (b : Bool) → (b ≡ true → position_or_len p xs < length xs) → unwrap_or (cond b (Some (position_or_len p xs)) None) 0 ≤ length xs
    by true h = omega (arith, h refl)
    by false h = omega arith

pub record IsPrefix (p : List ℕ) : Type 0 where
  pub named : (bytes_eq p [] || are_a_name p) ≡ true
  pub spelled : encodes p ≡ p
  pub other : bytes_eq p xmlns_word ≡ false

pub ascii_spelled : (bs : List ℕ) → IsAscii bs → encodes bs ≡ bs
ascii_spelled bs h = ap encodes (sym (chars-IsAscii bs h)) ∙ encodes-chars bs (IsUtf8-from_ascii bs h)

spelled_more : (c : ℕ) (cs : List ℕ) → encode c ≡ c ∷ [] → encodes cs ≡ cs → encodes (c ∷ cs) ≡ c ∷ cs
spelled_more c cs h g = ap (λ z. z ++ encodes cs) h ∙ ap (λ z. c ∷ z) g

numbered : (k : ℕ) → k < 2 ^ 64 → IsPrefix (110 ∷ decimal k)
unfolding name_start_ranges name_more_ranges xmlns_word encode
numbered k low = record { named = decimal_chars k low; spelled = spelled_more 110 (decimal k) refl (ascii_spelled (decimal k) (IsAscii-decimal k low)); other = refl }

xml_is : IsPrefix xml_word
unfolding name_start_ranges name_more_ranges xmlns_word xml_word encode
xml_is = record { named = refl; spelled = refl; other = refl }

none_is : IsPrefix []
unfolding xmlns_word
none_is = record { named = refl; spelled = refl; other = refl }

pub prefixes_are : (spaces : List (List ℕ)) (space : List ℕ) → length spaces < 2 ^ 64 → IsPrefix (prefix_chars spaces space)
unfolding prefix_chars
prefixes_are spaces space few = by (bytes_eq space []) (bytes_eq space xml_space)
  where
    by : (a b : Bool) → IsPrefix (cond a [] (cond b xml_word (110 ∷ decimal (unwrap_or (position (bytes_eq space) spaces) 0))))
    by true b = none_is
    by false true = xml_is
    by false false = numbered _ (omega (arith, place_low (bytes_eq space) spaces))

pub none_for_none : (spaces : List (List ℕ)) (space : List ℕ) → bytes_eq (prefix_chars spaces space) [] ≡ true → bytes_eq space [] ≡ true
unfolding prefix_chars xml_word
none_for_none spaces space h = by (bytes_eq space []) (bytes_eq space xml_space) h
  where
    by : (a b : Bool) → bytes_eq (cond a [] (cond b xml_word (110 ∷ decimal (unwrap_or (position (bytes_eq space) spaces) 0)))) [] ≡ true → a ≡ true
    by true b g = refl
    by false true g = cc
    by false false g = cc

pub prefix_plain : (p : List ℕ) → IsPrefix p → has_colon p ≡ false
prefix_plain [] h = refl
prefix_plain (c ∷ cs) h = no_colon (c ∷ cs) (name_chars_all (c ∷ cs) h.named)

name_text_is : (spaces : List (List ℕ)) (n : Name) → name_text spaces n ≡ qualified (prefix_chars spaces n.space) n.local
unfolding prefix_chars xml_word
name_text_is spaces n = by (bytes_eq n.space []) (bytes_eq n.space xml_space)
  where
    by : (a b : Bool) → cond a n.local (cond b xml_word (110 ∷ decimal (unwrap_or (position (bytes_eq n.space) spaces) 0)) ++ 58 ∷ n.local) ≡ qualified (cond a [] (cond b xml_word (110 ∷ decimal (unwrap_or (position (bytes_eq n.space) spaces) 0)))) n.local
    by true b = refl
    by false true = refl
    by false false = refl

qualified_spelled : (p local bytes : List ℕ) → encodes p ≡ p → encodes local ≡ bytes → encodes (qualified p local) ≡ qualified p bytes
unfolding encode
qualified_spelled [] local bytes h g = g
qualified_spelled (c ∷ cs) local bytes h g = encodes-append (c ∷ cs) (58 ∷ local) ∙ (ap (λ z. z ++ 58 ∷ encodes local) h ∙ ap (λ z. (c ∷ cs) ++ 58 ∷ z) g)

-- a name as it is written is spelled as its text
pub name_spelled : (spaces : List (List ℕ)) (n : Name) → length spaces < 2 ^ 64 → IsUtf8 n.local → encodes (name_chars spaces n) ≡ name_text spaces n
unfolding name_chars
name_spelled spaces n few u =
    qualified_spelled (prefix_chars spaces n.space) (chars n.local) n.local (prefixes_are spaces n.space few).spelled (encodes-chars n.local u)
    ∙ sym (name_text_is spaces n)

declares_none : (a : Attribute) → bytes_eq a.name xmlns_word ≡ false → bytes_eq (written_prefix a.name) xmlns_word ≡ false → declared_prefix a ≡ None
declares_none a h g =
    by (bytes_eq a.name xmlns_word) (has_colon a.name && bytes_eq (written_prefix a.name) xmlns_word) h (and_right (has_colon a.name) (bytes_eq (written_prefix a.name) xmlns_word) g)
  where
    by : (b c : Bool) → b ≡ false → c ≡ false → cond b (Some []) (cond c (Some (written_local a.name)) None) ≡ None
    by true c x y = cc
    by false true x y = cc
    by false false x y = refl

colonless : has_colon xmlns_word ≡ false
unfolding xmlns_word
colonless = refl

whole_other : (p local : List ℕ) → (bytes_eq p [] ≡ true → bytes_eq local xmlns_word ≡ false) → bytes_eq (qualified p local) xmlns_word ≡ false
whole_other [] local h = h refl
whole_other (c ∷ cs) local h =
    false_from_ne_true _ (λ same. both_ways (has_colon xmlns_word) colonless (ap has_colon (sym ((bytes_decides (qualified (c ∷ cs) local) xmlns_word).0 same)) ∙ colon_of c cs local))

-- an attribute that is written with such a name declares nothing
pub no_declaration : (a : Attribute) (p local : List ℕ) → a.name ≡ qualified p local → IsPrefix p → has_colon local ≡ false → (bytes_eq p [] ≡ true → bytes_eq local xmlns_word ≡ false) → declared_prefix a ≡ None
no_declaration a p local named is plain other =
    declares_none a (ap (λ z. bytes_eq z xmlns_word) named ∙ whole_other p local other)
    (ap (λ z. bytes_eq (written_prefix z) xmlns_word) named ∙ (ap (λ z. bytes_eq z xmlns_word) (prefix_of p local (prefix_plain p is) plain) ∙ is.other))

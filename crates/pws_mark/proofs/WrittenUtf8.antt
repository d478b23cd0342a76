-- Content of the grammar is spelled in UTF-8.
use Rattle.std.proofs.Common.{◌≡◌, ℕ, ◌+◌, ◌<◌, ◌≤◌, nat_lt, Option, Some, None, codes, subst, Bool, true, false, not, ◌&&◌, ◌||◌, cond, List, [], ◌∷◌, ◌++◌, refl, ap, ◌∙◌, arith, append-nil, inl, inr, nat_le, ltb, leb}
use Rattle.std.specs.Prelude.{◌==◌, ◌⊎◌}
use Rattle.std.specs.List.{flat_map, list_all}
use Rattle.std.specs.Str.{IsUtf8, bytes_eq, str_to_ascii_lowercase}
use Rattle.std.specs.Char.{to_ascii_lowercase}
use Rattle.std.specs.Cmp.Lexicographic.{bytes_decides}
use Rattle.std.proofs.lemmas.Bool.{and_parts, and_from, or_cases, eqb-true, ltb-true, leb-true, lt-ltb, le-ltb}
use Rattle.std.proofs.lemmas.Str.{IsUtf8-append, IsUtf8-nil, encode_ascii}
use Rattle.std.proofs.Math.Utf8.{scalar, scalars, low_scalar}
use lib.Utf8.{encode, encodes}
use Rattle.pws_tree.specs.Characters.{is_in, is_xml_char, xml_ranges}
use Rattle.pws_mark.specs.Digits.{is_digit, is_hexadecimal}
use Rattle.pws_mark.specs.Documents.{Piece, Char, Entity, Decimal, Hexadecimal, Attribute, Tag, Content, Nothing, Text, Section, Comment, Hollow, Element, Pseudo, Declaration, Document, spell_piece, spell_attribute, spell_tag, spell_content, spell_pseudo, spell_optional, spell_declaration, byte_order_mark, spell_head, spell_prolog, spell, section_start, section_end, comment_start, comment_end}
use Rattle.pws_mark.specs.Tokens.{is_white, is_name, is_piece, is_text_char, is_value_char, is_quote, is_attribute, has_within}
use Rattle.pws_mark.specs.Grammar.{is_tag, is_content, begins_with, is_misc, is_root, is_pseudo, is_optional, is_declaration, is_document}
use Rattle.pws_mark.specs.Beginnings.{Spells}
use Rattle.pws_mark.proofs.WrittenGrammar.{inside, is_word_char, word_of, word_text}

-- Characters.
scalar_ranges : List (ℕ × ℕ)
scalar_ranges = (0, 55295) ∷ (57344, 1114111) ∷ []

in_ranges : (c : ℕ) → is_in scalar_ranges c ≡ true → scalar c ≡ true
unfolding scalar_ranges
in_ranges c h = by (or_cases (nat_le 0 c && nat_le c 55295) ((nat_le 57344 c && nat_le c 1114111) || false) h)
  where
    high : ((nat_le 57344 c && nat_le c 1114111) ≡ true) ⊎ (false ≡ true) → scalar c ≡ true
    high (inl e) =
        let parts = and_parts (nat_le 57344 c) (nat_le c 1114111) e in
        let low : 57344 ≤ c = leb-true 57344 c parts.0 in
        let top : c ≤ 1114111 = leb-true c 1114111 parts.1 in
        ap (λ z. cond z true (leb 57344 c && ltb c 1114112)) (le-ltb c 55296 (omega arith))
        ∙ and_from (leb 57344 c) (ltb c 1114112) parts.0 (lt-ltb c 1114112 (omega arith))
    high (inr e) = cc

    by : ((nat_le 0 c && nat_le c 55295) ≡ true) ⊎ (((nat_le 57344 c && nat_le c 1114111) || false) ≡ true) → scalar c ≡ true
    by (inl e) = low_scalar c (omega (arith, leb-true c 55295 (and_parts (nat_le 0 c) (nat_le c 55295) e).1))
    by (inr e) = high (or_cases (nat_le 57344 c && nat_le c 1114111) false e)

pub xml_scalar : (c : ℕ) → is_xml_char c ≡ true → scalar c ≡ true
unfolding xml_ranges scalar_ranges
xml_scalar c h = in_ranges c (inside xml_ranges scalar_ranges c refl h)

text_scalar : (c : ℕ) → is_text_char c ≡ true → scalar c ≡ true
text_scalar c h = xml_scalar c (and_parts (is_xml_char c) (not (c == 60) && not (c == 38)) h).0

value_scalar : (quote c : ℕ) → is_value_char quote c ≡ true → scalar c ≡ true
value_scalar quote c h = text_scalar c (and_parts (is_text_char c) (not (c == quote)) h).0

white_scalar : (c : ℕ) → is_white c ≡ true → scalar c ≡ true
white_scalar c h = by (or_cases (c == 32) (c == 9 || (c == 10 || c == 13)) h)
  where
    is : (n : ℕ) → n < 128 → (c == n) ≡ true → scalar c ≡ true
    is n low e = low_scalar c (omega (arith, eqb-true c n e))

    last : ((c == 10) ≡ true) ⊎ ((c == 13) ≡ true) → scalar c ≡ true
    last (inl e) = is 10 (omega arith) e
    last (inr e) = is 13 (omega arith) e

    next : ((c == 9) ≡ true) ⊎ ((c == 10 || c == 13) ≡ true) → scalar c ≡ true
    next (inl e) = is 9 (omega arith) e
    next (inr e) = last (or_cases (c == 10) (c == 13) e)

    by : ((c == 32) ≡ true) ⊎ ((c == 9 || (c == 10 || c == 13)) ≡ true) → scalar c ≡ true
    by (inl e) = is 32 (omega arith) e
    by (inr e) = next (or_cases (c == 9) (c == 10 || c == 13) e)

between : (a b c : ℕ) → b < 128 → (nat_le a c && nat_le c b) ≡ true → scalar c ≡ true
between a b c low h = low_scalar c (omega (arith, leb-true c b (and_parts (nat_le a c) (nat_le c b) h).1))

digit_scalar : (c : ℕ) → is_digit c ≡ true → scalar c ≡ true
digit_scalar c h = between 48 57 c (omega arith) h

hexadecimal_scalar : (c : ℕ) → is_hexadecimal c ≡ true → scalar c ≡ true
hexadecimal_scalar c h = by (or_cases (is_digit c) ((nat_le 65 c && nat_le c 70) || (nat_le 97 c && nat_le c 102)) h)
  where
    letter : ((nat_le 65 c && nat_le c 70) ≡ true) ⊎ ((nat_le 97 c && nat_le c 102) ≡ true) → scalar c ≡ true
    letter (inl e) = between 65 70 c (omega arith) e
    letter (inr e) = between 97 102 c (omega arith) e

    by : (is_digit c ≡ true) ⊎ (((nat_le 65 c && nat_le c 70) || (nat_le 97 c && nat_le c 102)) ≡ true) → scalar c ≡ true
    by (inl e) = digit_scalar c e
    by (inr e) = letter (or_cases (nat_le 65 c && nat_le c 70) (nat_le 97 c && nat_le c 102) e)

pub all_scalars : (p : ℕ → Bool) → ((c : ℕ) → p c ≡ true → scalar c ≡ true) → (cs : List ℕ) → list_all p cs ≡ true → scalars cs ≡ true
all_scalars p h [] all = refl
all_scalars p h (c ∷ cs) all =
    let parts = and_parts (p c) (list_all p cs) all in
    and_from (scalar c) (scalars cs) (h c parts.0) (all_scalars p h cs parts.1)

-- Bytes.
spelled_of : (p : ℕ → Bool) → ((c : ℕ) → p c ≡ true → scalar c ≡ true) → (cs : List ℕ) → list_all p cs ≡ true → IsUtf8 (encodes cs)
spelled_of p h cs all = (cs, (all_scalars p h cs all, refl))

pub name_scalars : (cs : List ℕ) → is_name cs ≡ true → scalars cs ≡ true
unfolding is_name
name_scalars cs h = all_scalars is_word_char (λ c e. text_scalar c (word_text c e)) cs (word_of cs true h)

name_utf8 : (cs : List ℕ) → is_name cs ≡ true → IsUtf8 (encodes cs)
unfolding is_name
name_utf8 cs h = spelled_of is_word_char (λ c e. text_scalar c (word_text c e)) cs (word_of cs true h)

white_utf8 : (cs : List ℕ) → list_all is_white cs ≡ true → IsUtf8 (encodes cs)
white_utf8 cs h = spelled_of is_white white_scalar cs h

byte_utf8 : (b : ℕ) → b < 128 → IsUtf8 (b ∷ [])
byte_utf8 b low = (b ∷ [], (and_from (scalar b) true (low_scalar b (omega arith)) refl, append-nil (encode b) ∙ encode_ascii b low))

after_byte : (b : ℕ) (bytes : List ℕ) → b < 128 → IsUtf8 bytes → IsUtf8 (b ∷ bytes)
after_byte b bytes low u = IsUtf8-append (b ∷ []) bytes (byte_utf8 b low) u

piece_utf8 : (p : ℕ → Bool) → ((c : ℕ) → p c ≡ true → scalar c ≡ true) → (x : Piece) → is_piece p x ≡ true → IsUtf8 (spell_piece x)
piece_utf8 p h (Char c) e = (c ∷ [], (and_from (scalar c) true (h c e) refl, append-nil (encode c)))
piece_utf8 p h (Entity name) e = after_byte 38 (encodes name ++ 59 ∷ []) (omega arith) (IsUtf8-append (encodes name) (59 ∷ []) (name_utf8 name e) (byte_utf8 59 (omega arith)))
piece_utf8 p h (Decimal digits) e =
    let all = (and_parts (not (bytes_eq digits [])) (list_all is_digit digits) e).1 in
    after_byte 38 (35 ∷ (encodes digits ++ 59 ∷ [])) (omega arith) (after_byte 35 (encodes digits ++ 59 ∷ []) (omega arith) (IsUtf8-append (encodes digits) (59 ∷ []) (spelled_of is_digit digit_scalar digits all) (byte_utf8 59 (omega arith))))
piece_utf8 p h (Hexadecimal digits) e =
    let all = (and_parts (not (bytes_eq digits [])) (list_all is_hexadecimal digits) e).1 in
    after_byte 38 (35 ∷ 120 ∷ (encodes digits ++ 59 ∷ [])) (omega arith)
    (after_byte 35 (120 ∷ (encodes digits ++ 59 ∷ [])) (omega arith)
    (after_byte 120 (encodes digits ++ 59 ∷ []) (omega arith) (IsUtf8-append (encodes digits) (59 ∷ []) (spelled_of is_hexadecimal hexadecimal_scalar digits all) (byte_utf8 59 (omega arith)))))

pieces_utf8 : (p : ℕ → Bool) → ((c : ℕ) → p c ≡ true → scalar c ≡ true) → (xs : List Piece) → list_all (is_piece p) xs ≡ true → IsUtf8 (flat_map spell_piece xs)
pieces_utf8 p h [] e = IsUtf8-nil
pieces_utf8 p h (x ∷ xs) e =
    let parts = and_parts (is_piece p x) (list_all (is_piece p) xs) e in
    IsUtf8-append (spell_piece x) (flat_map spell_piece xs) (piece_utf8 p h x parts.0) (pieces_utf8 p h xs parts.1)

quote_low : (q : ℕ) → is_quote q ≡ true → q < 128
quote_low q h = by (or_cases (q == 34) (q == 39) h)
  where
    by : ((q == 34) ≡ true) ⊎ ((q == 39) ≡ true) → q < 128
    by (inl e) = omega (arith, eqb-true q 34 e)
    by (inr e) = omega (arith, eqb-true q 39 e)

attribute_utf8 : (a : Attribute) → is_attribute a ≡ true → IsUtf8 (spell_attribute a)
attribute_utf8 a h =
    let p0 = and_parts (not (bytes_eq a.gap []) && list_all is_white a.gap) (is_name a.name && (list_all is_white a.before && (list_all is_white a.after && (is_quote a.quote && list_all (is_piece (is_value_char a.quote)) a.value)))) h in
    let p1 = and_parts (is_name a.name) (list_all is_white a.before && (list_all is_white a.after && (is_quote a.quote && list_all (is_piece (is_value_char a.quote)) a.value))) p0.1 in
    let p2 = and_parts (list_all is_white a.before) (list_all is_white a.after && (is_quote a.quote && list_all (is_piece (is_value_char a.quote)) a.value)) p1.1 in
    let p3 = and_parts (list_all is_white a.after) (is_quote a.quote && list_all (is_piece (is_value_char a.quote)) a.value) p2.1 in
    let p4 = and_parts (is_quote a.quote) (list_all (is_piece (is_value_char a.quote)) a.value) p3.1 in
    let low : a.quote < 128 = quote_low a.quote p4.0 in
    let value : List ℕ = flat_map spell_piece a.value in
    let quoted : IsUtf8 (a.quote ∷ (value ++ a.quote ∷ [])) = after_byte a.quote (value ++ a.quote ∷ []) low (IsUtf8-append value (a.quote ∷ []) (pieces_utf8 (is_value_char a.quote) (value_scalar a.quote) a.value p4.1) (byte_utf8 a.quote low)) in
    let behind : IsUtf8 (encodes a.after ++ a.quote ∷ (value ++ a.quote ∷ [])) = IsUtf8-append (encodes a.after) (a.quote ∷ (value ++ a.quote ∷ [])) (white_utf8 a.after p3.0) quoted in
    IsUtf8-append (encodes a.gap) (encodes a.name ++ (encodes a.before ++ 61 ∷ (encodes a.after ++ a.quote ∷ (value ++ a.quote ∷ [])))) (white_utf8 a.gap (and_parts (not (bytes_eq a.gap [])) (list_all is_white a.gap) p0.0).1)
    (IsUtf8-append (encodes a.name) (encodes a.before ++ 61 ∷ (encodes a.after ++ a.quote ∷ (value ++ a.quote ∷ []))) (name_utf8 a.name p1.0)
    (IsUtf8-append (encodes a.before) (61 ∷ (encodes a.after ++ a.quote ∷ (value ++ a.quote ∷ []))) (white_utf8 a.before p2.0) (after_byte 61 (encodes a.after ++ a.quote ∷ (value ++ a.quote ∷ [])) (omega arith) behind)))

attributes_utf8 : (attributes : List Attribute) → list_all is_attribute attributes ≡ true → IsUtf8 (flat_map spell_attribute attributes)
attributes_utf8 [] h = IsUtf8-nil
attributes_utf8 (a ∷ more) h =
    let parts = and_parts (is_attribute a) (list_all is_attribute more) h in
    IsUtf8-append (spell_attribute a) (flat_map spell_attribute more) (attribute_utf8 a parts.0) (attributes_utf8 more parts.1)

tag_utf8 : (tag : Tag) → is_tag tag ≡ true → IsUtf8 (spell_tag tag)
tag_utf8 tag h =
    let p0 = and_parts (is_name tag.name) (list_all is_attribute tag.attributes && list_all is_white tag.gap) h in
    let p1 = and_parts (list_all is_attribute tag.attributes) (list_all is_white tag.gap) p0.1 in
    IsUtf8-append (encodes tag.name) (flat_map spell_attribute tag.attributes ++ encodes tag.gap) (name_utf8 tag.name p0.0)
    (IsUtf8-append (flat_map spell_attribute tag.attributes) (encodes tag.gap) (attributes_utf8 tag.attributes p1.0) (white_utf8 tag.gap p1.1))

start_utf8 : IsUtf8 section_start
unfolding section_start encode
start_utf8 = (section_start, (refl, refl))

end_utf8 : IsUtf8 section_end
unfolding section_end encode
end_utf8 = (section_end, (refl, refl))

open_utf8 : IsUtf8 comment_start
unfolding comment_start encode
open_utf8 = (comment_start, (refl, refl))

close_utf8 : IsUtf8 comment_end
unfolding comment_end encode
close_utf8 = (comment_end, (refl, refl))

content_utf8 : (c : Content) → is_content c ≡ true → IsUtf8 (spell_content c)
content_utf8 Nothing h = IsUtf8-nil
content_utf8 (Text piece rest) h =
    let p0 = and_parts (is_piece is_text_char piece) (not (begins_with section_end (Text piece rest)) && is_content rest) h in
    let p1 = and_parts (not (begins_with section_end (Text piece rest))) (is_content rest) p0.1 in
    IsUtf8-append (spell_piece piece) (spell_content rest) (piece_utf8 is_text_char text_scalar piece p0.0) (content_utf8 rest p1.1)
content_utf8 (Section chars rest) h =
    let p0 = and_parts (list_all is_xml_char chars && not (has_within section_end chars)) (is_content rest) h in
    let all = (and_parts (list_all is_xml_char chars) (not (has_within section_end chars)) p0.0).0 in
    IsUtf8-append section_start (encodes chars ++ (section_end ++ spell_content rest)) start_utf8
    (IsUtf8-append (encodes chars) (section_end ++ spell_content rest) (spelled_of is_xml_char xml_scalar chars all) (IsUtf8-append section_end (spell_content rest) end_utf8 (content_utf8 rest p0.1)))
content_utf8 (Comment chars rest) h =
    let p0 = and_parts (list_all is_xml_char chars && not (has_within (45 ∷ 45 ∷ []) (chars ++ 45 ∷ []))) (is_content rest) h in
    let all = (and_parts (list_all is_xml_char chars) (not (has_within (45 ∷ 45 ∷ []) (chars ++ 45 ∷ []))) p0.0).0 in
    IsUtf8-append comment_start (encodes chars ++ (comment_end ++ spell_content rest)) open_utf8
    (IsUtf8-append (encodes chars) (comment_end ++ spell_content rest) (spelled_of is_xml_char xml_scalar chars all) (IsUtf8-append comment_end (spell_content rest) close_utf8 (content_utf8 rest p0.1)))
content_utf8 (Hollow tag rest) h =
    let p0 = and_parts (is_tag tag) (is_content rest) h in
    after_byte 60 (spell_tag tag ++ 47 ∷ 62 ∷ spell_content rest) (omega arith)
    (IsUtf8-append (spell_tag tag) (47 ∷ 62 ∷ spell_content rest) (tag_utf8 tag p0.0)
    (after_byte 47 (62 ∷ spell_content rest) (omega arith) (after_byte 62 (spell_content rest) (omega arith) (content_utf8 rest p0.1))))
content_utf8 (Element tag inner gap rest) h =
    let p0 = and_parts (is_tag tag) (is_content inner && (list_all is_white gap && is_content rest)) h in
    let p1 = and_parts (is_content inner) (list_all is_white gap && is_content rest) p0.1 in
    let p2 = and_parts (list_all is_white gap) (is_content rest) p1.1 in
    let name = (and_parts (is_name tag.name) (list_all is_attribute tag.attributes && list_all is_white tag.gap) p0.0).0 in
    let last : List ℕ = encodes tag.name ++ (encodes gap ++ 62 ∷ spell_content rest) in
    let last_is : IsUtf8 last = IsUtf8-append (encodes tag.name) (encodes gap ++ 62 ∷ spell_content rest) (name_utf8 tag.name name) (IsUtf8-append (encodes gap) (62 ∷ spell_content rest) (white_utf8 gap p2.0) (after_byte 62 (spell_content rest) (omega arith) (content_utf8 rest p2.1))) in
    after_byte 60 (spell_tag tag ++ 62 ∷ (spell_content inner ++ 60 ∷ 47 ∷ last)) (omega arith)
    (IsUtf8-append (spell_tag tag) (62 ∷ (spell_content inner ++ 60 ∷ 47 ∷ last)) (tag_utf8 tag p0.0)
    (after_byte 62 (spell_content inner ++ 60 ∷ 47 ∷ last) (omega arith)
    (IsUtf8-append (spell_content inner) (60 ∷ 47 ∷ last) (content_utf8 inner p1.0) (after_byte 60 (47 ∷ last) (omega arith) (after_byte 47 last (omega arith) last_is)))))

misc_utf8 : (c : Content) → is_misc c ≡ true → IsUtf8 (spell_content c)
misc_utf8 Nothing h = IsUtf8-nil
misc_utf8 (Text (Char c) rest) h =
    let parts = and_parts (is_white c) (is_misc rest) h in
    IsUtf8-append (encode c) (spell_content rest) (piece_utf8 is_white white_scalar (Char c) parts.0) (misc_utf8 rest parts.1)
misc_utf8 (Text (Entity n) rest) h = cc
misc_utf8 (Text (Decimal n) rest) h = cc
misc_utf8 (Text (Hexadecimal n) rest) h = cc
misc_utf8 (Section chars rest) h = cc
misc_utf8 (Comment chars rest) h =
    let p0 = and_parts (list_all is_xml_char chars && not (has_within (45 ∷ 45 ∷ []) (chars ++ 45 ∷ []))) (is_misc rest) h in
    let all = (and_parts (list_all is_xml_char chars) (not (has_within (45 ∷ 45 ∷ []) (chars ++ 45 ∷ []))) p0.0).0 in
    IsUtf8-append comment_start (encodes chars ++ (comment_end ++ spell_content rest)) open_utf8
    (IsUtf8-append (encodes chars) (comment_end ++ spell_content rest) (spelled_of is_xml_char xml_scalar chars all) (IsUtf8-append comment_end (spell_content rest) close_utf8 (misc_utf8 rest p0.1)))
misc_utf8 (Hollow tag rest) h = cc
misc_utf8 (Element tag inner gap rest) h = cc

-- Declarations.
abbrev SaysUtf8 : (List ℕ → Bool) → Type 0
SaysUtf8 allowed = (v : List ℕ) → allowed v ≡ true → IsUtf8 (encodes v)

pseudo_utf8 : (allowed : List ℕ → Bool) (word : List ℕ) (p : Pseudo) → SaysUtf8 allowed → IsUtf8 word → is_pseudo allowed p ≡ true → IsUtf8 (spell_pseudo word p)
pseudo_utf8 allowed word p says u h =
    let p0 = and_parts (not (bytes_eq p.gap []) && list_all is_white p.gap) (list_all is_white p.before && (list_all is_white p.after && (is_quote p.quote && allowed p.value))) h in
    let p1 = and_parts (list_all is_white p.before) (list_all is_white p.after && (is_quote p.quote && allowed p.value)) p0.1 in
    let p2 = and_parts (list_all is_white p.after) (is_quote p.quote && allowed p.value) p1.1 in
    let p3 = and_parts (is_quote p.quote) (allowed p.value) p2.1 in
    let low : p.quote < 128 = quote_low p.quote p3.0 in
    let last : List ℕ = p.quote ∷ (encodes p.value ++ p.quote ∷ []) in
    let last_is : IsUtf8 last = after_byte p.quote (encodes p.value ++ p.quote ∷ []) low (IsUtf8-append (encodes p.value) (p.quote ∷ []) (says p.value p3.1) (byte_utf8 p.quote low)) in
    IsUtf8-append (encodes p.gap) (word ++ (encodes p.before ++ 61 ∷ (encodes p.after ++ last))) (white_utf8 p.gap (and_parts (not (bytes_eq p.gap [])) (list_all is_white p.gap) p0.0).1)
    (IsUtf8-append word (encodes p.before ++ 61 ∷ (encodes p.after ++ last)) u
    (IsUtf8-append (encodes p.before) (61 ∷ (encodes p.after ++ last)) (white_utf8 p.before p1.0)
    (after_byte 61 (encodes p.after ++ last) (omega arith) (IsUtf8-append (encodes p.after) last (white_utf8 p.after p2.0) last_is))))

optional_utf8 : (allowed : List ℕ → Bool) (word : List ℕ) (p : Option Pseudo) → SaysUtf8 allowed → IsUtf8 word → is_optional allowed p ≡ true → IsUtf8 (spell_optional word p)
optional_utf8 allowed word None says u h = IsUtf8-nil
optional_utf8 allowed word (Some p) says u h = pseudo_utf8 allowed word p says u h

one_word : (w v : List ℕ) → scalars w ≡ true → bytes_eq v w ≡ true → IsUtf8 (encodes v)
one_word w v h e = (v, (ap scalars ((bytes_decides v w).0 e) ∙ h, refl))

version_says : SaysUtf8 (λ v. bytes_eq v (codes "1.0"))
version_says v h = one_word (codes "1.0") v refl h

either_says : SaysUtf8 (λ v. bytes_eq v (codes "yes") || bytes_eq v (codes "no"))
either_says v h = by (or_cases (bytes_eq v (codes "yes")) (bytes_eq v (codes "no")) h)
  where
    by : (bytes_eq v (codes "yes") ≡ true) ⊎ (bytes_eq v (codes "no") ≡ true) → IsUtf8 (encodes v)
    by (inl e) = one_word (codes "yes") v refl e
    by (inr e) = one_word (codes "no") v refl e

lower_low : (c : ℕ) → to_ascii_lowercase c < 128 → c < 128
lower_low c h = by (ltb c 65) (ltb c 91) (ltb-true c 65) (ltb-true c 91) h
  where
    by : (a b : Bool) → (a ≡ true → c < 65) → (b ≡ true → c < 91) → cond a c (cond b (c + 32) c) < 128 → c < 128
    by true b f g k = k
    by false true f g k = omega (arith, g refl)
    by false false f g k = k

lower_scalars : (v w : List ℕ) → str_to_ascii_lowercase v ≡ w → list_all (λ c. nat_lt c 128) w ≡ true → scalars v ≡ true
lower_scalars [] w e h = refl
lower_scalars (c ∷ v) [] e h = cc
lower_scalars (c ∷ v) (d ∷ w) e h =
    let parts = and_parts (nat_lt d 128) (list_all (λ c. nat_lt c 128) w) h in
    let first : to_ascii_lowercase c ≡ d = cc in
    let rest : str_to_ascii_lowercase v ≡ w = cc in
    let low : c < 128 = lower_low c (omega (arith, ltb-true d 128 parts.0)) in
    and_from (scalar c) (scalars v) (low_scalar c (omega arith)) (lower_scalars v w rest parts.1)

encoding_says : SaysUtf8 (λ v. bytes_eq (str_to_ascii_lowercase v) (codes "utf-8"))
encoding_says v h = (v, (lower_scalars v (codes "utf-8") ((bytes_decides (str_to_ascii_lowercase v) (codes "utf-8")).0 h) refl, refl))

word_utf8 : (w : List ℕ) → list_all (λ c. nat_lt c 128) w ≡ true → IsUtf8 w
word_utf8 [] h = IsUtf8-nil
word_utf8 (c ∷ w) h =
    let parts = and_parts (nat_lt c 128) (list_all (λ c. nat_lt c 128) w) h in
    after_byte c w (ltb-true c 128 parts.0) (word_utf8 w parts.1)

declaration_utf8 : (d : Option Declaration) → is_declaration d ≡ true → IsUtf8 (spell_declaration d)
declaration_utf8 None h = IsUtf8-nil
declaration_utf8 (Some d) h =
    let p0 = and_parts (is_pseudo (λ v. bytes_eq v (codes "1.0")) d.version) (is_optional (λ v. bytes_eq (str_to_ascii_lowercase v) (codes "utf-8")) d.encoding && (is_optional (λ v. bytes_eq v (codes "yes") || bytes_eq v (codes "no")) d.standalone && list_all is_white d.gap)) h in
    let p1 = and_parts (is_optional (λ v. bytes_eq (str_to_ascii_lowercase v) (codes "utf-8")) d.encoding) (is_optional (λ v. bytes_eq v (codes "yes") || bytes_eq v (codes "no")) d.standalone && list_all is_white d.gap) p0.1 in
    let p2 = and_parts (is_optional (λ v. bytes_eq v (codes "yes") || bytes_eq v (codes "no")) d.standalone) (list_all is_white d.gap) p1.1 in
    let gap : List ℕ = encodes d.gap ++ codes "?>" in
    let alone : List ℕ = spell_optional (codes "standalone") d.standalone ++ gap in
    let encoded : List ℕ = spell_optional (codes "encoding") d.encoding ++ alone in
    let gap_is : IsUtf8 gap = IsUtf8-append (encodes d.gap) (codes "?>") (white_utf8 d.gap p2.1) (word_utf8 (codes "?>") refl) in
    let alone_is : IsUtf8 alone = IsUtf8-append (spell_optional (codes "standalone") d.standalone) gap (optional_utf8 (λ v. bytes_eq v (codes "yes") || bytes_eq v (codes "no")) (codes "standalone") d.standalone either_says (word_utf8 (codes "standalone") refl) p2.0) gap_is in
    let encoded_is : IsUtf8 encoded = IsUtf8-append (spell_optional (codes "encoding") d.encoding) alone (optional_utf8 (λ v. bytes_eq (str_to_ascii_lowercase v) (codes "utf-8")) (codes "encoding") d.encoding encoding_says (word_utf8 (codes "encoding") refl) p1.0) alone_is in
    IsUtf8-append (codes "<?xml") (spell_pseudo (codes "version") d.version ++ encoded) (word_utf8 (codes "<?xml") refl)
    (IsUtf8-append (spell_pseudo (codes "version") d.version) encoded (pseudo_utf8 (λ v. bytes_eq v (codes "1.0")) (codes "version") d.version version_says (word_utf8 (codes "version") refl) p0.0) encoded_is)

mark_utf8 : (b : Bool) → IsUtf8 (cond b byte_order_mark [])
unfolding encode
mark_utf8 true = (0xFEFF ∷ [], (refl, refl))
mark_utf8 false = IsUtf8-nil

document_utf8 : (d : Document) → is_document d ≡ true → IsUtf8 (spell d)
document_utf8 d h =
    let p0 = and_parts (is_declaration d.declaration) (is_misc d.before && ((is_root d.root && is_content d.root) && is_misc d.after)) h in
    let p1 = and_parts (is_misc d.before) ((is_root d.root && is_content d.root) && is_misc d.after) p0.1 in
    let p2 = and_parts (is_root d.root && is_content d.root) (is_misc d.after) p1.1 in
    IsUtf8-append (spell_prolog d) (spell_content d.root ++ spell_content d.after)
    (IsUtf8-append (spell_head d) (spell_content d.before)
    (IsUtf8-append (cond d.mark byte_order_mark []) (spell_declaration d.declaration) (mark_utf8 d.mark) (declaration_utf8 d.declaration p0.0))
    (misc_utf8 d.before p1.0))
    (IsUtf8-append (spell_content d.root) (spell_content d.after) (content_utf8 d.root (and_parts (is_root d.root) (is_content d.root) p2.0).1) (misc_utf8 d.after p2.1))

-- a text of the grammar is UTF-8
pub spelled_utf8 : (d : Document) (bytes : List ℕ) → Spells d bytes → IsUtf8 bytes
spelled_utf8 d bytes h = subst IsUtf8 h.spelled (document_utf8 d h.lawful)

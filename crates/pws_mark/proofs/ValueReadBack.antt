-- The pieces that a value is written as.
use Rattle.std.proofs.Common.{◌≡◌, ℕ, suc, ◌<◌, ◌≤◌, Bool, true, false, not, ◌&&◌, List, [], ◌∷◌, ◌++◌, map, length, get_or, refl, ap, sym, ◌∙◌, arith, codes, inl, inr, Some}
use Rattle.std.specs.Prelude.{◌==◌, ◌⊎◌, if◌then◌else◌}
use Rattle.std.specs.List.{flat_map, list_all}
use Rattle.std.specs.Str.{IsUtf8, chars, is_utf8}
use Rattle.std.proofs.Math.Dec.{leb}
use Rattle.std.proofs.lemmas.Bool.{ne_eqb, eqb-true, eqb-false}
use Rattle.std.proofs.lemmas.Bool.Decides.{leb_tells}
use Rattle.std.proofs.lemmas.Str.{encode_ascii, encodes-chars, IsUtf8-from_is_utf8}
use Rattle.std.proofs.lemmas.Grind.{flat_map-append}
use lib.Utf8.{encode, encodes}
use Rattle.pws_tree.specs.Characters.{is_xml_char, is_xml_text, xml_ranges, name_start_ranges, name_more_ranges}
use Rattle.pws_mark.specs.Bindings.{piece_char, is_char, value_of, entity_char, number_of}
use Rattle.pws_mark.specs.Canonical.{value_byte}
use Rattle.pws_mark.specs.Documents.{Piece, Char, Entity, Decimal, spell_piece}
use Rattle.pws_mark.specs.Tokens.{is_piece, is_value_char, is_name}
use Rattle.pws_mark.specs.Texts.{ValuesReadBack}
use Rattle.pws_mark.proofs.Escapes.{other, high}

-- how a character is written in a value
abbrev pub value_piece : ℕ → Piece
value_piece c =
    if c == 38 then Entity (codes "amp")
    else if c == 60 then Entity (codes "lt")
    else if c == 34 then Entity (codes "quot")
    else if c == 9 then Decimal (codes "9")
    else if c == 10 then Decimal (codes "10")
    else if c == 13 then Decimal (codes "13")
    else Char c

plain : (b : ℕ) → 128 ≤ b → value_byte b ≡ b ∷ []
unfolding value_byte
plain b h = rw (ne_eqb b 38 (other b 38 h (omega arith)), ne_eqb b 60 (other b 60 h (omega arith)), ne_eqb b 34 (other b 34 h (omega arith)), ne_eqb b 9 (other b 9 h (omega arith)), ne_eqb b 10 (other b 10 h (omega arith)), ne_eqb b 13 (other b 13 h (omega arith)))

plain_all : (bs : List ℕ) → ((i : ℕ) → i < length bs → 128 ≤ get_or bs i 0) → flat_map value_byte bs ≡ bs
plain_all [] h = refl
plain_all (b ∷ bs) h = ap (λ z. z ++ flat_map value_byte bs) (plain b (h 0 (omega arith))) ∙ ap (λ z. b ∷ z) (plain_all bs (λ i low. h (suc i) (omega arith)))

ascii : (c : ℕ) → c < 128 → value_byte c ++ [] ≡ spell_piece (value_piece c)
unfolding value_byte encode
ascii c h = by (c == 38) (c == 60) (c == 34) (c == 9) (c == 10) (c == 13)
  where
    by : (s t u v w x : Bool) → (if s then codes "&amp;" else if t then codes "&lt;" else if u then codes "&quot;" else if v then codes "&#9;" else if w then codes "&#10;" else if x then codes "&#13;" else c ∷ []) ++ [] ≡ spell_piece (if s then Entity (codes "amp") else if t then Entity (codes "lt") else if u then Entity (codes "quot") else if v then Decimal (codes "9") else if w then Decimal (codes "10") else if x then Decimal (codes "13") else Char c)
    by true t u v w x = refl
    by false true u v w x = refl
    by false false true v w x = refl
    by false false false true w x = refl
    by false false false false true x = refl
    by false false false false false true = refl
    by false false false false false false = sym (encode_ascii c h)

wide : (c : ℕ) → 128 ≤ c → spell_piece (value_piece c) ≡ encode c
wide c h = rw (ne_eqb c 38 (other c 38 h (omega arith)), ne_eqb c 60 (other c 60 h (omega arith)), ne_eqb c 34 (other c 34 h (omega arith)), ne_eqb c 9 (other c 9 h (omega arith)), ne_eqb c 10 (other c 10 h (omega arith)), ne_eqb c 13 (other c 13 h (omega arith)))

char_spelled : (c : ℕ) → flat_map value_byte (encode c) ≡ spell_piece (value_piece c)
char_spelled c = by (leb_tells 128 c)
  where
    by : ((leb 128 c ≡ true) × (128 ≤ c)) ⊎ ((leb 128 c ≡ false) × (c < 128)) → flat_map value_byte (encode c) ≡ spell_piece (value_piece c)
    by (inl p) = plain_all (encode c) (high c p.1) ∙ sym (wide c p.1)
    by (inr p) = ap (flat_map value_byte) (encode_ascii c p.1) ∙ ascii c p.1

pub chars_spelled : (cs : List ℕ) → flat_map value_byte (encodes cs) ≡ flat_map spell_piece (map value_piece cs)
chars_spelled [] = refl
chars_spelled (c ∷ cs) = flat_map-append value_byte (encode c) (encodes cs) ∙ (ap (λ z. z ++ flat_map value_byte (encodes cs)) (char_spelled c) ∙ ap (λ z. spell_piece (value_piece c) ++ z) (chars_spelled cs))

lawful_piece : (c : ℕ) → is_xml_char c ≡ true → is_piece (is_value_char 34) (value_piece c) ≡ true
unfolding is_name name_start_ranges name_more_ranges
lawful_piece c h = by (c == 38) (c == 60) (c == 34) (c == 9) (c == 10) (c == 13) (λ s t u. ap (λ z. (z && (not (c == 60) && not (c == 38))) && not (c == 34)) h ∙ (ap (λ z. (not z && not (c == 38)) && not (c == 34)) t ∙ (ap (λ z. not z && not (c == 34)) s ∙ ap not u)))
  where
    by : (s t u v w x : Bool) → (s ≡ false → t ≡ false → u ≡ false → is_value_char 34 c ≡ true) → is_piece (is_value_char 34) (if s then Entity (codes "amp") else if t then Entity (codes "lt") else if u then Entity (codes "quot") else if v then Decimal (codes "9") else if w then Decimal (codes "10") else if x then Decimal (codes "13") else Char c) ≡ true
    by true t u v w x g = refl
    by false true u v w x g = refl
    by false false true v w x g = refl
    by false false false true w x g = refl
    by false false false false true x g = refl
    by false false false false false true g = refl
    by false false false false false false g = g refl refl refl

pub read_char : (c : ℕ) → piece_char (value_piece c) ≡ Some c
unfolding entity_char number_of xml_ranges
read_char c = by (c == 38) (c == 60) (c == 34) (c == 9) (c == 10) (c == 13) (eqb-true c 38) (eqb-true c 60) (eqb-true c 34) (eqb-true c 9) (eqb-true c 10) (eqb-true c 13)
  where
    by : (s t u v w x : Bool) → (s ≡ true → c ≡ 38) → (t ≡ true → c ≡ 60) → (u ≡ true → c ≡ 34) → (v ≡ true → c ≡ 9) → (w ≡ true → c ≡ 10) → (x ≡ true → c ≡ 13) → piece_char (if s then Entity (codes "amp") else if t then Entity (codes "lt") else if u then Entity (codes "quot") else if v then Decimal (codes "9") else if w then Decimal (codes "10") else if x then Decimal (codes "13") else Char c) ≡ Some c
    by true t u v w x e0 e1 e2 e3 e4 e5 = ap (λ z. Some z) (sym (e0 refl))
    by false true u v w x e0 e1 e2 e3 e4 e5 = ap (λ z. Some z) (sym (e1 refl))
    by false false true v w x e0 e1 e2 e3 e4 e5 = ap (λ z. Some z) (sym (e2 refl))
    by false false false true w x e0 e1 e2 e3 e4 e5 = ap (λ z. Some z) (sym (e3 refl))
    by false false false false true x e0 e1 e2 e3 e4 e5 = ap (λ z. Some z) (sym (e4 refl))
    by false false false false false true e0 e1 e2 e3 e4 e5 = ap (λ z. Some z) (sym (e5 refl))
    by false false false false false false e0 e1 e2 e3 e4 e5 = refl

not_9 : (c : ℕ) → is_char 9 (value_piece c) ≡ false
not_9 c = by (c == 38) (c == 60) (c == 34) (c == 9) (c == 10) (c == 13) (λ e. ne_eqb 9 c (λ same. eqb-false c 9 e (sym same)))
  where
    by : (s t u v w x : Bool) → (v ≡ false → (9 == c) ≡ false) → is_char 9 (if s then Entity (codes "amp") else if t then Entity (codes "lt") else if u then Entity (codes "quot") else if v then Decimal (codes "9") else if w then Decimal (codes "10") else if x then Decimal (codes "13") else Char c) ≡ false
    by true t u v w x g = refl
    by false true u v w x g = refl
    by false false true v w x g = refl
    by false false false true w x g = refl
    by false false false false true x g = refl
    by false false false false false true g = refl
    by false false false false false false g = g refl

not_10 : (c : ℕ) → is_char 10 (value_piece c) ≡ false
not_10 c = by (c == 38) (c == 60) (c == 34) (c == 9) (c == 10) (c == 13) (λ e. ne_eqb 10 c (λ same. eqb-false c 10 e (sym same)))
  where
    by : (s t u v w x : Bool) → (w ≡ false → (10 == c) ≡ false) → is_char 10 (if s then Entity (codes "amp") else if t then Entity (codes "lt") else if u then Entity (codes "quot") else if v then Decimal (codes "9") else if w then Decimal (codes "10") else if x then Decimal (codes "13") else Char c) ≡ false
    by true t u v w x g = refl
    by false true u v w x g = refl
    by false false true v w x g = refl
    by false false false true w x g = refl
    by false false false false true x g = refl
    by false false false false false true g = refl
    by false false false false false false g = g refl

not_13 : (c : ℕ) → is_char 13 (value_piece c) ≡ false
not_13 c = by (c == 38) (c == 60) (c == 34) (c == 9) (c == 10) (c == 13) (λ e. ne_eqb 13 c (λ same. eqb-false c 13 e (sym same)))
  where
    by : (s t u v w x : Bool) → (x ≡ false → (13 == c) ≡ false) → is_char 13 (if s then Entity (codes "amp") else if t then Entity (codes "lt") else if u then Entity (codes "quot") else if v then Decimal (codes "9") else if w then Decimal (codes "10") else if x then Decimal (codes "13") else Char c) ≡ false
    by true t u v w x g = refl
    by false true u v w x g = refl
    by false false true v w x g = refl
    by false false false true w x g = refl
    by false false false false true x g = refl
    by false false false false false true g = refl
    by false false false false false false g = g refl

pub lawful_all : (cs : List ℕ) → list_all is_xml_char cs ≡ true → list_all (is_piece (is_value_char 34)) (map value_piece cs) ≡ true
lawful_all [] h = refl
lawful_all (c ∷ cs) h = both (is_piece (is_value_char 34) (value_piece c)) (list_all (is_piece (is_value_char 34)) (map value_piece cs)) (lawful_piece c (first (is_xml_char c) (list_all is_xml_char cs) h)) (lawful_all cs (second (is_xml_char c) (list_all is_xml_char cs) h))
  where
    both : (a b : Bool) → a ≡ true → b ≡ true → (a && b) ≡ true
    both true b x y = y
    both false b x y = cc

    first : (a b : Bool) → (a && b) ≡ true → a ≡ true
    first true b g = refl
    first false b g = g

    second : (a b : Bool) → (a && b) ≡ true → b ≡ true
    second true b g = g
    second false b g = cc

pub value_is : (cs : List ℕ) → value_of (map value_piece cs) ≡ Some (encodes cs)
value_is [] = refl
value_is (c ∷ cs) = rw (not_13 c, value_is cs, not_9 c, not_10 c, read_char c)

pub values_read_back : ValuesReadBack
unfolding is_xml_text
values_read_back v lawful =
    let u : IsUtf8 v = IsUtf8-from_is_utf8 v (first (is_utf8 v) (list_all is_xml_char (chars v)) lawful) in (
      map value_piece (chars v),
      lawful_all (chars v) (second (is_utf8 v) (list_all is_xml_char (chars v)) lawful),
      sym (chars_spelled (chars v)) ∙ ap (flat_map value_byte) (encodes-chars v u),
      value_is (chars v) ∙ ap (λ z. Some z) (encodes-chars v u),
    )
  where
    first : (a b : Bool) → (a && b) ≡ true → a ≡ true
    first true b g = refl
    first false b g = g

    second : (a b : Bool) → (a && b) ≡ true → b ≡ true
    second true b g = g
    second false b g = cc

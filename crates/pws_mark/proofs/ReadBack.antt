-- The content that a text is written as.
use Rattle.std.proofs.Common.{◌≡◌, ℕ, ◌≤◌, Bool, true, false, not, ◌&&◌, cond, List, [], ◌∷◌, ◌++◌, map, length, refl, ap, sym, ◌∙◌, arith, append-nil, codes, Some}
use Rattle.std.specs.Prelude.{◌==◌, if◌then◌else◌}
use Rattle.std.specs.List.{flat_map, list_all}
use Rattle.std.specs.Str.{IsUtf8, chars, is_utf8, bytes_eq}
use Rattle.std.proofs.lemmas.Bool.{ne_eqb, eqb-true, eqb-false}
use Rattle.std.proofs.lemmas.Str.{IsUtf8-from_is_utf8, encodes-chars, length-encode, len_utf8_bounds}
use lib.Utf8.{encode, encodes}
use Rattle.pws_tree.specs.Characters.{is_xml_char, is_xml_text, xml_ranges, name_start_ranges, name_more_ranges}
use Rattle.pws_tree.specs.Trees.{Nodes, NoNode, TextThen}
use Rattle.pws_mark.specs.Bindings.{Bindings, piece_char, is_char, entity_char, number_of}
use Rattle.pws_mark.specs.Documents.{Piece, Char, Entity, Decimal, Hexadecimal, Content, Nothing, Text, spell_piece, spell_content, section_end}
use Rattle.pws_mark.specs.Grammar.{is_content, begins_with}
use Rattle.pws_mark.specs.Tokens.{is_piece, is_text_char, is_name}
use Rattle.pws_mark.specs.Meaning.{nodes_in, with_text, joined}
use Rattle.pws_mark.specs.Texts.{TextsReadBack}
use Rattle.pws_mark.proofs.Escapes.{text_piece, text_spelled}

content_of : List ℕ → Content
content_of [] = Nothing
content_of (c ∷ cs) = Text (text_piece c) (content_of cs)

spelled_of : (cs : List ℕ) → spell_content (content_of cs) ≡ flat_map spell_piece (map text_piece cs)
unfolding content_of
spelled_of [] = refl
spelled_of (c ∷ cs) = ap (λ z. spell_piece (text_piece c) ++ z) (spelled_of cs)

pub lawful_piece : (c : ℕ) → is_xml_char c ≡ true → is_piece is_text_char (text_piece c) ≡ true
unfolding is_name name_start_ranges name_more_ranges
lawful_piece c h = by (c == 38) (c == 60) (c == 62) (c == 13) (λ s t. ap (λ z. z && (not (c == 60) && not (c == 38))) h ∙ (ap (λ z. not z && not (c == 38)) t ∙ ap not s))
  where
    by : (s t u v : Bool) → (s ≡ false → t ≡ false → is_text_char c ≡ true) → is_piece is_text_char (if s then Entity (codes "amp") else if t then Entity (codes "lt") else if u then Entity (codes "gt") else if v then Decimal (codes "13") else Char c) ≡ true
    by true t u v g = refl
    by false true u v g = refl
    by false false true v g = refl
    by false false false true g = refl
    by false false false false g = g refl refl

and_false : (a b : Bool) → b ≡ false → (a && b) ≡ false
and_false true b h = h
and_false false b h = refl

never : (cs : List ℕ) → begins_with (62 ∷ []) (content_of cs) ≡ false
unfolding content_of
never [] = refl
never (c ∷ cs) = by (c == 38) (c == 60) (c == 62) (c == 13) (λ e. ne_eqb 62 c (λ same. eqb-false c 62 e (sym same)))
  where
    by : (s t u v : Bool) → (u ≡ false → (62 == c) ≡ false) → begins_with (62 ∷ []) (Text (if s then Entity (codes "amp") else if t then Entity (codes "lt") else if u then Entity (codes "gt") else if v then Decimal (codes "13") else Char c) (content_of cs)) ≡ false
    by true t u v g = refl
    by false true u v g = refl
    by false false true v g = refl
    by false false false true g = refl
    by false false false false g = ap (λ z. z && true) (g refl)

never_after : (d : ℕ) (more : List ℕ) → ((cs : List ℕ) → begins_with more (content_of cs) ≡ false) → (cs : List ℕ) → begins_with (d ∷ more) (content_of cs) ≡ false
unfolding content_of
never_after d more h [] = refl
never_after d more h (c ∷ cs) = by (text_piece c)
  where
    by : (p : Piece) → begins_with (d ∷ more) (Text p (content_of cs)) ≡ false
    by (Char e) = and_false (d == e) (begins_with more (content_of cs)) (h cs)
    by (Entity n) = refl
    by (Decimal n) = refl
    by (Hexadecimal n) = refl

lawful_of : (cs : List ℕ) → list_all is_xml_char cs ≡ true → is_content (content_of cs) ≡ true
unfolding content_of section_end
lawful_of [] h = refl
lawful_of (c ∷ cs) h =
    let here : is_xml_char c ≡ true = first (is_xml_char c) (list_all is_xml_char cs) h in
    let rest : list_all is_xml_char cs ≡ true = second (is_xml_char c) (list_all is_xml_char cs) h in
    join (is_piece is_text_char (text_piece c)) (begins_with section_end (Text (text_piece c) (content_of cs))) (is_content (content_of cs)) (lawful_piece c here) (never_after 93 (93 ∷ 62 ∷ []) (never_after 93 (62 ∷ []) never) (c ∷ cs)) (lawful_of cs rest)
  where
    first : (a b : Bool) → (a && b) ≡ true → a ≡ true
    first true b g = refl
    first false b g = g

    second : (a b : Bool) → (a && b) ≡ true → b ≡ true
    second true b g = g
    second false b g = cc

    join : (a b d : Bool) → a ≡ true → b ≡ false → d ≡ true → (a && (not b && d)) ≡ true
    join true false d x y z = z
    join true true d x y z = cc
    join false b d x y z = cc

pub read_char : (c : ℕ) → piece_char (text_piece c) ≡ Some c
unfolding entity_char number_of xml_ranges
read_char c = by (c == 38) (c == 60) (c == 62) (c == 13) (eqb-true c 38) (eqb-true c 60) (eqb-true c 62) (eqb-true c 13)
  where
    by : (s t u v : Bool) → (s ≡ true → c ≡ 38) → (t ≡ true → c ≡ 60) → (u ≡ true → c ≡ 62) → (v ≡ true → c ≡ 13) → piece_char (if s then Entity (codes "amp") else if t then Entity (codes "lt") else if u then Entity (codes "gt") else if v then Decimal (codes "13") else Char c) ≡ Some c
    by true t u v a b d e = ap (λ z. Some z) (sym (a refl))
    by false true u v a b d e = ap (λ z. Some z) (sym (b refl))
    by false false true v a b d e = ap (λ z. Some z) (sym (d refl))
    by false false false true a b d e = ap (λ z. Some z) (sym (e refl))
    by false false false false a b d e = refl

pub no_return : (c : ℕ) → is_char 13 (text_piece c) ≡ false
no_return c = by (c == 38) (c == 60) (c == 62) (c == 13) (λ e. ne_eqb 13 c (λ same. eqb-false c 13 e (sym same)))
  where
    by : (s t u v : Bool) → (v ≡ false → (13 == c) ≡ false) → is_char 13 (if s then Entity (codes "amp") else if t then Entity (codes "lt") else if u then Entity (codes "gt") else if v then Decimal (codes "13") else Char c) ≡ false
    by true t u v g = refl
    by false true u v g = refl
    by false false true v g = refl
    by false false false true g = refl
    by false false false false g = g refl

texts_of : List ℕ → Nodes
texts_of [] = NoNode
texts_of (c ∷ cs) = TextThen (encodes (c ∷ cs)) NoNode

not_empty : (bs : List ℕ) → 1 ≤ length bs → bytes_eq bs [] ≡ false
not_empty [] h = absurd (omega arith)
not_empty (b ∷ bs) h = refl

joined_chars : (c : ℕ) (cs : List ℕ) → with_text (encode c) (texts_of cs) ≡ texts_of (c ∷ cs)
unfolding texts_of with_text
joined_chars c cs =
    let some : bytes_eq (encode c) [] ≡ false = not_empty (encode c) (omega (arith, length-encode c, (len_utf8_bounds c).0)) in
    ap (λ z. cond z (texts_of cs) (joined (encode c) (texts_of cs))) some ∙ by cs
  where
    by : (ds : List ℕ) → joined (encode c) (texts_of ds) ≡ texts_of (c ∷ ds)
    by [] = ap (λ z. TextThen z NoNode) (sym (append-nil (encode c)))
    by (d ∷ ds) = refl

stands_of : (m : Bindings) (cs : List ℕ) → nodes_in m false (content_of cs) ≡ texts_of cs
unfolding content_of texts_of
stands_of m [] = refl
stands_of m (c ∷ cs) =
    rw (no_return c, read_char c, stands_of m cs) (joined_chars c cs)

texts_are : (cs t : List ℕ) → encodes cs ≡ t → bytes_eq t [] ≡ false → texts_of cs ≡ TextThen t NoNode
unfolding texts_of
texts_are [] t e h = let full : bytes_eq [] [] ≡ bytes_eq t [] = ap (λ z. bytes_eq z []) e in cc
texts_are (c ∷ cs) t e h = ap (λ z. TextThen z NoNode) e

pub read_back : TextsReadBack
unfolding is_xml_text
read_back t lawful =
    let some : not (bytes_eq t []) ≡ true = first (not (bytes_eq t [])) (is_utf8 t && list_all is_xml_char (chars t)) lawful in
    let text : (is_utf8 t && list_all is_xml_char (chars t)) ≡ true = second (not (bytes_eq t [])) (is_utf8 t && list_all is_xml_char (chars t)) lawful in
    let u : IsUtf8 t = IsUtf8-from_is_utf8 t (first (is_utf8 t) (list_all is_xml_char (chars t)) text) in (
      content_of (chars t),
      lawful_of (chars t) (second (is_utf8 t) (list_all is_xml_char (chars t)) text),
      spelled_of (chars t) ∙ sym (text_spelled t u),
      λ m. stands_of m (chars t) ∙ texts_are (chars t) t (encodes-chars t u) (turned (bytes_eq t []) some),
    )
  where
    first : (a b : Bool) → (a && b) ≡ true → a ≡ true
    first true b g = refl
    first false b g = g

    second : (a b : Bool) → (a && b) ≡ true → b ≡ true
    second true b g = g
    second false b g = cc

    turned : (b : Bool) → not b ≡ true → b ≡ false
    turned true g = cc
    turned false g = refl

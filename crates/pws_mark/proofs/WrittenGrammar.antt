-- The document of a canonical text is in the grammar.
use Rattle.std.proofs.Common.{◌≡◌, ℕ, ◌+◌, ◌<◌, ◌^◌, Bool, true, false, not, ◌&&◌, ◌||◌, cond, List, [], ◌∷◌, ◌++◌, map, length, refl, ap, sym, ◌∙◌, arith, codes, nat_le, inl, inr}
use Rattle.std.specs.Prelude.{◌==◌, if◌then◌else◌, ◌⊎◌}
use Rattle.std.specs.List.{list_any, list_all}
use Rattle.std.specs.Fmt.{decimal}
use Rattle.std.specs.Str.{bytes_eq, chars, is_utf8}
use Rattle.std.proofs.lemmas.Bool.{and_parts, and_from, and_right, or_cases, or_left, or_right, eqb-true, ne_eqb, eqb-false, not-true, not_from_false, leb-true, le-leb}
use Rattle.std.proofs.lemmas.List.Folds.{list_all-append}
use Rattle.pws_tree.specs.Characters.{is_in, is_xml_char, is_name_start, is_name_char, is_xml_text, xml_ranges, name_start_ranges, name_more_ranges}
use Rattle.pws_tree.specs.Trees.{Tree, Nodes, NoNode, TextThen, QualifiedThen, ElementThen}
use Rattle.pws_tree.specs.declared.texts.Name.{Name}
use Rattle.pws_tree.specs.declared.texts.Attr.{Attr}
use Rattle.pws_mark.specs.Documents.{Piece, Char, Entity, Decimal, Hexadecimal, Attribute, Content, Nothing, Text, Section, Comment, Hollow, Element, section_end}
use Rattle.pws_mark.specs.Bindings.{Bindings, xmlns_word, is_char}
use Rattle.pws_mark.specs.Tokens.{is_name, goes_on, is_piece, is_text_char, is_value_char, is_attribute}
use Rattle.pws_mark.specs.Grammar.{is_tag, begins_with, is_content, is_document}
use Rattle.pws_mark.proofs.Escapes.{text_piece}
use Rattle.pws_mark.proofs.ReadBack.{lawful_piece}
use Rattle.pws_mark.proofs.ValueReadBack.{value_piece, lawful_all}
use Rattle.pws_mark.proofs.PlainNames.{apart, decimal_chars, name_of_parts}
use Rattle.pws_mark.proofs.PrefixTexts.{name_chars}
use Rattle.pws_mark.proofs.WrittenDocument.{written, attribute_of, declaration_name, declarations_from, tag_of, text_then, name_then, content_of, document_with, IsGood, AreGood}
use Rattle.pws_mark.proofs.GoodNodes.{IsGoodTag, AllGood}

-- Ranges that lie in others.
abbrev pub within : List (ℕ × ℕ) → ℕ × ℕ → Bool
within xs r = list_any (λ x. nat_le x.0 r.0 && nat_le r.1 x.1) xs

one_inside : (xs : List (ℕ × ℕ)) (r : ℕ × ℕ) (c : ℕ) → within xs r ≡ true → (nat_le r.0 c && nat_le c r.1) ≡ true → is_in xs c ≡ true
one_inside [] r c h g = cc
one_inside (x ∷ xs) r c h g =
    by (λ e. one_inside xs r c e g) (or_cases (nat_le x.0 r.0 && nat_le r.1 x.1) (within xs r) h)
  where
    by : (within xs r ≡ true → is_in xs c ≡ true) → ((nat_le x.0 r.0 && nat_le r.1 x.1) ≡ true) ⊎ (within xs r ≡ true) → is_in (x ∷ xs) c ≡ true
    by more (inl e) =
        let outer = and_parts (nat_le x.0 r.0) (nat_le r.1 x.1) e in
        let inner = and_parts (nat_le r.0 c) (nat_le c r.1) g in
        or_left (nat_le x.0 c && nat_le c x.1) (is_in xs c)
        (and_from (nat_le x.0 c) (nat_le c x.1) (le-leb x.0 c (omega (arith, leb-true x.0 r.0 outer.0, leb-true r.0 c inner.0))) (le-leb c x.1 (omega (arith, leb-true r.1 x.1 outer.1, leb-true c r.1 inner.1))))
    by more (inr e) = or_right (nat_le x.0 c && nat_le c x.1) (is_in xs c) (more e)

pub inside : (rs xs : List (ℕ × ℕ)) (c : ℕ) → list_all (within xs) rs ≡ true → is_in rs c ≡ true → is_in xs c ≡ true
inside [] xs c h g = cc
inside (r ∷ rs) xs c h g =
    let parts = and_parts (within xs r) (list_all (within xs) rs) h in
    by parts.0 (λ e. inside rs xs c parts.1 e) (or_cases (nat_le r.0 c && nat_le c r.1) (is_in rs c) g)
  where
    by : within xs r ≡ true → (is_in rs c ≡ true → is_in xs c ≡ true) → ((nat_le r.0 c && nat_le c r.1) ≡ true) ⊎ (is_in rs c ≡ true) → is_in xs c ≡ true
    by one more (inl e) = one_inside xs r c one e
    by one more (inr e) = more e

starts_inside : list_all (within xml_ranges) name_start_ranges ≡ true
unfolding xml_ranges name_start_ranges
starts_inside = refl

others_inside : list_all (within xml_ranges) name_more_ranges ≡ true
unfolding xml_ranges name_more_ranges
others_inside = refl

pub name_char_is_xml : (c : ℕ) → is_name_char c ≡ true → is_xml_char c ≡ true
name_char_is_xml c h = by (or_cases (is_in name_start_ranges c) (is_in name_more_ranges c) h)
  where
    by : (is_in name_start_ranges c ≡ true) ⊎ (is_in name_more_ranges c ≡ true) → is_xml_char c ≡ true
    by (inl e) = inside name_start_ranges xml_ranges c starts_inside e
    by (inr e) = inside name_more_ranges xml_ranges c others_inside e

-- The characters of names, colons among them.
abbrev pub is_word_char : ℕ → Bool
is_word_char c = is_name_char c || c == 58

pub word_of : (cs : List ℕ) (starts : Bool) → goes_on starts cs ≡ true → list_all is_word_char cs ≡ true
word_of [] starts h = refl
word_of (c ∷ cs) true h =
    let parts = and_parts (is_name_start c) (goes_on false cs) h in
    and_from (is_word_char c) (list_all is_word_char cs) (or_left (is_name_char c) (c == 58) (or_left (is_name_start c) (is_in name_more_ranges c) parts.0)) (word_of cs false parts.1)
word_of (c ∷ cs) false h = by (c == 58) refl (word_of cs true) (word_of cs false) h
  where
    by : (b : Bool) → (c == 58) ≡ b → (goes_on true cs ≡ true → list_all is_word_char cs ≡ true) → (goes_on false cs ≡ true → list_all is_word_char cs ≡ true) → cond b (goes_on true cs) (is_name_char c && goes_on false cs) ≡ true → list_all is_word_char (c ∷ cs) ≡ true
    by true e more rest g = and_from (is_word_char c) (list_all is_word_char cs) (or_right (is_name_char c) (c == 58) e) (more g)
    by false e more rest g =
        let parts = and_parts (is_name_char c) (goes_on false cs) g in
        and_from (is_word_char c) (list_all is_word_char cs) (or_left (is_name_char c) (c == 58) parts.0) (rest parts.1)

pub word_text : (c : ℕ) → is_word_char c ≡ true → is_text_char c ≡ true
unfolding xml_ranges name_start_ranges name_more_ranges
word_text c h = by (or_cases (is_name_char c) (c == 58) h)
  where
    by : (is_name_char c ≡ true) ⊎ ((c == 58) ≡ true) → is_text_char c ≡ true
    by (inl e) = and_from (is_xml_char c) (not (c == 60) && not (c == 38)) (name_char_is_xml c e) (and_from (not (c == 60)) (not (c == 38)) (not_from_false (c == 60) (apart is_name_char 60 c refl e)) (not_from_false (c == 38) (apart is_name_char 38 c refl e)))
    by (inr e) = ap is_text_char (eqb-true c 58 e)

pub word_not : (k c : ℕ) → is_word_char k ≡ false → is_word_char c ≡ true → (c == k) ≡ false
word_not k c h g = apart is_word_char k c h g

-- Content that has no > as it stands doesn't begin with ]]>.
abbrev no_greater : Content → Bool
no_greater (Text p rest) = not (is_char 62 p) && no_greater rest
no_greater _ = true

never : (c : Content) → no_greater c ≡ true → begins_with (62 ∷ []) c ≡ false
never Nothing h = refl
never (Text (Char d) rest) h = ap (λ z. z && true) (not-true (62 == d) (and_parts (not (62 == d)) (no_greater rest) h).0)
never (Text (Entity n) rest) h = refl
never (Text (Decimal n) rest) h = refl
never (Text (Hexadecimal n) rest) h = refl
never (Section cs rest) h = refl
never (Comment cs rest) h = refl
never (Hollow tag rest) h = refl
never (Element tag inner gap rest) h = refl

never_after : (d : ℕ) (more : List ℕ) → ((c : Content) → no_greater c ≡ true → begins_with more c ≡ false) → (c : Content) → no_greater c ≡ true → begins_with (d ∷ more) c ≡ false
never_after d more g Nothing h = refl
never_after d more g (Text (Char e) rest) h = and_right (d == e) (begins_with more rest) (g rest (and_parts (not (62 == e)) (no_greater rest) h).1)
never_after d more g (Text (Entity n) rest) h = refl
never_after d more g (Text (Decimal n) rest) h = refl
never_after d more g (Text (Hexadecimal n) rest) h = refl
never_after d more g (Section cs rest) h = refl
never_after d more g (Comment cs rest) h = refl
never_after d more g (Hollow tag rest) h = refl
never_after d more g (Element tag inner gap rest) h = refl

no_end : (c : Content) → no_greater c ≡ true → begins_with section_end c ≡ false
unfolding section_end
no_end c h = never_after 93 (93 ∷ 62 ∷ []) (never_after 93 (62 ∷ []) never) c h

-- content of the grammar that has no > as it stands
record IsPlain (c : Content) : Type 0 where
  lawful : is_content c ≡ true
  none : no_greater c ≡ true

plain_more : (p : Piece) (rest : Content) → is_piece is_text_char p ≡ true → is_char 62 p ≡ false → IsPlain rest → IsPlain (Text p rest)
plain_more p rest h g more =
    let none : no_greater (Text p rest) ≡ true = and_from (not (is_char 62 p)) (no_greater rest) (not_from_false (is_char 62 p) g) more.none in
    record {
      lawful = and_from (is_piece is_text_char p) (not (begins_with section_end (Text p rest)) && is_content rest) h
          (and_from (not (begins_with section_end (Text p rest))) (is_content rest) (not_from_false (begins_with section_end (Text p rest)) (no_end (Text p rest) none)) more.lawful);
      none = none;
    }

no_greater_piece : (c : ℕ) → is_char 62 (text_piece c) ≡ false
no_greater_piece c = by (c == 38) (c == 60) (c == 62) (c == 13) (λ e. ne_eqb 62 c (λ same. eqb-false c 62 e (sym same)))
  where
    by : (s t u v : Bool) → (u ≡ false → (62 == c) ≡ false) → is_char 62 (if s then Entity (codes "amp") else if t then Entity (codes "lt") else if u then Entity (codes "gt") else if v then Decimal (codes "13") else Char c) ≡ false
    by true t u v g = refl
    by false true u v g = refl
    by false false true v g = refl
    by false false false true g = refl
    by false false false false g = g refl

plain_text : (cs : List ℕ) (rest : Content) → list_all is_xml_char cs ≡ true → IsPlain rest → IsPlain (text_then cs rest)
plain_text [] rest h more = more
plain_text (c ∷ cs) rest h more =
    let parts = and_parts (is_xml_char c) (list_all is_xml_char cs) h in
    plain_more (text_piece c) (text_then cs rest) (lawful_piece c parts.0) (no_greater_piece c) (plain_text cs rest parts.1 more)

word_no_greater : is_word_char 62 ≡ false
unfolding name_start_ranges name_more_ranges
word_no_greater = refl

plain_name : (cs : List ℕ) (rest : Content) → list_all is_word_char cs ≡ true → IsPlain rest → IsPlain (name_then cs rest)
plain_name [] rest h more = more
plain_name (c ∷ cs) rest h more =
    let parts = and_parts (is_word_char c) (list_all is_word_char cs) h in
    plain_more (Char c) (name_then cs rest) (word_text c parts.0) (ne_eqb 62 c (λ same. eqb-false c 62 (word_not 62 c word_no_greater parts.0) (sym same))) (plain_name cs rest parts.1 more)

written_lawful : (name value : List ℕ) → is_name name ≡ true → is_xml_text value ≡ true → is_attribute (written name value) ≡ true
unfolding written is_xml_text
written_lawful name value h g = and_from (is_name name) (list_all (is_piece (is_value_char 34)) (map value_piece (chars value))) h (lawful_all (chars value) (and_parts (is_utf8 value) (list_all is_xml_char (chars value)) g).1)

attributes_lawful : (m : Bindings) (spaces : List (List ℕ)) (attrs : List Attr) → AreGood m spaces attrs → list_all is_attribute (map (attribute_of spaces) attrs) ≡ true
attributes_lawful m spaces [] h = refl
attributes_lawful m spaces (a ∷ more) h =
    and_from (is_attribute (attribute_of spaces a)) (list_all is_attribute (map (attribute_of spaces) more)) (written_lawful (name_chars spaces a.name) a.value h.0.name.lawful h.0.value) (attributes_lawful m spaces more h.1)

pub declaration_named : (i : ℕ) → i < 2 ^ 64 → is_name (declaration_name i) ≡ true
unfolding declaration_name xmlns_word name_start_ranges name_more_ranges
declaration_named i low = name_of_parts xmlns_word (110 ∷ decimal i) refl (decimal_chars i low)

declarations_lawful : (i : ℕ) (spaces : List (List ℕ)) → i + length spaces < 2 ^ 64 → list_all is_xml_text spaces ≡ true → list_all is_attribute (declarations_from i spaces) ≡ true
unfolding declarations_from
declarations_lawful i [] few h = refl
declarations_lawful i (s ∷ spaces) few h =
    let parts = and_parts (is_xml_text s) (list_all is_xml_text spaces) h in
    and_from (is_attribute (written (declaration_name i) s)) (list_all is_attribute (declarations_from (i + 1) spaces)) (written_lawful (declaration_name i) s (declaration_named i (omega arith)) parts.0) (declarations_lawful (i + 1) spaces (omega arith) parts.1)

tag_lawful : (m : Bindings) (spaces : List (List ℕ)) (declarations : List Attribute) (n : Name) (attrs : List Attr) → IsGood m spaces n → AreGood m spaces attrs → list_all is_attribute declarations ≡ true → is_tag (tag_of spaces declarations n attrs) ≡ true
unfolding tag_of
tag_lawful m spaces declarations n attrs name good h =
    let all = declarations ++ map (attribute_of spaces) attrs in
    and_from (is_name (name_chars spaces n)) (list_all is_attribute all && true) name.lawful
    (and_from (list_all is_attribute all) true
    (list_all-append is_attribute declarations (map (attribute_of spaces) attrs) ∙ and_from (list_all is_attribute declarations) (list_all is_attribute (map (attribute_of spaces) attrs)) h (attributes_lawful m spaces attrs good))
    refl)

content_plain : (m : Bindings) (spaces : List (List ℕ)) (x : Nodes) → AllGood m spaces x → IsPlain (content_of spaces x)
unfolding content_of is_xml_text is_name
content_plain m spaces NoNode h = record { lawful = refl; none = refl }
content_plain m spaces (TextThen t rest) h =
    let text = (and_parts (not (bytes_eq t [])) (is_xml_text t) h.0).1 in
    plain_text (chars t) (content_of spaces rest) (and_parts (is_utf8 t) (list_all is_xml_char (chars t)) text).1 (content_plain m spaces rest h.2)
content_plain m spaces (QualifiedThen n rest) h = plain_name (name_chars spaces n) (content_of spaces rest) (word_of (name_chars spaces n) true h.0.lawful) (content_plain m spaces rest h.1)
content_plain m spaces (ElementThen n attrs inner rest) h =
    let tag : is_tag (tag_of spaces [] n attrs) ≡ true = tag_lawful m spaces [] n attrs h.0.name h.0.attributes refl in
    let deep : IsPlain (content_of spaces inner) = content_plain m spaces inner h.1 in
    let more : IsPlain (content_of spaces rest) = content_plain m spaces rest h.2 in
    record {
      lawful = and_from (is_tag (tag_of spaces [] n attrs)) (is_content (content_of spaces inner) && is_content (content_of spaces rest)) tag (and_from (is_content (content_of spaces inner)) (is_content (content_of spaces rest)) deep.lawful more.lawful);
      none = refl;
    }

pub document_lawful : (m : Bindings) (spaces : List (List ℕ)) (t : Tree) → length spaces < 2 ^ 64 → list_all is_xml_text spaces ≡ true → IsGoodTag m spaces t.name t.attrs t.children → AllGood m spaces t.children → is_document (document_with spaces t) ≡ true
document_lawful m spaces t few texts tag good =
    let root : is_tag (tag_of spaces (declarations_from 0 spaces) t.name t.attrs) ≡ true = tag_lawful m spaces (declarations_from 0 spaces) t.name t.attrs tag.name tag.attributes (declarations_lawful 0 spaces (omega arith) texts) in
    let deep : IsPlain (content_of spaces t.children) = content_plain m spaces t.children good in
    and_from (is_tag (tag_of spaces (declarations_from 0 spaces) t.name t.attrs) && (is_content (content_of spaces t.children) && true)) true
    (and_from (is_tag (tag_of spaces (declarations_from 0 spaces) t.name t.attrs)) (is_content (content_of spaces t.children) && true) root
    (and_from (is_content (content_of spaces t.children)) true deep.lawful refl)) refl

-- The document of a canonical text is spelled by it.
use Rattle.std.proofs.Common.{◌≡◌, ℕ, ◌+◌, ◌<◌, ◌^◌, true, not, List, [], ◌∷◌, ◌++◌, map, length, refl, ap, sym, ◌∙◌, arith, append_assoc, append-nil}
use Rattle.std.specs.List.{flat_map, list_all, enumerate_from}
use Rattle.std.specs.Fmt.{decimal}
use Rattle.std.specs.Str.{chars, bytes_eq}
use Rattle.std.proofs.lemmas.Bool.{and_parts}
use Rattle.std.proofs.lemmas.Str.{encodes-chars}
use Rattle.std.proofs.lemmas.Fmt.{IsAscii-decimal}
use Rattle.std.proofs.lemmas.Grind.{flat_map-append}
use lib.Utf8.{encode, encodes}
use Rattle.pws_tree.specs.Characters.{is_xml_text}
use Rattle.pws_tree.specs.Trees.{Tree, Nodes, NoNode, TextThen, QualifiedThen, ElementThen}
use Rattle.pws_tree.specs.declared.texts.Name.{Name}
use Rattle.pws_tree.specs.declared.texts.Attr.{Attr}
use Rattle.pws_mark.specs.Canonical.{text_byte, value_byte, value_text, name_text, attr_text, declaration_word, declaration_text, declarations_text, start_text, end_text, nodes_text}
use Rattle.pws_mark.specs.Documents.{Attribute, Content, Nothing, Element, spell_piece, spell_attribute, spell_tag, spell_content, spell}
use Rattle.pws_mark.specs.Bindings.{Bindings}
use Rattle.pws_mark.proofs.Escapes.{text_piece, text_spelled}
use Rattle.pws_mark.proofs.ValueReadBack.{chars_spelled}
use Rattle.pws_mark.proofs.PrefixTexts.{name_chars, ascii_spelled}
use Rattle.pws_mark.proofs.WrittenDocument.{written, attribute_of, declaration_name, declarations_from, tag_of, text_then, name_then, content_of, document_with, IsGood, AreGood, text_chars}
use Rattle.pws_mark.proofs.GoodNodes.{IsGoodTag, AllGood}

written_spelled : (name value : List ℕ) → is_xml_text value ≡ true → spell_attribute (written name value) ≡ 32 ∷ (encodes name ++ value_text value)
unfolding written encode
written_spelled name value h =
    ap (λ z. 32 ∷ (encodes name ++ 61 ∷ 34 ∷ (z ++ 34 ∷ []))) (sym (chars_spelled (chars value)) ∙ ap (flat_map value_byte) (encodes-chars value (text_chars value h)))

attributes_spelled : (m : Bindings) (spaces : List (List ℕ)) (attrs : List Attr) → AreGood m spaces attrs → flat_map spell_attribute (map (attribute_of spaces) attrs) ≡ flat_map (attr_text spaces) attrs
attributes_spelled m spaces [] h = refl
attributes_spelled m spaces (a ∷ more) h =
    ap (λ z. z ++ flat_map spell_attribute (map (attribute_of spaces) more)) (written_spelled (name_chars spaces a.name) a.value h.0.value ∙ ap (λ z. 32 ∷ (z ++ value_text a.value)) h.0.name.spelled)
    ∙ ap (λ z. attr_text spaces a ++ z) (attributes_spelled m spaces more h.1)

declaration_spelled : (i : ℕ) (s : List ℕ) → i < 2 ^ 64 → is_xml_text s ≡ true → spell_attribute (written (declaration_name i) s) ≡ declaration_text (i, s)
unfolding declaration_name declaration_word encode
declaration_spelled i s low h =
    written_spelled (declaration_name i) s h
    ∙ ap (λ z. 32 ∷ 120 ∷ 109 ∷ 108 ∷ 110 ∷ 115 ∷ 58 ∷ 110 ∷ (z ++ value_text s)) (ascii_spelled (decimal i) (IsAscii-decimal i low))

declarations_spelled : (i : ℕ) (spaces : List (List ℕ)) → i + length spaces < 2 ^ 64 → list_all is_xml_text spaces ≡ true → flat_map spell_attribute (declarations_from i spaces) ≡ flat_map declaration_text (enumerate_from i spaces)
unfolding declarations_from
declarations_spelled i [] few h = refl
declarations_spelled i (s ∷ spaces) few h =
    let parts = and_parts (is_xml_text s) (list_all is_xml_text spaces) h in
    ap (λ z. z ++ flat_map spell_attribute (declarations_from (i + 1) spaces)) (declaration_spelled i s (omega arith) parts.0)
    ∙ ap (λ z. declaration_text (i, s) ++ z) (declarations_spelled (i + 1) spaces (omega arith) parts.1)

tag_spelled : (m : Bindings) (spaces : List (List ℕ)) (declarations : List Attribute) (bytes : List ℕ) (n : Name) (attrs : List Attr) → IsGood m spaces n → AreGood m spaces attrs → flat_map spell_attribute declarations ≡ bytes → spell_tag (tag_of spaces declarations n attrs) ≡ name_text spaces n ++ (bytes ++ flat_map (attr_text spaces) attrs)
unfolding tag_of
tag_spelled m spaces declarations bytes n attrs name good d =
    ap (λ z. z ++ (flat_map spell_attribute (declarations ++ map (attribute_of spaces) attrs) ++ [])) name.spelled
    ∙ ap (λ z. name_text spaces n ++ z)
    (append-nil (flat_map spell_attribute (declarations ++ map (attribute_of spaces) attrs))
    ∙ (flat_map-append spell_attribute declarations (map (attribute_of spaces) attrs)
    ∙ (ap (λ z. z ++ flat_map spell_attribute (map (attribute_of spaces) attrs)) d ∙ ap (λ z. bytes ++ z) (attributes_spelled m spaces attrs good))))

text_then_spelled : (cs : List ℕ) (rest : Content) → spell_content (text_then cs rest) ≡ flat_map spell_piece (map text_piece cs) ++ spell_content rest
text_then_spelled [] rest = refl
text_then_spelled (c ∷ cs) rest = ap (λ z. spell_piece (text_piece c) ++ z) (text_then_spelled cs rest) ∙ sym (append_assoc (spell_piece (text_piece c)) (flat_map spell_piece (map text_piece cs)) (spell_content rest))

name_then_spelled : (cs : List ℕ) (rest : Content) → spell_content (name_then cs rest) ≡ encodes cs ++ spell_content rest
name_then_spelled [] rest = refl
name_then_spelled (c ∷ cs) rest = ap (λ z. encode c ++ z) (name_then_spelled cs rest) ∙ sym (append_assoc (encode c) (encodes cs) (spell_content rest))

element_regrouped : (name declarations attrs inner rest : List ℕ) → 60 ∷ ((name ++ (declarations ++ attrs)) ++ 62 ∷ (inner ++ 60 ∷ 47 ∷ (name ++ 62 ∷ rest))) ≡ (60 ∷ (name ++ (declarations ++ (attrs ++ 62 ∷ [])))) ++ (inner ++ ((60 ∷ 47 ∷ (name ++ 62 ∷ [])) ++ rest))
element_regrouped name declarations attrs inner rest = simp append_assoc

element_spelled : (m : Bindings) (spaces : List (List ℕ)) (declarations : List Attribute) (bytes : List ℕ) (n : Name) (attrs : List Attr) (inner rest : Content) (inner_bytes rest_bytes : List ℕ) → IsGood m spaces n → AreGood m spaces attrs → flat_map spell_attribute declarations ≡ bytes → spell_content inner ≡ inner_bytes → spell_content rest ≡ rest_bytes → spell_content (Element (tag_of spaces declarations n attrs) inner [] rest) ≡ start_text spaces bytes n attrs ++ (inner_bytes ++ (end_text spaces n ++ rest_bytes))
unfolding tag_of
element_spelled m spaces declarations bytes n attrs inner rest inner_bytes rest_bytes name good d e f =
    let tag = tag_spelled m spaces declarations bytes n attrs name good d in
    ap (λ z. 60 ∷ (z ++ 62 ∷ (spell_content inner ++ 60 ∷ 47 ∷ (encodes (tag_of spaces declarations n attrs).name ++ 62 ∷ spell_content rest)))) tag
    ∙ (ap (λ z. 60 ∷ ((name_text spaces n ++ (bytes ++ flat_map (attr_text spaces) attrs)) ++ 62 ∷ (z ++ 60 ∷ 47 ∷ (encodes (tag_of spaces declarations n attrs).name ++ 62 ∷ spell_content rest)))) e
    ∙ (ap (λ z. 60 ∷ ((name_text spaces n ++ (bytes ++ flat_map (attr_text spaces) attrs)) ++ 62 ∷ (inner_bytes ++ 60 ∷ 47 ∷ (z ++ 62 ∷ spell_content rest)))) (name_of_tag)
    ∙ (ap (λ z. 60 ∷ ((name_text spaces n ++ (bytes ++ flat_map (attr_text spaces) attrs)) ++ 62 ∷ (inner_bytes ++ 60 ∷ 47 ∷ (name_text spaces n ++ 62 ∷ z)))) f
    ∙ element_regrouped (name_text spaces n) bytes (flat_map (attr_text spaces) attrs) inner_bytes rest_bytes)))
  where
    name_of_tag : encodes (tag_of spaces declarations n attrs).name ≡ name_text spaces n
    name_of_tag = name.spelled

pub content_spelled : (m : Bindings) (spaces : List (List ℕ)) (x : Nodes) → AllGood m spaces x → spell_content (content_of spaces x) ≡ nodes_text spaces x
unfolding content_of
content_spelled m spaces NoNode h = refl
content_spelled m spaces (TextThen t rest) h =
    text_then_spelled (chars t) (content_of spaces rest)
    ∙ (ap (λ z. z ++ spell_content (content_of spaces rest)) (sym (text_spelled t (text_chars t (and_parts (not (bytes_eq t [])) (is_xml_text t) h.0).1)))
    ∙ ap (λ z. flat_map text_byte t ++ z) (content_spelled m spaces rest h.2))
content_spelled m spaces (QualifiedThen n rest) h =
    name_then_spelled (name_chars spaces n) (content_of spaces rest)
    ∙ (ap (λ z. z ++ spell_content (content_of spaces rest)) h.0.spelled ∙ ap (λ z. name_text spaces n ++ z) (content_spelled m spaces rest h.1))
content_spelled m spaces (ElementThen n attrs inner rest) h =
    element_spelled m spaces [] [] n attrs (content_of spaces inner) (content_of spaces rest) (nodes_text spaces inner) (nodes_text spaces rest) h.0.name h.0.attributes refl (content_spelled m spaces inner h.1) (content_spelled m spaces rest h.2)

pub document_spelled : (m : Bindings) (spaces : List (List ℕ)) (t : Tree) → length spaces < 2 ^ 64 → list_all is_xml_text spaces ≡ true → IsGoodTag m spaces t.name t.attrs t.children → AllGood m spaces t.children → spell (document_with spaces t) ≡ start_text spaces (declarations_text spaces) t.name t.attrs ++ (nodes_text spaces t.children ++ end_text spaces t.name)
document_spelled m spaces t few texts tag good =
    append-nil (spell_content (document_with spaces t).root)
    ∙ (element_spelled m spaces (declarations_from 0 spaces) (declarations_text spaces) t.name t.attrs (content_of spaces t.children) Nothing (nodes_text spaces t.children) [] tag.name tag.attributes (declarations_spelled 0 spaces (omega arith) texts) (content_spelled m spaces t.children good) refl
    ∙ ap (λ z. start_text spaces (declarations_text spaces) t.name t.attrs ++ (nodes_text spaces t.children ++ z)) (append-nil (end_text spaces t.name)))

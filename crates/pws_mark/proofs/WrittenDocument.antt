-- The document that a canonical text is spelled by.
use Rattle.std.proofs.Common.{◌≡◌, ℕ, ◌+◌, ◌<◌, ◌^◌, Bool, true, false, not, ◌&&◌, cond, List, [], ◌∷◌, ◌++◌, map, length, refl, ap, sym, ◌∙◌, drop, Some, None, Option, option_map, unwrap_or, codes}
use Rattle.std.specs.List.{list_all, filter_map, cons_option}
use Rattle.std.specs.Fmt.{decimal}
use Rattle.std.specs.Str.{bytes_eq, IsUtf8, chars, is_utf8}
use Rattle.std.specs.Cmp.Lexicographic.{bytes_decides}
use Rattle.std.proofs.lemmas.Bool.{and_parts, and_from, both_ways, not-true, false_from_ne_true}
use Rattle.std.proofs.lemmas.Str.{encodes-chars, IsUtf8-from_is_utf8}
use lib.Utf8.{encode, encodes}
use Rattle.pws_tree.specs.Characters.{is_xml_char, are_a_name, is_local_name, is_xml_text}
use Rattle.pws_tree.specs.Names.{is_lawful_name, is_lawful_attr, is_declaration, xmlns_space, xmlns_word as xmlns_local}
use Rattle.pws_tree.specs.Trees.{Tree, Nodes, NoNode, TextThen, QualifiedThen, ElementThen}
use Rattle.pws_tree.specs.declared.texts.Name.{Name}
use Rattle.pws_tree.specs.declared.texts.Attr.{Attr}
use Rattle.pws_mark.specs.Canonical.{name_text}
use Rattle.pws_mark.specs.Documents.{Char, Attribute, Tag, Content, Nothing, Text, Element, Document}
use Rattle.pws_mark.specs.Bindings.{Bindings, xmlns_word, value_of, has_colon, before_colon, written_prefix, written_local, has_two_colons, declared_prefix, declared, space_at, is_bound, named, element_name, attribute_name}
use Rattle.pws_mark.specs.Tokens.{is_name}
use Rattle.pws_mark.proofs.Escapes.{text_piece}
use Rattle.pws_mark.proofs.ValueReadBack.{value_piece, value_is}
use Rattle.pws_mark.proofs.PlainNames.{qualified, no_colon, name_chars_all, prefix_of, local_of, name_of_parts}
use Rattle.pws_mark.proofs.PrefixTexts.{prefix_chars, name_chars, IsPrefix, prefixes_are, prefix_plain, none_for_none, name_spelled, no_declaration}
use Rattle.pws_mark.proofs.BoundPrefixes.{Covered, Binds, bound_space, bindings_from}

-- an attribute, and the declaration of a namespace, as they are written
unfoldable pub written : List ℕ → List ℕ → Attribute
written name value = record { gap = 32 ∷ []; name = name; before = []; after = []; quote = 34; value = map value_piece (chars value) }

abbrev pub attribute_of : List (List ℕ) → Attr → Attribute
attribute_of spaces a = written (name_chars spaces a.name) a.value

unfoldable pub declaration_name : ℕ → List ℕ
declaration_name i = codes "xmlns:n" ++ decimal i

unfoldable pub declarations_from : ℕ → List (List ℕ) → List Attribute
declarations_from i [] = []
declarations_from i (s ∷ ss) = written (declaration_name i) s ∷ declarations_from (i + 1) ss

unfoldable pub tag_of : List (List ℕ) → List Attribute → Name → List Attr → Tag
tag_of spaces declarations n attrs = record { name = name_chars spaces n; attributes = declarations ++ map (attribute_of spaces) attrs; gap = [] }

-- characters of a text, and of a name, and then content
abbrev pub text_then : List ℕ → Content → Content
text_then [] rest = rest
text_then (c ∷ cs) rest = Text (text_piece c) (text_then cs rest)

abbrev pub name_then : List ℕ → Content → Content
name_then [] rest = rest
name_then (c ∷ cs) rest = Text (Char c) (name_then cs rest)

unfoldable pub content_of : List (List ℕ) → Nodes → Content
content_of spaces NoNode = Nothing
content_of spaces (TextThen t rest) = text_then (chars t) (content_of spaces rest)
content_of spaces (QualifiedThen n rest) = name_then (name_chars spaces n) (content_of spaces rest)
content_of spaces (ElementThen n attrs inner rest) = Element (tag_of spaces [] n attrs) (content_of spaces inner) [] (content_of spaces rest)

abbrev pub root_tag : List (List ℕ) → Tree → Tag
root_tag spaces t = tag_of spaces (declarations_from 0 spaces) t.name t.attrs

abbrev pub document_with : List (List ℕ) → Tree → Document
document_with spaces t =
    record { mark = false; declaration = None; before = Nothing; root = Element (root_tag spaces t) (content_of spaces t.children) [] Nothing; after = Nothing }

-- what is known of a name where these bindings hold
pub record IsGood (m : Bindings) (spaces : List (List ℕ)) (n : Name) : Type 0 where
  pub spelled : encodes (name_chars spaces n) ≡ name_text spaces n
  pub lawful : is_name (name_chars spaces n) ≡ true
  pub once : has_two_colons (name_chars spaces n) ≡ false
  pub found : element_name m (name_chars spaces n) ≡ Some n
  pub bound : is_bound m (written_prefix (name_chars spaces n)) ≡ true

-- and of an attribute
pub record IsGoodAttr (m : Bindings) (spaces : List (List ℕ)) (a : Attr) : Type 0 where
  pub name : IsGood m spaces a.name
  pub plain : declared_prefix (attribute_of spaces a) ≡ None
  pub named : attribute_name m (name_chars spaces a.name) ≡ Some a.name
  pub value : is_xml_text a.value ≡ true

lawful_local : (n : Name) → is_lawful_name n ≡ true → IsUtf8 n.local × (are_a_name (chars n.local) ≡ true)
unfolding is_local_name
lawful_local n h =
    let whole = and_parts ((is_utf8 n.local && are_a_name (chars n.local)) && is_xml_text n.space) (not (bytes_eq n.space xmlns_space)) h in
    let both = and_parts (is_utf8 n.local && are_a_name (chars n.local)) (is_xml_text n.space) whole.0 in
    let parts = and_parts (is_utf8 n.local) (are_a_name (chars n.local)) both.0 in
    (IsUtf8-from_is_utf8 n.local parts.0, parts.1)

resolved : (m : Bindings) (p local : List ℕ) (n : Name) → has_colon p ≡ false → has_colon local ≡ false → bound_space m p ≡ Some n.space → encodes local ≡ n.local → element_name m (qualified p local) ≡ Some n
resolved m p local n plain colonless found spelled =
    ap (λ z. option_map (named (written_local (qualified p local))) (bound_space m z)) (prefix_of p local plain colonless)
    ∙ (ap (λ z. option_map (named z) (bound_space m p)) (local_of p local plain colonless)
    ∙ (ap (λ z. option_map (named local) z) found ∙ (λ i. Some (record { space = n.space; local = spelled i }))))

pub good_name : (m : Bindings) (spaces : List (List ℕ)) (n : Name) → length spaces < 2 ^ 64 → Binds m spaces → is_lawful_name n ≡ true → Covered spaces n.space → IsGood m spaces n
unfolding name_chars
good_name m spaces n few binds lawful cover =
    let p : List ℕ = prefix_chars spaces n.space in
    let local : List ℕ = chars n.local in
    let parts = lawful_local n lawful in
    let is : IsPrefix p = prefixes_are spaces n.space few in
    let plain : has_colon p ≡ false = prefix_plain p is in
    let colonless : has_colon local ≡ false = no_colon local (name_chars_all local parts.1) in
    record {
      spelled = name_spelled spaces n few parts.0;
      lawful = name_of_parts p local is.named parts.1;
      once = ap has_colon (local_of p local plain colonless) ∙ colonless;
      found = resolved m p local n plain colonless (binds.found n.space cover) (encodes-chars n.local parts.0);
      bound = ap (is_bound m) (prefix_of p local plain colonless) ∙ binds.bound n.space cover;
    }

-- an attribute's name without a prefix is in no namespace, as it is where nothing is declared to be the default
as_element : (m : Bindings) (name : List ℕ) → space_at m [] ≡ None → attribute_name m name ≡ element_name m name
as_element m name none = by (has_colon name)
  where
    wide : Bool → Option Name
    wide b =
        let p : List ℕ = cond b (before_colon name) [] in
        option_map (named (cond b (drop (length (before_colon name) + 1) name) name)) (bound_space m p)

    by : (b : Bool) → cond b (wide b) (Some (named name [])) ≡ wide b
    by true = refl
    by false = ap (λ z. option_map (named name) (unwrap_or z (Some []))) (sym none)

words_agree : encodes xmlns_word ≡ xmlns_local
unfolding xmlns_word xmlns_local encode
words_agree = refl

not_xmlns : (n : Name) → IsUtf8 n.local → is_declaration n ≡ false → bytes_eq n.space [] ≡ true → bytes_eq (chars n.local) xmlns_word ≡ false
not_xmlns n u h g =
    false_from_ne_true (bytes_eq (chars n.local) xmlns_word) (λ same.
    let local : n.local ≡ xmlns_local = sym (encodes-chars n.local u) ∙ (ap encodes ((bytes_decides (chars n.local) xmlns_word).0 same) ∙ words_agree) in
    both_ways (is_declaration n) h (and_from (bytes_eq n.space []) (bytes_eq n.local xmlns_local) g ((bytes_decides n.local xmlns_local).1 local)))

pub good_attr : (m : Bindings) (spaces : List (List ℕ)) (a : Attr) → length spaces < 2 ^ 64 → Binds m spaces → is_lawful_attr a ≡ true → Covered spaces a.name.space → IsGoodAttr m spaces a
unfolding name_chars written
good_attr m spaces a few binds lawful cover =
    let whole = and_parts (is_lawful_name a.name && not (is_declaration a.name)) (is_xml_text a.value) lawful in
    let parts = and_parts (is_lawful_name a.name) (not (is_declaration a.name)) whole.0 in
    let local = lawful_local a.name parts.0 in
    let good : IsGood m spaces a.name = good_name m spaces a.name few binds parts.0 cover in
    record {
      name = good;
      plain = no_declaration (attribute_of spaces a) (prefix_chars spaces a.name.space) (chars a.name.local) refl (prefixes_are spaces a.name.space few)
          (no_colon (chars a.name.local) (name_chars_all (chars a.name.local) local.1))
          (λ e. not_xmlns a.name local.0 (not-true (is_declaration a.name) parts.1) (none_for_none spaces a.name.space e));
      named = as_element m (name_chars spaces a.name) binds.none ∙ good.found;
      value = whole.1;
    }

-- a declaration declares its prefix
pub declares : (i : ℕ) (s : List ℕ) → declared_prefix (written (declaration_name i) s) ≡ Some (110 ∷ decimal i)
unfolding written declaration_name xmlns_word
declares i s = refl

pub text_chars : (s : List ℕ) → is_xml_text s ≡ true → IsUtf8 s
unfolding is_xml_text
text_chars s h = IsUtf8-from_is_utf8 s (and_parts (is_utf8 s) (list_all is_xml_char (chars s)) h).0

pub value_back : (name s : List ℕ) → is_xml_text s ≡ true → value_of (written name s).value ≡ Some s
unfolding written
value_back name s h = value_is (chars s) ∙ ap (λ z. Some z) (encodes-chars s (text_chars s h))

pub declared_all : (i : ℕ) (spaces : List (List ℕ)) → list_all is_xml_text spaces ≡ true → filter_map declared (declarations_from i spaces) ≡ bindings_from i spaces
unfolding declarations_from bindings_from
declared_all i [] h = refl
declared_all i (s ∷ ss) h =
    let parts = and_parts (is_xml_text s) (list_all is_xml_text ss) h in
    ap (λ z. cons_option (option_map (λ p. (p, value_of (written (declaration_name i) s).value)) z) (filter_map declared (declarations_from (i + 1) ss))) (declares i s)
    ∙ (ap (λ z. (110 ∷ decimal i, z) ∷ filter_map declared (declarations_from (i + 1) ss)) (value_back (declaration_name i) s parts.0)
    ∙ ap (λ z. (110 ∷ decimal i, Some s) ∷ z) (declared_all (i + 1) ss parts.1))

-- all attributes are good
abbrev pub AreGood : Bindings → List (List ℕ) → List Attr → Type 0
AreGood m spaces [] = Unit {0}
AreGood m spaces (a ∷ more) = IsGoodAttr m spaces a × AreGood m spaces more

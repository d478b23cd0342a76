-- A document of the grammar that has no faults stands for a lawful tree.
use Rattle.std.proofs.Common.{◌≡◌, ℕ, ◌+◌, ◌<◌, ◌≤◌, Bool, true, false, not, ◌&&◌, cond, List, [], ◌∷◌, ◌++◌, length, refl, ap, sym, ◌∙◌, arith, subst, Some, unwrap_or, is_none, nat_le}
use Rattle.std.specs.List.{list_all}
use Rattle.std.proofs.lemmas.Bool.{and_parts, and_from, both_ways, not_from_false, leb-false, le-leb}
use lib.Utf8.{encode, encodes}
use Rattle.pws_tree.specs.Characters.{is_xml_char}
use Rattle.pws_tree.specs.Names.{is_lawful_name, is_lawful_attr, ascend, is_value}
use Rattle.pws_tree.specs.Lawful.{fits_name, has_qualified, is_one_qualified, levels, is_lawful_tag, are_lawful, is_lawful}
use Rattle.pws_tree.specs.Trees.{Nodes, NoNode, QualifiedThen, ElementThen}
use Rattle.pws_tree.specs.declared.texts.Name.{Name}
use Rattle.pws_tree.specs.declared.texts.Attr.{Attr}
use Rattle.pws_mark.specs.Documents.{Piece, Tag, Content, Nothing, Text, Section, Comment, Hollow, Element, spell_piece, spell_content, spell_prolog, section_start, section_end, comment_start, comment_end}
use Rattle.pws_mark.specs.Bindings.{Bindings, piece_char, is_char, bound_by, outermost, element_name}
use Rattle.pws_mark.specs.Tokens.{is_white, is_name, is_piece, is_text_char, is_attribute, has_within}
use Rattle.pws_mark.specs.Grammar.{is_tag, begins_with, is_content, is_misc, is_root, is_declaration}
use Rattle.pws_mark.specs.Meaning.{no_name, name_of, attrs_of, line_ends, with_text, char_text, name_within, qualified_in, nodes_in, first_tree}
use Rattle.pws_mark.specs.Faults.{Fault, if_wrong, piece_faults, is_wrong_name, attributes_faults, depth_faults, tag_faults, content_faults_of, is_value_name, element_faults, open_length, close_length, faults_in}
use Rattle.pws_mark.specs.declared.errors.MarkKind.TheVariants as kind
use Rattle.pws_mark.specs.LawfulMeanings.{MeaningsAreLawful}
use Rattle.pws_mark.proofs.LawfulTexts.{xml_of, xml_encode, line_end_xml, no_parts, not_wrong, GivesChar, piece_gives, text_may, line_ends_xml, IsLawfulAt, text_before}
use Rattle.pws_mark.proofs.LawfulNames.{AreLawful, outermost_lawful, IsResolved, resolves, AreRight, bound_lawful}
use Rattle.pws_mark.proofs.LawfulAttributes.{are_right, AreLawfulAttrs, attrs_lawful}
use Rattle.pws_mark.proofs.LawfulValues.{value_lawful}

-- What a tag without a fault stands for, where these bindings hold inside.
record IsTag (m : Bindings) (level : ℕ) (tag : Tag) : Type 0 where
  bindings : AreLawful m
  name : Name
  found : element_name m tag.name ≡ Some name
  lawful : is_lawful_name name ≡ true
  attrs : AreLawfulAttrs (attrs_of m tag)
  low : level < 64

not_deep : (level at : ℕ) (cs : List ℕ) → is_name cs ≡ true → depth_faults level at cs ≡ [] → level < 64
unfolding is_name
not_deep level at [] h g = absurd (both_ways false refl h)
not_deep level at (c ∷ cs) h g = leb-false 64 level (not_wrong (nat_le 64 level) kind.Depth at (at + (1 + length (encode c))) g)

is_tag_of : (here : Bindings) (level at end : ℕ) (tag : Tag) → AreLawful here → is_tag tag ≡ true → tag_faults (bound_by tag here) level at end tag ≡ [] → IsTag (bound_by tag here) level tag
is_tag_of here level at end tag h g none =
    let m : Bindings = bound_by tag here in
    let a = and_parts (is_name tag.name) (list_all is_attribute tag.attributes && list_all is_white tag.gap) g in
    let b = and_parts (list_all is_attribute tag.attributes) (list_all is_white tag.gap) a.1 in
    let behind : ℕ = at + (1 + length (encodes tag.name)) in
    let n0 = no_parts (depth_faults level at tag.name) (if_wrong (is_wrong_name m tag.name) kind.Prefix (at + 1) end ++ attributes_faults m end behind [] tag.attributes) none in
    let n1 = no_parts (if_wrong (is_wrong_name m tag.name) kind.Prefix (at + 1) end) (attributes_faults m end behind [] tag.attributes) n0.1 in
    let right : AreRight m [] tag.attributes = are_right m end behind [] tag.attributes b.0 n1.1 in
    let bindings : AreLawful m = bound_lawful m here [] tag h right in
    let r : IsResolved m tag.name = resolves m tag.name bindings a.0 (not_wrong (is_wrong_name m tag.name) kind.Prefix (at + 1) end n1.0) in
    record { bindings = bindings; name = r.as_name; found = r.found; lawful = r.lawful; attrs = attrs_lawful m tag bindings right; low = not_deep level at tag.name a.0 n0.0 }

-- What the content of an element stands for.
record FitsIn (n : Name) (level : ℕ) (x : Nodes) : Type 0 where
  fits : fits_name n x ≡ true
  lawful : are_lawful x ≡ true
  low : level + (levels x + 1) ≤ 64

abbrev children_of : Bindings → Bool → Content → Nodes
children_of m value c = cond value (QualifiedThen (qualified_in m c) NoNode) (nodes_in m false c)

fits_in : (m : Bindings) (level at inner_at end : ℕ) (tag : Tag) (c : Content) (t : IsTag m level tag) → element_faults m at inner_at end tag c ≡ [] → IsLawfulAt (level + 1) (nodes_in m false c) → FitsIn t.name level (children_of m (is_value t.name) c)
fits_in m level at inner_at end tag c t none inner =
    by (is_value t.name) refl (ap (λ z. cond (is_value_name z) (content_faults_of m at end (name_within inner_at c)) []) (sym t.found) ∙ none)
  where
    by : (b : Bool) → is_value t.name ≡ b → cond b (content_faults_of m at end (name_within inner_at c)) [] ≡ [] → FitsIn t.name level (children_of m b c)
    by true e g =
        record {
          fits = ap (λ z. cond z true false) e;
          lawful = and_from (is_lawful_name (qualified_in m c)) true (value_lawful m at inner_at end c t.bindings g) refl;
          low = omega (arith, t.low);
        }
    by false e g =
        record {
          fits = ap (λ z. cond z (is_one_qualified (nodes_in m false c)) (not (has_qualified (nodes_in m false c)))) e ∙ not_from_false (has_qualified (nodes_in m false c)) inner.plain;
          lawful = inner.lawful;
          low = omega (arith, inner.low);
        }

-- an element without a fault, and what follows it
element_lawful : (m : Bindings) (level : ℕ) (tag : Tag) (t : IsTag m level tag) (x rest : Nodes) → FitsIn t.name level x → IsLawfulAt level rest → IsLawfulAt level (ElementThen t.name (attrs_of m tag) x rest)
element_lawful m level tag t x rest inner more =
    let attrs : List Attr = attrs_of m tag in
    let named : is_lawful_tag t.name attrs x ≡ true =
    and_from (is_lawful_name t.name) (list_all is_lawful_attr attrs && (ascend attrs && fits_name t.name x)) t.lawful
    (and_from (list_all is_lawful_attr attrs) (ascend attrs && fits_name t.name x) t.attrs.lawful (and_from (ascend attrs) (fits_name t.name x) t.attrs.rising inner.fits)) in
    record {
      lawful = and_from (is_lawful_tag t.name attrs x && are_lawful x) (are_lawful rest) (and_from (is_lawful_tag t.name attrs x) (are_lawful x) named inner.lawful) more.lawful;
      plain = more.plain;
      low = omega (arith, inner.low, more.low);
    }

named_so : (m : Bindings) (level : ℕ) (tag : Tag) (t : IsTag m level tag) → name_of m tag.name ≡ t.name
unfolding name_of
named_so m level tag t = ap (λ z. unwrap_or z no_name) t.found

full_element : (m : Bindings) (level at inner_at end : ℕ) (tag : Tag) (c : Content) (rest : Nodes) → IsTag m level tag → element_faults m at inner_at end tag c ≡ [] → IsLawfulAt (level + 1) (nodes_in m false c) → IsLawfulAt level rest → IsLawfulAt level (ElementThen (name_of m tag.name) (attrs_of m tag) (children_of m (is_value (name_of m tag.name)) c) rest)
full_element m level at inner_at end tag c rest t none inner more =
    subst (λ z. IsLawfulAt level (ElementThen z (attrs_of m tag) (children_of m (is_value z) c) rest)) (sym (named_so m level tag t))
    (element_lawful m level tag t (children_of m (is_value t.name) c) rest (fits_in m level at inner_at end tag c t none inner) more)

-- an empty tag isn't that of a Value
hollow_fits : (m : Bindings) (level at end : ℕ) (tag : Tag) (t : IsTag m level tag) → element_faults m at end end tag Nothing ≡ [] → FitsIn t.name level NoNode
unfolding is_name
hollow_fits m level at end tag t none =
    by (is_value t.name) refl (ap (λ z. cond (is_value_name z) (content_faults_of m at end (name_within end Nothing)) []) (sym t.found) ∙ none)
  where
    no_fault : ◌≡◌ {A = List Fault} (record { kind = kind.Syntax; at = at; end = end } ∷ []) [] → ⊥
    no_fault i = cc

    by : (b : Bool) → is_value t.name ≡ b → cond b (content_faults_of m at end (name_within end Nothing)) [] ≡ [] → FitsIn t.name level NoNode
    by true e g = absurd (no_fault g)
    by false e g = record { fits = ap (λ z. cond z false true) e; lawful = refl; low = omega (arith, t.low) }

hollow_element : (m : Bindings) (level at end : ℕ) (tag : Tag) (rest : Nodes) → IsTag m level tag → element_faults m at end end tag Nothing ≡ [] → IsLawfulAt level rest → IsLawfulAt level (ElementThen (name_of m tag.name) (attrs_of m tag) NoNode rest)
hollow_element m level at end tag rest t none more =
    subst (λ z. IsLawfulAt level (ElementThen z (attrs_of m tag) NoNode rest)) (sym (named_so m level tag t))
    (element_lawful m level tag t NoNode rest (hollow_fits m level at end tag t none) more)

-- Content.
text_lawful : (m : Bindings) (level : ℕ) (after : Bool) (p : Piece) (rest : Content) → GivesChar p → ((ret : Bool) → IsLawfulAt level (nodes_in m ret rest)) → IsLawfulAt level (nodes_in m after (Text p rest))
text_lawful m level after p rest char more = by (is_char 13 p) (after && is_char 10 p)
  where
    given : IsLawfulAt level (with_text (char_text (piece_char p)) (nodes_in m false rest))
    given = subst (λ z. IsLawfulAt level (with_text (char_text z) (nodes_in m false rest))) (sym char.given) (text_before level (encode char.char) (nodes_in m false rest) (xml_encode char.char char.xml) (more false))

    by : (b d : Bool) → IsLawfulAt level (cond b (with_text (10 ∷ []) (nodes_in m true rest)) (cond d (nodes_in m false rest) (with_text (char_text (piece_char p)) (nodes_in m false rest))))
    by true d = text_before level (10 ∷ []) (nodes_in m true rest) line_end_xml (more true)
    by false true = more false
    by false false = given

content_lawful : (m : Bindings) (level at : ℕ) (c : Content) → AreLawful m → level ≤ 64 → is_content c ≡ true → faults_in m level at c ≡ [] → (after : Bool) → IsLawfulAt level (nodes_in m after c)
content_lawful m level at Nothing h low g none after = record { lawful = refl; plain = refl; low = omega arith }
content_lawful m level at (Text p rest) h low g none after =
    let a = and_parts (is_piece is_text_char p) (not (begins_with section_end (Text p rest)) && is_content rest) g in
    let b = and_parts (not (begins_with section_end (Text p rest))) (is_content rest) a.1 in
    let n = no_parts (piece_faults at p) (faults_in m level (at + length (spell_piece p)) rest) none in
    text_lawful m level after p rest (piece_gives is_text_char text_may p a.0 (not_wrong (is_none (piece_char p)) kind.Entity at (at + length (spell_piece p)) n.0)) (content_lawful m level (at + length (spell_piece p)) rest h low b.1 n.1)
content_lawful m level at (Section cs rest) h low g none after =
    let a = and_parts (list_all is_xml_char cs && not (has_within section_end cs)) (is_content rest) g in
    let b = and_parts (list_all is_xml_char cs) (not (has_within section_end cs)) a.0 in
    text_before level (encodes (line_ends false cs)) (nodes_in m false rest) (xml_of (line_ends false cs) (line_ends_xml false cs b.0)) (content_lawful m level (at + length (section_start ++ (encodes cs ++ section_end))) rest h low a.1 none false)
content_lawful m level at (Comment cs rest) h low g none after =
    let a = and_parts (list_all is_xml_char cs && not (has_within (45 ∷ 45 ∷ []) (cs ++ 45 ∷ []))) (is_content rest) g in
    content_lawful m level (at + length (comment_start ++ (encodes cs ++ comment_end))) rest h low a.1 none false
content_lawful m level at (Hollow tag rest) h low g none after =
    let inside : Bindings = bound_by tag m in
    let end : ℕ = at + (open_length tag + 1) in
    let a = and_parts (is_tag tag) (is_content rest) g in
    let n0 = no_parts (tag_faults inside level at end tag) (element_faults inside at end end tag Nothing ++ faults_in m level end rest) none in
    let n1 = no_parts (element_faults inside at end end tag Nothing) (faults_in m level end rest) n0.1 in
    hollow_element inside level at end tag (nodes_in m false rest) (is_tag_of m level at end tag h a.0 n0.0) n1.0 (content_lawful m level end rest h low a.1 n1.1 false)
content_lawful m level at (Element tag inner gap rest) h low g none after =
    let inside : Bindings = bound_by tag m in
    let inner_at : ℕ = at + open_length tag in
    let end : ℕ = inner_at + (length (spell_content inner) + close_length tag gap) in
    let a = and_parts (is_tag tag) (is_content inner && (list_all is_white gap && is_content rest)) g in
    let b = and_parts (is_content inner) (list_all is_white gap && is_content rest) a.1 in
    let d = and_parts (list_all is_white gap) (is_content rest) b.1 in
    let n0 = no_parts (tag_faults inside level at inner_at tag) (faults_in inside (level + 1) inner_at inner ++ (element_faults inside at inner_at end tag inner ++ faults_in m level end rest)) none in
    let n1 = no_parts (faults_in inside (level + 1) inner_at inner) (element_faults inside at inner_at end tag inner ++ faults_in m level end rest) n0.1 in
    let n2 = no_parts (element_faults inside at inner_at end tag inner) (faults_in m level end rest) n1.1 in
    let t : IsTag inside level tag = is_tag_of m level at inner_at tag h a.0 n0.0 in
    full_element inside level at inner_at end tag inner (nodes_in m false rest) t n2.0
    (content_lawful inside (level + 1) inner_at inner t.bindings (omega (arith, t.low)) b.0 n1.0 false) (content_lawful m level end rest h low d.1 n2.1 false)

-- Roots.
first_lawful : (n : Name) (attrs : List Attr) (x rest : Nodes) → IsLawfulAt 0 (ElementThen n attrs x rest) → is_lawful (record { name = n; attrs = attrs; children = x }) ≡ true
first_lawful n attrs x rest h =
    and_from (is_lawful_tag n attrs x && are_lawful x) (nat_le (levels x + 1) 64) (and_parts (is_lawful_tag n attrs x && are_lawful x) (are_lawful rest) h.lawful).0 (le-leb (levels x + 1) 64 (omega (arith, h.low)))

root_lawful : (c : Content) → is_root c ≡ true → IsLawfulAt 0 (nodes_in outermost false c) → is_lawful (first_tree (nodes_in outermost false c)) ≡ true
root_lawful Nothing h g = absurd (both_ways false refl h)
root_lawful (Text p rest) h g = absurd (both_ways false refl h)
root_lawful (Section cs rest) h g = absurd (both_ways false refl h)
root_lawful (Comment cs rest) h g = absurd (both_ways false refl h)
root_lawful (Hollow tag rest) h g = first_lawful _ _ _ _ g
root_lawful (Element tag inner gap rest) h g = first_lawful _ _ _ _ g

pub meanings : MeaningsAreLawful
meanings d h g =
    let a = and_parts (is_declaration d.declaration) (is_misc d.before && ((is_root d.root && is_content d.root) && is_misc d.after)) h in
    let b = and_parts (is_misc d.before) ((is_root d.root && is_content d.root) && is_misc d.after) a.1 in
    let c = and_parts (is_root d.root && is_content d.root) (is_misc d.after) b.1 in
    let e = and_parts (is_root d.root) (is_content d.root) c.0 in
    root_lawful d.root e.0 (content_lawful outermost 0 (length (spell_prolog d)) d.root outermost_lawful (omega arith) e.1 g false)

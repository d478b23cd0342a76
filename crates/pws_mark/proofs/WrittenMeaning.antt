-- The document of a canonical text stands for the tree.
use Rattle.std.proofs.Common.{◌≡◌, ℕ, ◌+◌, Bool, true, false, not, cond, List, [], ◌∷◌, ◌++◌, map, refl, ap, sym, ◌∙◌, rules, append_assoc, append-nil, Some, None, is_none, unwrap_or}
use Rattle.std.specs.List.{list_all, filter_map, cons_option}
use Rattle.std.specs.Str.{bytes_eq, chars}
use Rattle.std.specs.Cmp.{IsTotalOrder}
use Rattle.std.specs.Cmp.Rules.{comparing}
use Rattle.std.specs.Ordering.{is_lt, ordering_reverse}
use Rattle.std.specs.declared.cmp.Ordering.{Ordering}
use Rattle.std.specs.declared.cmp.Ordering.TheVariants.{Less, Equal, Greater}
use Rattle.std.proofs.lemmas.Bool.{and_parts, not-true}
use Rattle.std.proofs.lemmas.List.Elements.{filter_map-append}
use Rattle.std.proofs.lemmas.Str.{encodes-chars}
use lib.Utf8.{encode, encodes}
use Rattle.pws_tree.specs.Characters.{is_xml_text}
use Rattle.pws_tree.specs.Names.{name_cmp, ascend, is_value}
use Rattle.pws_tree.specs.Lawful.{starts_with_text, has_qualified, is_one_qualified, fits_name}
use Rattle.pws_tree.specs.Trees.{Tree, Nodes, NoNode, TextThen, QualifiedThen, ElementThen}
use Rattle.pws_tree.specs.declared.texts.Name.{Name}
use Rattle.pws_tree.specs.declared.texts.Attr.{Attr}
use Rattle.pws_mark.specs.Documents.{Attribute, Content}
use Rattle.pws_mark.specs.Bindings.{Bindings, value_of, bound_by, outermost, attribute_name}
use Rattle.pws_mark.specs.Values.{letters}
use Rattle.pws_mark.specs.Meaning.{no_name, attr_of, insert_attr, in_order, attrs_of, name_of, joined, with_text, qualified_in, nodes_in, first_tree, meaning}
use Rattle.pws_mark.proofs.ReadBack.{read_char, no_return}
use Rattle.pws_mark.proofs.PrefixTexts.{name_chars}
use Rattle.pws_mark.proofs.BoundPrefixes.{root_bindings}
use Rattle.pws_mark.proofs.WrittenDocument.{written, attribute_of, declaration_name, declarations_from, tag_of, text_then, content_of, document_with, IsGood, IsGoodAttr, AreGood, declares, value_back, text_chars}
use Rattle.pws_mark.proofs.GoodNodes.{IsGoodTag, AllGood, bound_inside, bound_outside}
use Rattle.pws_mark.proofs.WrittenValues.{one_word, letters_of}

-- Attributes.
name_total : IsTotalOrder name_cmp
name_total = search (comparing, rules)

not_back : (o back : Ordering) → o ≡ ordering_reverse back → is_lt o ≡ true → is_lt back ≡ false
not_back o Less e h = let f : is_lt o ≡ false = ap is_lt e in cc
not_back o Equal e h = refl
not_back o Greater e h = refl

in_order_already : (attrs : List Attr) → ascend attrs ≡ true → in_order attrs ≡ attrs
in_order_already [] h = refl
in_order_already (a ∷ []) h = refl
in_order_already (a ∷ b ∷ more) h =
    let parts = and_parts (is_lt (name_cmp a.name b.name)) (ascend (b ∷ more)) h in
    ap (insert_attr a) (in_order_already (b ∷ more) parts.1)
    ∙ ap (λ z. cond z (b ∷ insert_attr a more) (a ∷ b ∷ more)) (not_back (name_cmp a.name b.name) (name_cmp b.name a.name) (name_total.antisymm a.name b.name) parts.0)

attr_back : (m : Bindings) (spaces : List (List ℕ)) (a : Attr) → IsGoodAttr m spaces a → attr_of m (attribute_of spaces a) ≡ Some a
unfolding written
attr_back m spaces a h =
    ap (λ z. cond (is_none z) (Some (record { name = unwrap_or (attribute_name m (attribute_of spaces a).name) no_name; value = unwrap_or (value_of (attribute_of spaces a).value) [] })) None) h.plain
    ∙ (λ i. Some (record { name = unwrap_or (name_here i) no_name; value = unwrap_or (value_back (name_chars spaces a.name) a.value h.value i) [] }))
  where
    name_here : attribute_name m (attribute_of spaces a).name ≡ Some a.name
    name_here = h.named

attrs_back : (m : Bindings) (spaces : List (List ℕ)) (attrs : List Attr) → AreGood m spaces attrs → filter_map (attr_of m) (map (attribute_of spaces) attrs) ≡ attrs
attrs_back m spaces [] h = refl
attrs_back m spaces (a ∷ more) h =
    ap (λ z. cons_option z (filter_map (attr_of m) (map (attribute_of spaces) more))) (attr_back m spaces a h.0)
    ∙ ap (λ z. a ∷ z) (attrs_back m spaces more h.1)

declarations_none : (m : Bindings) (i : ℕ) (spaces : List (List ℕ)) → filter_map (attr_of m) (declarations_from i spaces) ≡ []
unfolding declarations_from
declarations_none m i [] = refl
declarations_none m i (s ∷ spaces) =
    ap (λ z. cons_option (cond (is_none z) (Some (record { name = unwrap_or (attribute_name m (written (declaration_name i) s).name) no_name; value = unwrap_or (value_of (written (declaration_name i) s).value) [] })) None) (filter_map (attr_of m) (declarations_from (i + 1) spaces))) (declares i s)
    ∙ declarations_none m (i + 1) spaces

tag_attrs : (m : Bindings) (spaces : List (List ℕ)) (declarations : List Attribute) (n : Name) (attrs : List Attr) → filter_map (attr_of m) declarations ≡ [] → AreGood m spaces attrs → ascend attrs ≡ true → attrs_of m (tag_of spaces declarations n attrs) ≡ attrs
unfolding attrs_of tag_of
tag_attrs m spaces declarations n attrs none h up =
    ap in_order
    (filter_map-append (attr_of m) declarations (map (attribute_of spaces) attrs)
    ∙ (ap (λ z. z ++ filter_map (attr_of m) (map (attribute_of spaces) attrs)) none ∙ attrs_back m spaces attrs h))
    ∙ in_order_already attrs up

name_back : (m : Bindings) (spaces : List (List ℕ)) (n : Name) → IsGood m spaces n → name_of m (name_chars spaces n) ≡ n
unfolding name_of
name_back m spaces n h = ap (λ z. unwrap_or z no_name) h.found

tag_name : (m : Bindings) (spaces : List (List ℕ)) (declarations : List Attribute) (n : Name) (attrs : List Attr) → IsGood m spaces n → name_of m (tag_of spaces declarations n attrs).name ≡ n
unfolding tag_of
tag_name m spaces declarations n attrs h = name_back m spaces n h

-- Texts.
joined_twice : (a b : List ℕ) (x : Nodes) → joined a (joined b x) ≡ joined (a ++ b) x
joined_twice a b NoNode = refl
joined_twice a b (TextThen u rest) = ap (λ z. TextThen z rest) (sym (append_assoc a b u))
joined_twice a b (QualifiedThen n rest) = refl
joined_twice a b (ElementThen n attrs inner rest) = refl

with_twice : (a b : List ℕ) (x : Nodes) → with_text a (with_text b x) ≡ with_text (a ++ b) x
unfolding with_text
with_twice [] b x = refl
with_twice (c ∷ a) [] x = ap (λ z. joined z x) (sym (append-nil (c ∷ a)))
with_twice (c ∷ a) (d ∷ b) x = joined_twice (c ∷ a) (d ∷ b) x

nothing_before : (x : Nodes) → x ≡ with_text [] x
unfolding with_text
nothing_before x = refl

text_back : (m : Bindings) (cs : List ℕ) (rest : Content) → nodes_in m false (text_then cs rest) ≡ with_text (encodes cs) (nodes_in m false rest)
text_back m [] rest = nothing_before (nodes_in m false rest)
text_back m (c ∷ cs) rest = rw (no_return c, read_char c, text_back m cs rest) (with_twice (encode c) (encodes cs) (nodes_in m false rest))

text_alone : (t : List ℕ) (x : Nodes) → bytes_eq t [] ≡ false → starts_with_text x ≡ false → with_text t x ≡ TextThen t x
unfolding with_text
text_alone [] x h g = cc
text_alone (c ∷ t) NoNode h g = refl
text_alone (c ∷ t) (TextThen u rest) h g = cc
text_alone (c ∷ t) (QualifiedThen n rest) h g = refl
text_alone (c ∷ t) (ElementThen n attrs inner rest) h g = refl

-- The content of Value.
value_within : (m : Bindings) (spaces : List (List ℕ)) (n : Name) → IsGood m spaces n → qualified_in m (content_of spaces (QualifiedThen n NoNode)) ≡ n
unfolding qualified_in content_of
value_within m spaces n h =
    ap (λ z. name_of m (letters (unwrap_or z []))) (one_word 0 (name_chars spaces n) h.lawful h.once)
    ∙ (ap (name_of m) (letters_of 0 (name_chars spaces n)) ∙ name_back m spaces n h)

value_inside : (m : Bindings) (spaces : List (List ℕ)) (x : Nodes) → AllGood m spaces x → is_one_qualified x ≡ true → QualifiedThen (qualified_in m (content_of spaces x)) NoNode ≡ x
value_inside m spaces NoNode h g = cc
value_inside m spaces (TextThen t rest) h g = cc
value_inside m spaces (QualifiedThen n NoNode) h g = ap (λ z. QualifiedThen z NoNode) (value_within m spaces n h.0)
value_inside m spaces (QualifiedThen n (TextThen t rest)) h g = cc
value_inside m spaces (QualifiedThen n (QualifiedThen o rest)) h g = cc
value_inside m spaces (QualifiedThen n (ElementThen o attrs inner rest)) h g = cc
value_inside m spaces (ElementThen n attrs inner rest) h g = cc

abbrev inner_of : Bindings → Name → Content → Nodes
inner_of m n c = cond (is_value n) (QualifiedThen (qualified_in m c) NoNode) (nodes_in m false c)

inner_back : (m : Bindings) (spaces : List (List ℕ)) (n : Name) (x : Nodes) → AllGood m spaces x → fits_name n x ≡ true → (has_qualified x ≡ false → nodes_in m false (content_of spaces x) ≡ x) → inner_of m n (content_of spaces x) ≡ x
inner_back m spaces n x h fits back = by (is_value n) fits
  where
    by : (b : Bool) → cond b (is_one_qualified x) (not (has_qualified x)) ≡ true → cond b (QualifiedThen (qualified_in m (content_of spaces x)) NoNode) (nodes_in m false (content_of spaces x)) ≡ x
    by true g = value_inside m spaces x h g
    by false g = back (not-true (has_qualified x) g)

-- an element of which the bindings are these
element_back : (m here : Bindings) (spaces : List (List ℕ)) (declarations : List Attribute) (n : Name) (attrs : List Attr) (x : Nodes) (rest_is rest : Nodes) → here ≡ m → filter_map (attr_of m) declarations ≡ [] → IsGoodTag m spaces n attrs x → AllGood m spaces x → (has_qualified x ≡ false → nodes_in m false (content_of spaces x) ≡ x) → rest_is ≡ rest → ElementThen (name_of here (tag_of spaces declarations n attrs).name) (attrs_of here (tag_of spaces declarations n attrs)) (inner_of here (name_of here (tag_of spaces declarations n attrs).name) (content_of spaces x)) rest_is ≡ ElementThen n attrs x rest
element_back m here spaces declarations n attrs x rest_is rest e none tag good back r =
    ap (λ z. ElementThen (name_of z (tag_of spaces declarations n attrs).name) (attrs_of z (tag_of spaces declarations n attrs)) (inner_of z (name_of z (tag_of spaces declarations n attrs).name) (content_of spaces x)) rest_is) e
    ∙ (ap (λ z. ElementThen z (attrs_of m (tag_of spaces declarations n attrs)) (inner_of m z (content_of spaces x)) rest_is) (tag_name m spaces declarations n attrs tag.name)
    ∙ (ap (λ z. ElementThen n z (inner_of m n (content_of spaces x)) rest_is) (tag_attrs m spaces declarations n attrs none tag.attributes tag.rising)
    ∙ (ap (λ z. ElementThen n attrs z rest_is) (inner_back m spaces n x good tag.fits back)
    ∙ ap (λ z. ElementThen n attrs x z) r)))

content_back : (m : Bindings) (spaces : List (List ℕ)) (x : Nodes) → AllGood m spaces x → has_qualified x ≡ false → nodes_in m false (content_of spaces x) ≡ x
unfolding content_of
content_back m spaces NoNode h q = refl
content_back m spaces (TextThen t rest) h q =
    let parts = and_parts (not (bytes_eq t [])) (is_xml_text t) h.0 in
    text_back m (chars t) (content_of spaces rest)
    ∙ (ap (λ z. with_text z (nodes_in m false (content_of spaces rest))) (encodes-chars t (text_chars t parts.1))
    ∙ (ap (with_text t) (content_back m spaces rest h.2 q)
    ∙ text_alone t rest (not-true (bytes_eq t []) parts.0) h.1))
content_back m spaces (QualifiedThen n rest) h q = cc
content_back m spaces (ElementThen n attrs inner rest) h q =
    element_back m (bound_by (tag_of spaces [] n attrs) m) spaces [] n attrs inner (nodes_in m false (content_of spaces rest)) rest (bound_inside m m spaces n attrs h.0.attributes) refl h.0 h.1 (content_back m spaces inner h.1) (content_back m spaces rest h.2 q)

pub document_back : (spaces : List (List ℕ)) (t : Tree) → list_all is_xml_text spaces ≡ true → IsGoodTag (root_bindings spaces) spaces t.name t.attrs t.children → AllGood (root_bindings spaces) spaces t.children → meaning (document_with spaces t) ≡ t
document_back spaces t texts tag good =
    let m : Bindings = root_bindings spaces in
    ap first_tree
    (element_back m (bound_by (tag_of spaces (declarations_from 0 spaces) t.name t.attrs) outermost) spaces (declarations_from 0 spaces) t.name t.attrs t.children NoNode NoNode
    (bound_outside m spaces t.name t.attrs texts tag.attributes) (declarations_none m 0 spaces) tag good (content_back m spaces t.children good) refl)

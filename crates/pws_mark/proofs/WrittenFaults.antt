-- The document of a canonical text has no fault.
use Rattle.std.proofs.Common.{◌≡◌, ℕ, ◌+◌, ◌<◌, ◌≤◌, ◌^◌, Bool, true, false, not, ◌&&◌, ◌||◌, cond, List, [], ◌∷◌, ◌++◌, map, length, refl, ap, sym, ◌∙◌, arith, rules, Some, None, Option, is_none}
use Rattle.std.specs.List.{list_any, list_all}
use Rattle.std.specs.Fmt.{decimal}
use Rattle.std.specs.Str.{bytes_eq, chars}
use Rattle.std.specs.Cmp.{IsTotalOrder}
use Rattle.std.specs.Cmp.Rules.{comparing}
use Rattle.std.specs.Cmp.Lexicographic.{bytes_decides}
use Rattle.std.specs.Ordering.{is_lt, ordering_reverse}
use Rattle.std.specs.declared.cmp.Ordering.{Ordering}
use Rattle.std.specs.declared.cmp.Ordering.TheVariants.{Less, Equal, Greater}
use Rattle.std.proofs.lemmas.Bool.{and_parts, or_from, not-true, false_from_ne_true, lt-leb}
use Rattle.std.proofs.lemmas.Fmt.{decimal_injective}
use lib.Utf8.{encode, encodes}
use Rattle.pws_tree.specs.Characters.{is_xml_text}
use Rattle.pws_tree.specs.Names.{name_cmp, ascend, is_value, xmlns_space}
use Rattle.pws_tree.specs.Lawful.{is_one_qualified, fits_name, levels, has_qualified, tree_depth}
use Rattle.pws_tree.specs.Trees.{Tree, Nodes, NoNode, TextThen, QualifiedThen, ElementThen}
use Rattle.pws_tree.specs.declared.texts.Name.{Name}
use Rattle.pws_tree.specs.declared.texts.Attr.{Attr}
use Rattle.pws_mark.specs.Canonical.{xml_space, xml_word, needs_prefix}
use Rattle.pws_mark.specs.Documents.{Char, Attribute, Tag, Content, spell_piece, spell_attribute, spell_content}
use Rattle.pws_mark.specs.Bindings.{Bindings, xmlns_word, value_of, has_two_colons, written_prefix, declared_prefix, bound_by, outermost, is_bound, bound_name, attribute_name, same_name, are_twice, element_name, is_wrong_declaration}
use Rattle.pws_mark.specs.Values.{placed}
use Rattle.pws_mark.specs.Meaning.{name_within}
use Rattle.pws_mark.specs.Faults.{Fault, if_wrong, value_faults, is_wrong_name, is_wrong_attribute, attributes_faults, depth_faults, tag_faults, first_place, content_faults_of, is_value_name, element_faults, open_length, close_length, faults_in, faults}
use Rattle.pws_mark.specs.declared.errors.MarkKind.TheVariants as kind
use Rattle.pws_mark.proofs.Escapes.{text_piece}
use Rattle.pws_mark.proofs.ReadBack.{read_char}
use Rattle.pws_mark.proofs.ValueReadBack as value
use Rattle.pws_mark.proofs.ValueReadBack.{value_piece}
use Rattle.pws_mark.proofs.PlainNames.{decimal_chars, no_colon}
use Rattle.pws_mark.proofs.PrefixTexts.{name_chars}
use Rattle.pws_mark.proofs.BoundPrefixes.{root_bindings}
use Rattle.pws_mark.proofs.WrittenDocument.{written, attribute_of, declaration_name, declarations_from, tag_of, text_then, name_then, content_of, document_with, IsGood, IsGoodAttr, AreGood, declares, value_back}
use Rattle.pws_mark.proofs.GoodNodes.{may_declare, IsGoodTag, AllGood, bound_inside, bound_outside}
use Rattle.pws_mark.proofs.WrittenValues.{one_word, letters_of}

-- Values and texts.
pieces_faultless : (at : ℕ) (cs : List ℕ) → value_faults at (map value_piece cs) ≡ []
pieces_faultless at [] = refl
pieces_faultless at (c ∷ cs) =
    ap (λ z. if_wrong (is_none z) kind.Entity at (at + length (spell_piece (value_piece c))) ++ value_faults (at + length (spell_piece (value_piece c))) (map value_piece cs)) (value.read_char c)
    ∙ pieces_faultless (at + length (spell_piece (value_piece c))) cs

value_faultless : (at : ℕ) (name bytes : List ℕ) → value_faults at (written name bytes).value ≡ []
unfolding written
value_faultless at name bytes = pieces_faultless at (chars bytes)

text_faultless : (m : Bindings) (level at : ℕ) (cs : List ℕ) (rest : Content) → ((at : ℕ) → faults_in m level at rest ≡ []) → faults_in m level at (text_then cs rest) ≡ []
text_faultless m level at [] rest h = h at
text_faultless m level at (c ∷ cs) rest h =
    ap (λ z. if_wrong (is_none z) kind.Entity at (at + length (spell_piece (text_piece c))) ++ faults_in m level (at + length (spell_piece (text_piece c))) (text_then cs rest)) (read_char c)
    ∙ text_faultless m level (at + length (spell_piece (text_piece c))) cs rest h

name_faultless : (m : Bindings) (level at : ℕ) (cs : List ℕ) (rest : Content) → ((at : ℕ) → faults_in m level at rest ≡ []) → faults_in m level at (name_then cs rest) ≡ []
name_faultless m level at [] rest h = h at
name_faultless m level at (c ∷ cs) rest h = name_faultless m level (at + length (spell_piece (Char c))) cs rest h

-- Attributes without a fault, each after those that are seen.
abbrev AreFaultless : Bindings → List Attribute → List Attribute → Type 0
AreFaultless m seen [] = Unit {0}
AreFaultless m seen (a ∷ more) = (is_wrong_attribute m a (declared_prefix a) ≡ false) × (list_any (are_twice m a) seen ≡ false) × ((at : ℕ) → value_faults at a.value ≡ []) × AreFaultless m (a ∷ seen) more

attributes_faultless : (m : Bindings) (end at : ℕ) (seen attributes : List Attribute) → AreFaultless m seen attributes → attributes_faults m end at seen attributes ≡ []
attributes_faultless m end at seen [] h = refl
attributes_faultless m end at seen (a ∷ more) h =
    let name_at : ℕ = at + length (encodes a.gap) in
    let value_at : ℕ = name_at + (length (encodes a.name) + (length (encodes a.before) + (length (encodes a.after) + 2))) in
    ap (λ z. if_wrong z kind.Prefix name_at end ++ (if_wrong (list_any (are_twice m a) seen) kind.Twice name_at end ++ (value_faults value_at a.value ++ attributes_faults m end (at + length (spell_attribute a)) (a ∷ seen) more))) h.0
    ∙ (ap (λ z. if_wrong z kind.Twice name_at end ++ (value_faults value_at a.value ++ attributes_faults m end (at + length (spell_attribute a)) (a ∷ seen) more)) h.1
    ∙ (ap (λ z. z ++ attributes_faults m end (at + length (spell_attribute a)) (a ∷ seen) more) (h.2 value_at)
    ∙ attributes_faultless m end (at + length (spell_attribute a)) (a ∷ seen) more h.3))

-- Attributes that aren't declarations.
name_right : (m : Bindings) (spaces : List (List ℕ)) (n : Name) → IsGood m spaces n → is_wrong_name m (name_chars spaces n) ≡ false
name_right m spaces n h = or_from (has_two_colons (name_chars spaces n)) (not (is_bound m (written_prefix (name_chars spaces n)))) h.once (ap not h.bound)

attribute_right : (m : Bindings) (spaces : List (List ℕ)) (a : Attr) → IsGoodAttr m spaces a → is_wrong_attribute m (attribute_of spaces a) (declared_prefix (attribute_of spaces a)) ≡ false
unfolding written
attribute_right m spaces a h = ap (is_wrong_attribute m (attribute_of spaces a)) h.plain ∙ name_right m spaces a.name h.name

bound_as : (m : Bindings) (spaces : List (List ℕ)) (a : Attr) → IsGoodAttr m spaces a → bound_name m (attribute_of spaces a) ≡ Some a.name
unfolding written
bound_as m spaces a h = ap (λ z. cond (is_none z) (attribute_name m (name_chars spaces a.name)) None) h.plain ∙ h.named

some_name : Option Name → Name → Name
some_name None n = n
some_name (Some o) n = o

other_names : (m : Bindings) (spaces : List (List ℕ)) (a b : Attr) → IsGoodAttr m spaces a → IsGoodAttr m spaces b → (a.name ≡ b.name → ⊥) → are_twice m (attribute_of spaces a) (attribute_of spaces b) ≡ false
unfolding written some_name
other_names m spaces a b h g apart =
    or_from (bytes_eq (name_chars spaces a.name) (name_chars spaces b.name)) (same_name (bound_name m (attribute_of spaces a)) (bound_name m (attribute_of spaces b)))
    (false_from_ne_true (bytes_eq (name_chars spaces a.name) (name_chars spaces b.name)) (λ e.
    let names : Some a.name ≡ Some b.name = sym h.named ∙ (ap (attribute_name m) ((bytes_decides (name_chars spaces a.name) (name_chars spaces b.name)).0 e) ∙ g.named) in
    apart (ap (λ z. some_name z a.name) names)))
    (ap (λ z. same_name z (bound_name m (attribute_of spaces b))) (bound_as m spaces a h)
    ∙ (ap (same_name (Some a.name)) (bound_as m spaces b g)
    ∙ false_from_ne_true (bytes_eq a.name.space b.name.space && bytes_eq a.name.local b.name.local) (λ e.
    let parts = and_parts (bytes_eq a.name.space b.name.space) (bytes_eq a.name.local b.name.local) e in
    let space : a.name.space ≡ b.name.space = (bytes_decides a.name.space b.name.space).0 parts.0 in
    let local : a.name.local ≡ b.name.local = (bytes_decides a.name.local b.name.local).0 parts.1 in
    apart (λ i. record { space = space i; local = local i }))))

-- none of these attributes is there twice, after those that are seen
abbrev AreClear : Bindings → List (List ℕ) → List Attribute → List Attr → Type 0
AreClear m spaces seen [] = Unit {0}
AreClear m spaces seen (b ∷ more) = (list_any (are_twice m (attribute_of spaces b)) seen ≡ false) × AreClear m spaces seen more

abbrev AreOther : Attr → List Attr → Type 0
AreOther a [] = Unit {0}
AreOther a (b ∷ more) = (b.name ≡ a.name → ⊥) × AreOther a more

clear_more : (m : Bindings) (spaces : List (List ℕ)) (a : Attr) (seen : List Attribute) (attrs : List Attr) → IsGoodAttr m spaces a → AreGood m spaces attrs → AreOther a attrs → AreClear m spaces seen attrs → AreClear m spaces (attribute_of spaces a ∷ seen) attrs
clear_more m spaces a seen [] h good other clear = tt
clear_more m spaces a seen (b ∷ more) h good other clear =
    (or_from (are_twice m (attribute_of spaces b) (attribute_of spaces a)) (list_any (are_twice m (attribute_of spaces b)) seen) (other_names m spaces b a good.0 h other.0) clear.0, clear_more m spaces a seen more h good.1 other.1 clear.1)

name_total : IsTotalOrder name_cmp
name_total = search (comparing, rules)

less_of : (o : Ordering) → is_lt o ≡ true → o ≡ Less
less_of Less h = refl
less_of Equal h = cc
less_of Greater h = cc

never_less : (o : Ordering) → o ≡ ordering_reverse o → o ≡ Less → ⊥
never_less Less e h = cc
never_less Equal e h = cc
never_less Greater e h = cc

differ : (n o : Name) → name_cmp n o ≡ Less → (o ≡ n → ⊥)
differ n o h e = never_less (name_cmp n n) (name_total.antisymm n n) (ap (name_cmp n) (sym e) ∙ h)

others_above : (n : Name) (a : Attr) (more : List Attr) → name_cmp n a.name ≡ Less → ascend (a ∷ more) ≡ true → (c : Attr) → c.name ≡ n → AreOther c (a ∷ more)
others_above n a [] h up c e = (λ g. differ n a.name h (g ∙ e), tt)
others_above n a (b ∷ more) h up c e =
    let parts = and_parts (is_lt (name_cmp a.name b.name)) (ascend (b ∷ more)) up in
    (λ g. differ n a.name h (g ∙ e), others_above n b more (name_total.trans n a.name b.name h (less_of (name_cmp a.name b.name) parts.0)) parts.1 c e)

all_other : (a : Attr) (more : List Attr) → ascend (a ∷ more) ≡ true → AreOther a more
all_other a [] up = tt
all_other a (b ∷ more) up =
    let parts = and_parts (is_lt (name_cmp a.name b.name)) (ascend (b ∷ more)) up in
    others_above a.name b more (less_of (name_cmp a.name b.name) parts.0) parts.1 a refl

rest_up : (a : Attr) (more : List Attr) → ascend (a ∷ more) ≡ true → ascend more ≡ true
rest_up a [] up = refl
rest_up a (b ∷ more) up = (and_parts (is_lt (name_cmp a.name b.name)) (ascend (b ∷ more)) up).1

good_faultless : (m : Bindings) (spaces : List (List ℕ)) (seen : List Attribute) (attrs : List Attr) → AreGood m spaces attrs → ascend attrs ≡ true → AreClear m spaces seen attrs → AreFaultless m seen (map (attribute_of spaces) attrs)
good_faultless m spaces seen [] h up clear = tt
good_faultless m spaces seen (a ∷ more) h up clear = (
  attribute_right m spaces a h.0,
  clear.0,
  λ at. value_faultless at (name_chars spaces a.name) a.value,
  good_faultless m spaces (attribute_of spaces a ∷ seen) more h.1 (rest_up a more up) (clear_more m spaces a seen more h.0 h.1 (all_other a more up) clear.1),
)

nothing_seen : (m : Bindings) (spaces : List (List ℕ)) (attrs : List Attr) → AreClear m spaces [] attrs
nothing_seen m spaces [] = tt
nothing_seen m spaces (a ∷ more) = (refl, nothing_seen m spaces more)

-- Declarations.
one_colon : (i : ℕ) (s : List ℕ) → i < 2 ^ 64 → has_two_colons (written (declaration_name i) s).name ≡ false
unfolding written declaration_name
one_colon i s low = no_colon (decimal i) (decimal_chars i low)

declaration_right : (m : Bindings) (i : ℕ) (s : List ℕ) → i < 2 ^ 64 → is_xml_text s ≡ true → may_declare s ≡ true → is_wrong_attribute m (written (declaration_name i) s) (declared_prefix (written (declaration_name i) s)) ≡ false
unfolding xmlns_word xml_word
declaration_right m i s low text may =
    let whole = and_parts (needs_prefix s) (is_xml_text s && not (bytes_eq s xmlns_space)) may in
    let need = and_parts (not (bytes_eq s [])) (not (bytes_eq s xml_space)) whole.0 in
    let not_xmlns = (and_parts (is_xml_text s) (not (bytes_eq s xmlns_space)) whole.1).1 in
    ap (is_wrong_attribute m (written (declaration_name i) s)) (declares i s)
    ∙ or_from (has_two_colons (written (declaration_name i) s).name) (is_wrong_declaration (110 ∷ decimal i) (value_of (written (declaration_name i) s).value)) (one_colon i s low)
    (ap (is_wrong_declaration (110 ∷ decimal i)) (value_back (declaration_name i) s text)
    ∙ or_from (bytes_eq s xml_space) (bytes_eq s xmlns_space || bytes_eq s []) (not-true (bytes_eq s xml_space) need.1)
    (or_from (bytes_eq s xmlns_space) (bytes_eq s []) (not-true (bytes_eq s xmlns_space) not_xmlns) (not-true (bytes_eq s []) need.0)))

-- a declaration isn't there twice after those before
abbrev IsAhead : Bindings → ℕ → List Attribute → Type 0
IsAhead m i seen = (j : ℕ) (s : List ℕ) → i ≤ j → j < 2 ^ 64 → list_any (are_twice m (written (declaration_name j) s)) seen ≡ false

unbound : (m : Bindings) (i : ℕ) (s : List ℕ) → bound_name m (written (declaration_name i) s) ≡ None
unbound m i s = ap (λ z. cond (is_none z) (attribute_name m (written (declaration_name i) s).name) None) (declares i s)

declared_apart : (m : Bindings) (i j : ℕ) (s t : List ℕ) → i < j → j < 2 ^ 64 → are_twice m (written (declaration_name j) t) (written (declaration_name i) s) ≡ false
unfolding written declaration_name
declared_apart m i j s t below low =
    or_from (bytes_eq (decimal j) (decimal i)) (same_name (bound_name m (written (declaration_name j) t)) (bound_name m (written (declaration_name i) s)))
    (false_from_ne_true (bytes_eq (decimal j) (decimal i)) (λ e. let same : j ≡ i = decimal_injective j i low (omega arith) ((bytes_decides (decimal j) (decimal i)).0 e) in absurd (omega arith)))
    (ap (λ z. same_name z (bound_name m (written (declaration_name i) s))) (unbound m j t))

ahead_more : (m : Bindings) (i : ℕ) (s : List ℕ) (seen : List Attribute) → IsAhead m i seen → IsAhead m (i + 1) (written (declaration_name i) s ∷ seen)
ahead_more m i s seen h j t above low =
    or_from (are_twice m (written (declaration_name j) t) (written (declaration_name i) s)) (list_any (are_twice m (written (declaration_name j) t)) seen) (declared_apart m i j s t (omega arith) low) (h j t (omega arith) low)

attribute_apart : (m : Bindings) (spaces : List (List ℕ)) (a : Attr) (i : ℕ) (s : List ℕ) → IsGoodAttr m spaces a → are_twice m (attribute_of spaces a) (written (declaration_name i) s) ≡ false
unfolding written
attribute_apart m spaces a i s h =
    or_from (bytes_eq (name_chars spaces a.name) (declaration_name i)) (same_name (bound_name m (attribute_of spaces a)) (bound_name m (written (declaration_name i) s)))
    (false_from_ne_true (bytes_eq (name_chars spaces a.name) (declaration_name i)) (λ e.
    let same : None ≡ Some (110 ∷ decimal i) = sym h.plain ∙ (ap (λ z. declared_prefix (written z a.value)) ((bytes_decides (name_chars spaces a.name) (declaration_name i)).0 e) ∙ declares i a.value) in
    cc))
    (ap (same_name (bound_name m (attribute_of spaces a))) (unbound m i s) ∙ ap (λ z. same_name z None) (bound_as m spaces a h))

clear_declaration : (m : Bindings) (spaces : List (List ℕ)) (i : ℕ) (s : List ℕ) (seen : List Attribute) (attrs : List Attr) → AreGood m spaces attrs → AreClear m spaces seen attrs → AreClear m spaces (written (declaration_name i) s ∷ seen) attrs
clear_declaration m spaces i s seen [] h clear = tt
clear_declaration m spaces i s seen (b ∷ more) h clear =
    (or_from (are_twice m (attribute_of spaces b) (written (declaration_name i) s)) (list_any (are_twice m (attribute_of spaces b)) seen) (attribute_apart m spaces b i s h.0) clear.0, clear_declaration m spaces i s seen more h.1 clear.1)

declarations_faultless : (m : Bindings) (all : List (List ℕ)) (i : ℕ) (spaces : List (List ℕ)) (seen : List Attribute) (attrs : List Attr) → i + length spaces < 2 ^ 64 → list_all is_xml_text spaces ≡ true → list_all may_declare spaces ≡ true → IsAhead m i seen → AreClear m all seen attrs → AreGood m all attrs → ascend attrs ≡ true → AreFaultless m seen (declarations_from i spaces ++ map (attribute_of all) attrs)
unfolding declarations_from
declarations_faultless m all i [] seen attrs few texts may ahead clear good up = good_faultless m all seen attrs good up clear
declarations_faultless m all i (s ∷ spaces) seen attrs few texts may ahead clear good up =
    let text = and_parts (is_xml_text s) (list_all is_xml_text spaces) texts in
    let can = and_parts (may_declare s) (list_all may_declare spaces) may in (
      declaration_right m i s (omega arith) text.0 can.0,
      ahead i s (omega arith) (omega arith),
      λ at. value_faultless at (declaration_name i) s,
      declarations_faultless m all (i + 1) spaces (written (declaration_name i) s ∷ seen) attrs (omega arith) text.1 can.1 (ahead_more m i s seen ahead) (clear_declaration m all i s seen attrs good clear) good up,
    )

-- Tags.
not_deep : (level at : ℕ) (cs : List ℕ) → level < 64 → depth_faults level at cs ≡ []
not_deep level at [] h = refl
not_deep level at (c ∷ cs) h = ap (λ z. if_wrong z kind.Depth at (at + (1 + length (encode c)))) (lt-leb 64 level h)

tag_faultless : (m : Bindings) (level at end : ℕ) (tag : Tag) → level < 64 → is_wrong_name m tag.name ≡ false → AreFaultless m [] tag.attributes → tag_faults m level at end tag ≡ []
tag_faultless m level at end tag low right h =
    ap (λ z. z ++ (if_wrong (is_wrong_name m tag.name) kind.Prefix (at + 1) end ++ attributes_faults m end (at + (1 + length (encodes tag.name))) [] tag.attributes)) (not_deep level at tag.name low)
    ∙ (ap (λ z. if_wrong z kind.Prefix (at + 1) end ++ attributes_faults m end (at + (1 + length (encodes tag.name))) [] tag.attributes) right
    ∙ attributes_faultless m end (at + (1 + length (encodes tag.name))) [] tag.attributes h)

-- The content of Value.
value_within : (m : Bindings) (spaces : List (List ℕ)) (at inner_at end : ℕ) (x : Nodes) → AllGood m spaces x → is_one_qualified x ≡ true → content_faults_of m at end (name_within inner_at (content_of spaces x)) ≡ []
unfolding content_of
value_within m spaces at inner_at end NoNode h g = cc
value_within m spaces at inner_at end (TextThen t rest) h g = cc
value_within m spaces at inner_at end (QualifiedThen n NoNode) h g =
    ap (content_faults_of m at end) (one_word inner_at (name_chars spaces n) h.0.lawful h.0.once)
    ∙ (ap (λ z. if_wrong (not (is_bound m (written_prefix z))) kind.Prefix (first_place (placed inner_at (name_chars spaces n))) end) (letters_of inner_at (name_chars spaces n))
    ∙ ap (λ z. if_wrong (not z) kind.Prefix (first_place (placed inner_at (name_chars spaces n))) end) h.0.bound)
value_within m spaces at inner_at end (QualifiedThen n (TextThen t rest)) h g = cc
value_within m spaces at inner_at end (QualifiedThen n (QualifiedThen o rest)) h g = cc
value_within m spaces at inner_at end (QualifiedThen n (ElementThen o attrs inner rest)) h g = cc
value_within m spaces at inner_at end (ElementThen n attrs inner rest) h g = cc

inside_faultless : (m : Bindings) (spaces : List (List ℕ)) (at inner_at end : ℕ) (tag : Tag) (n : Name) (x : Nodes) → element_name m tag.name ≡ Some n → fits_name n x ≡ true → AllGood m spaces x → element_faults m at inner_at end tag (content_of spaces x) ≡ []
inside_faultless m spaces at inner_at end tag n x found fits h =
    ap (λ z. cond (is_value_name z) (content_faults_of m at end (name_within inner_at (content_of spaces x))) []) found ∙ by (is_value n) fits
  where
    by : (b : Bool) → cond b (is_one_qualified x) (not (has_qualified x)) ≡ true → cond b (content_faults_of m at end (name_within inner_at (content_of spaces x))) [] ≡ []
    by true g = value_within m spaces at inner_at end x h g
    by false g = refl

-- an element where these bindings hold inside, and then what follows it
element_faultless : (m here : Bindings) (spaces : List (List ℕ)) (level at end : ℕ) (tag : Tag) (n : Name) (x : Nodes) (after : List Fault) → here ≡ m → level < 64 → is_wrong_name m tag.name ≡ false → AreFaultless m [] tag.attributes → element_name m tag.name ≡ Some n → fits_name n x ≡ true → AllGood m spaces x → faults_in m (level + 1) (at + open_length tag) (content_of spaces x) ≡ [] → after ≡ [] → tag_faults here level at (at + open_length tag) tag ++ (faults_in here (level + 1) (at + open_length tag) (content_of spaces x) ++ (element_faults here at (at + open_length tag) end tag (content_of spaces x) ++ after)) ≡ []
element_faultless m here spaces level at end tag n x after e low right h found fits good inner rest =
    ap (λ z. tag_faults z level at (at + open_length tag) tag ++ (faults_in z (level + 1) (at + open_length tag) (content_of spaces x) ++ (element_faults z at (at + open_length tag) end tag (content_of spaces x) ++ after))) e
    ∙ (ap (λ z. z ++ (faults_in m (level + 1) (at + open_length tag) (content_of spaces x) ++ (element_faults m at (at + open_length tag) end tag (content_of spaces x) ++ after))) (tag_faultless m level at (at + open_length tag) tag low right h)
    ∙ (ap (λ z. z ++ (element_faults m at (at + open_length tag) end tag (content_of spaces x) ++ after)) inner
    ∙ (ap (λ z. z ++ after) (inside_faultless m spaces at (at + open_length tag) end tag n x found fits good) ∙ rest)))

pub content_faultless : (m : Bindings) (spaces : List (List ℕ)) (x : Nodes) → AllGood m spaces x → (level at : ℕ) → level + levels x ≤ 64 → faults_in m level at (content_of spaces x) ≡ []
unfolding content_of tag_of
content_faultless m spaces NoNode h level at low = refl
content_faultless m spaces (TextThen t rest) h level at low = text_faultless m level at (chars t) (content_of spaces rest) (λ at. content_faultless m spaces rest h.2 level at low)
content_faultless m spaces (QualifiedThen n rest) h level at low = name_faultless m level at (name_chars spaces n) (content_of spaces rest) (λ at. content_faultless m spaces rest h.1 level at low)
content_faultless m spaces (ElementThen n attrs inner rest) h level at low =
    let tag : Tag = tag_of spaces [] n attrs in
    let end : ℕ = at + open_length tag + (length (spell_content (content_of spaces inner)) + close_length tag []) in
    element_faultless m (bound_by tag m) spaces level at end tag n inner (faults_in m level end (content_of spaces rest)) (bound_inside m m spaces n attrs h.0.attributes) (omega arith)
    (name_right m spaces n h.0.name) (good_faultless m spaces [] attrs h.0.attributes h.0.rising (nothing_seen m spaces attrs)) h.0.name.found h.0.fits h.1
    (content_faultless m spaces inner h.1 (level + 1) (at + open_length tag) (omega arith)) (content_faultless m spaces rest h.2 level end (omega arith))

pub document_faultless : (spaces : List (List ℕ)) (t : Tree) → length spaces < 2 ^ 64 → list_all is_xml_text spaces ≡ true → list_all may_declare spaces ≡ true → tree_depth t ≤ 64 → IsGoodTag (root_bindings spaces) spaces t.name t.attrs t.children → AllGood (root_bindings spaces) spaces t.children → faults (document_with spaces t) ≡ []
unfolding tag_of
document_faultless spaces t few texts may low good inner =
    let m : Bindings = root_bindings spaces in
    let tag : Tag = tag_of spaces (declarations_from 0 spaces) t.name t.attrs in
    let end : ℕ = 0 + open_length tag + (length (spell_content (content_of spaces t.children)) + close_length tag []) in
    element_faultless m (bound_by tag outermost) spaces 0 0 end tag t.name t.children [] (bound_outside m spaces t.name t.attrs texts good.attributes) (omega arith)
    (name_right m spaces t.name good.name)
    (declarations_faultless m spaces 0 spaces [] t.attrs (omega arith) texts may (λ j s above low. refl) (nothing_seen m spaces t.attrs) good.attributes good.rising)
    good.name.found good.fits inner (content_faultless m spaces t.children inner (0 + 1) (0 + open_length tag) (omega arith)) refl

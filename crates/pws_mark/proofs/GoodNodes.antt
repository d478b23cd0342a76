-- What is known of all names and attributes of a lawful tree, and the bindings that its document makes.
use Rattle.std.proofs.Common.{◌≡◌, ℕ, ◌+◌, ◌<◌, ◌≤◌, ◌^◌, Bool, true, false, not, ◌&&◌, ◌||◌, cond, List, [], ◌∷◌, ◌++◌, map, fold, length, refl, ap, ◌∙◌, arith, Some, option_map, filter, append-nil, length-append}
use Rattle.std.specs.List.{list_any, list_all, filter_map, flat_map, enumerate_from, cons_option}
use Rattle.std.specs.Fmt.{decimal}
use Rattle.std.specs.Str.{bytes_eq}
use Rattle.std.specs.Cmp.Lexicographic.{bytes_decides}
use Rattle.std.proofs.lemmas.Bool.{and_parts, and_from, not-true, or_left, or_right}
use Rattle.std.proofs.lemmas.List.Elements.{filter_map-append}
use Rattle.std.proofs.lemmas.List.Folds.{list_any-append, list_all-append}
use Rattle.pws_tree.specs.Characters.{is_xml_text, is_local_name}
use Rattle.pws_tree.specs.Names.{is_lawful_name, is_lawful_attr, is_declaration, xmlns_space, ascend}
use Rattle.pws_tree.specs.Lawful.{is_lawful_text, is_lawful_tag, are_lawful, starts_with_text, fits_name}
use Rattle.pws_tree.specs.Trees.{Nodes, NoNode, TextThen, QualifiedThen, ElementThen}
use Rattle.pws_tree.specs.declared.texts.Name.{Name}
use Rattle.pws_tree.specs.declared.texts.Attr.{Attr}
use Rattle.pws_mark.specs.Canonical.{xml_word, needs_prefix, with_space, tag_uses, uses, declaration_text, declarations_text, declaration_word}
use Rattle.pws_mark.specs.Bindings.{Bindings, xmlns_word, value_of, declared, bound_by, outermost}
use Rattle.pws_mark.proofs.BoundPrefixes.{Covered, Binds, bindings_from, root_bindings}
use Rattle.pws_mark.proofs.WrittenDocument.{attribute_of, declarations_from, tag_of, IsGood, AreGood, good_name, good_attr, declared_all}

-- Each of these namespaces has a prefix, where it needs one.
abbrev pub AllCovered : List (List ℕ) → List (List ℕ) → Type 0
AllCovered spaces [] = Unit {0}
AllCovered spaces (u ∷ us) = Covered spaces u × AllCovered spaces us

pub covered_first : (spaces us vs : List (List ℕ)) → AllCovered spaces (us ++ vs) → AllCovered spaces us
covered_first spaces [] vs h = tt
covered_first spaces (u ∷ us) vs h = (h.0, covered_first spaces us vs h.1)

pub covered_more : (spaces us vs : List (List ℕ)) → AllCovered spaces (us ++ vs) → AllCovered spaces vs
covered_more spaces [] vs h = h
covered_more spaces (u ∷ us) vs h = covered_more spaces us vs h.1

any_grows : (s u : List ℕ) (spaces : List (List ℕ)) → list_any (bytes_eq s) spaces ≡ true → list_any (bytes_eq s) (with_space spaces u) ≡ true
any_grows s u spaces h = by (needs_prefix u && not (list_any (bytes_eq u) spaces))
  where
    by : (b : Bool) → list_any (bytes_eq s) (cond b (spaces ++ u ∷ []) spaces) ≡ true
    by true = list_any-append (bytes_eq s) spaces (u ∷ []) ∙ or_left (list_any (bytes_eq s) spaces) (bytes_eq s u || false) h
    by false = h

any_stays : (s : List ℕ) (us spaces : List (List ℕ)) → list_any (bytes_eq s) spaces ≡ true → list_any (bytes_eq s) (fold with_space spaces us) ≡ true
any_stays s [] spaces h = h
any_stays s (u ∷ us) spaces h = any_stays s us (with_space spaces u) (any_grows s u spaces h)

itself : (u : List ℕ) (spaces : List (List ℕ)) → needs_prefix u ≡ true → list_any (bytes_eq u) (with_space spaces u) ≡ true
itself u spaces h = by (needs_prefix u) (list_any (bytes_eq u) spaces) h refl
  where
    by : (n b : Bool) → n ≡ true → list_any (bytes_eq u) spaces ≡ b → list_any (bytes_eq u) (cond (n && not b) (spaces ++ u ∷ []) spaces) ≡ true
    by true true e g = g
    by true false e g =
        list_any-append (bytes_eq u) spaces (u ∷ [])
        ∙ or_right (list_any (bytes_eq u) spaces) (bytes_eq u u || false) (or_left (bytes_eq u u) false ((bytes_decides u u).1 refl))
    by false b e g = cc

pub all_covered : (us spaces : List (List ℕ)) → AllCovered (fold with_space spaces us) us
all_covered [] spaces = tt
all_covered (u ∷ us) spaces = (λ need. any_stays u us (with_space spaces u) (itself u spaces need), all_covered us (with_space spaces u))

-- A namespace that is noted needs a prefix, and may be declared.
abbrev pub may_declare : List ℕ → Bool
may_declare s = needs_prefix s && (is_xml_text s && not (bytes_eq s xmlns_space))

abbrev pub is_space_lawful : List ℕ → Bool
is_space_lawful s = is_xml_text s && not (bytes_eq s xmlns_space)

noted_may : (u : List ℕ) (spaces : List (List ℕ)) → is_space_lawful u ≡ true → list_all may_declare spaces ≡ true → list_all may_declare (with_space spaces u) ≡ true
noted_may u spaces lawful h = by (needs_prefix u) (list_any (bytes_eq u) spaces) refl
  where
    by : (n b : Bool) → needs_prefix u ≡ n → list_all may_declare (cond (n && not b) (spaces ++ u ∷ []) spaces) ≡ true
    by true true e = h
    by true false e =
        list_all-append may_declare spaces (u ∷ [])
        ∙ and_from (list_all may_declare spaces) (may_declare u && true) h (and_from (may_declare u) true (and_from (needs_prefix u) (is_space_lawful u) e lawful) refl)
    by false b e = h

pub all_may : (us spaces : List (List ℕ)) → list_all is_space_lawful us ≡ true → list_all may_declare spaces ≡ true → list_all may_declare (fold with_space spaces us) ≡ true
all_may [] spaces lawful h = h
all_may (u ∷ us) spaces lawful h =
    let parts = and_parts (is_space_lawful u) (list_all is_space_lawful us) lawful in
    all_may us (with_space spaces u) parts.1 (noted_may u spaces parts.0 h)

space_of_name : (n : Name) → is_lawful_name n ≡ true → is_space_lawful n.space ≡ true
space_of_name n h =
    let whole = and_parts (is_local_name n.local && is_xml_text n.space) (not (bytes_eq n.space xmlns_space)) h in
    and_from (is_xml_text n.space) (not (bytes_eq n.space xmlns_space)) (and_parts (is_local_name n.local) (is_xml_text n.space) whole.0).1 whole.1

name_of_attr : (a : Attr) → is_lawful_attr a ≡ true → is_lawful_name a.name ≡ true
name_of_attr a h = (and_parts (is_lawful_name a.name) (not (is_declaration a.name)) (and_parts (is_lawful_name a.name && not (is_declaration a.name)) (is_xml_text a.value) h).0).0

spaces_of_attrs : (attrs : List Attr) → list_all is_lawful_attr attrs ≡ true → list_all is_space_lawful (map (λ a. a.name.space) attrs) ≡ true
spaces_of_attrs [] h = refl
spaces_of_attrs (a ∷ more) h =
    let parts = and_parts (is_lawful_attr a) (list_all is_lawful_attr more) h in
    and_from (is_space_lawful a.name.space) (list_all is_space_lawful (map (λ a. a.name.space) more)) (space_of_name a.name (name_of_attr a parts.0)) (spaces_of_attrs more parts.1)

-- the parts of a lawful tag
pub record IsTagOf (n : Name) (attrs : List Attr) (inner : Nodes) : Type 0 where
  pub name : is_lawful_name n ≡ true
  pub attributes : list_all is_lawful_attr attrs ≡ true
  pub rising : ascend attrs ≡ true
  pub fits : fits_name n inner ≡ true

pub tag_parts : (n : Name) (attrs : List Attr) (inner : Nodes) → is_lawful_tag n attrs inner ≡ true → IsTagOf n attrs inner
tag_parts n attrs inner h =
    let a = and_parts (is_lawful_name n) (list_all is_lawful_attr attrs && (ascend attrs && fits_name n inner)) h in
    let b = and_parts (list_all is_lawful_attr attrs) (ascend attrs && fits_name n inner) a.1 in
    let c = and_parts (ascend attrs) (fits_name n inner) b.1 in
    record { name = a.0; attributes = b.0; rising = c.0; fits = c.1 }

pub spaces_of_tag : (n : Name) (attrs : List Attr) (inner : Nodes) → IsTagOf n attrs inner → list_all is_space_lawful (tag_uses n attrs) ≡ true
spaces_of_tag n attrs inner h = and_from (is_space_lawful n.space) (list_all is_space_lawful (map (λ a. a.name.space) attrs)) (space_of_name n h.name) (spaces_of_attrs attrs h.attributes)

pub spaces_of_nodes : (x : Nodes) → are_lawful x ≡ true → list_all is_space_lawful (uses x) ≡ true
spaces_of_nodes NoNode h = refl
spaces_of_nodes (TextThen t rest) h =
    spaces_of_nodes rest (and_parts (not (starts_with_text rest)) (are_lawful rest) (and_parts (is_lawful_text t) (not (starts_with_text rest) && are_lawful rest) h).1).1
spaces_of_nodes (QualifiedThen n rest) h =
    let parts = and_parts (is_lawful_name n) (are_lawful rest) h in
    and_from (is_space_lawful n.space) (list_all is_space_lawful (uses rest)) (space_of_name n parts.0) (spaces_of_nodes rest parts.1)
spaces_of_nodes (ElementThen n attrs inner rest) h =
    let whole = and_parts (is_lawful_tag n attrs inner && are_lawful inner) (are_lawful rest) h in
    let parts = and_parts (is_lawful_tag n attrs inner) (are_lawful inner) whole.0 in
    list_all-append is_space_lawful (tag_uses n attrs) (uses inner ++ uses rest)
    ∙ and_from (list_all is_space_lawful (tag_uses n attrs)) (list_all is_space_lawful (uses inner ++ uses rest)) (spaces_of_tag n attrs inner (tag_parts n attrs inner parts.0))
    (list_all-append is_space_lawful (uses inner) (uses rest)
    ∙ and_from (list_all is_space_lawful (uses inner)) (list_all is_space_lawful (uses rest)) (spaces_of_nodes inner parts.1) (spaces_of_nodes rest whole.1))

-- What is known of children.
pub record IsGoodTag (m : Bindings) (spaces : List (List ℕ)) (n : Name) (attrs : List Attr) (inner : Nodes) : Type 0 where
  pub name : IsGood m spaces n
  pub attributes : AreGood m spaces attrs
  pub rising : ascend attrs ≡ true
  pub fits : fits_name n inner ≡ true

abbrev pub AllGood : Bindings → List (List ℕ) → Nodes → Type 0
AllGood m spaces NoNode = Unit {0}
AllGood m spaces (TextThen t rest) = (is_lawful_text t ≡ true) × (starts_with_text rest ≡ false) × AllGood m spaces rest
AllGood m spaces (QualifiedThen n rest) = IsGood m spaces n × AllGood m spaces rest
AllGood m spaces (ElementThen n attrs inner rest) = IsGoodTag m spaces n attrs inner × AllGood m spaces inner × AllGood m spaces rest

are_good : (m : Bindings) (spaces : List (List ℕ)) (attrs : List Attr) → length spaces < 2 ^ 64 → Binds m spaces → list_all is_lawful_attr attrs ≡ true → AllCovered spaces (map (λ a. a.name.space) attrs) → AreGood m spaces attrs
are_good m spaces [] few binds h cover = tt
are_good m spaces (a ∷ more) few binds h cover =
    let parts = and_parts (is_lawful_attr a) (list_all is_lawful_attr more) h in
    (good_attr m spaces a few binds parts.0 cover.0, are_good m spaces more few binds parts.1 cover.1)

pub good_tag : (m : Bindings) (spaces : List (List ℕ)) (n : Name) (attrs : List Attr) (inner : Nodes) → length spaces < 2 ^ 64 → Binds m spaces → IsTagOf n attrs inner → AllCovered spaces (tag_uses n attrs) → IsGoodTag m spaces n attrs inner
good_tag m spaces n attrs inner few binds h cover =
    record { name = good_name m spaces n few binds h.name cover.0; attributes = are_good m spaces attrs few binds h.attributes cover.1; rising = h.rising; fits = h.fits }

pub all_good : (m : Bindings) (spaces : List (List ℕ)) (x : Nodes) → length spaces < 2 ^ 64 → Binds m spaces → are_lawful x ≡ true → AllCovered spaces (uses x) → AllGood m spaces x
all_good m spaces NoNode few binds h cover = tt
all_good m spaces (TextThen t rest) few binds h cover =
    let a = and_parts (is_lawful_text t) (not (starts_with_text rest) && are_lawful rest) h in
    let b = and_parts (not (starts_with_text rest)) (are_lawful rest) a.1 in
    (a.0, not-true (starts_with_text rest) b.0, all_good m spaces rest few binds b.1 cover)
all_good m spaces (QualifiedThen n rest) few binds h cover =
    let parts = and_parts (is_lawful_name n) (are_lawful rest) h in
    (good_name m spaces n few binds parts.0 cover.0, all_good m spaces rest few binds parts.1 cover.1)
all_good m spaces (ElementThen n attrs inner rest) few binds h cover =
    let whole = and_parts (is_lawful_tag n attrs inner && are_lawful inner) (are_lawful rest) h in
    let parts = and_parts (is_lawful_tag n attrs inner) (are_lawful inner) whole.0 in
    let more = covered_more spaces (tag_uses n attrs) (uses inner ++ uses rest) cover in (
      good_tag m spaces n attrs inner few binds (tag_parts n attrs inner parts.0) (covered_first spaces (tag_uses n attrs) (uses inner ++ uses rest) cover),
      all_good m spaces inner few binds parts.1 (covered_first spaces (uses inner) (uses rest) more),
      all_good m spaces rest few binds whole.1 (covered_more spaces (uses inner) (uses rest) more),
    )

-- Attributes declare nothing, so bindings are those of the root.
nothing_declared : (m : Bindings) (spaces : List (List ℕ)) (attrs : List Attr) → AreGood m spaces attrs → filter_map declared (map (attribute_of spaces) attrs) ≡ []
nothing_declared m spaces [] h = refl
nothing_declared m spaces (a ∷ more) h =
    ap (λ z. cons_option (option_map (λ p. (p, value_of (attribute_of spaces a).value)) z) (filter_map declared (map (attribute_of spaces) more))) h.0.plain
    ∙ nothing_declared m spaces more h.1

pub bound_inside : (m here : Bindings) (spaces : List (List ℕ)) (n : Name) (attrs : List Attr) → AreGood m spaces attrs → bound_by (tag_of spaces [] n attrs) here ≡ here
unfolding bound_by tag_of
bound_inside m here spaces n attrs h =
    ap (λ z. filter (λ b. not (bytes_eq b.0 xml_word) && not (bytes_eq b.0 xmlns_word)) z ++ here) (nothing_declared m spaces attrs h)

all_kept : (i : ℕ) (spaces : List (List ℕ)) → filter (λ b. not (bytes_eq b.0 xml_word) && not (bytes_eq b.0 xmlns_word)) (bindings_from i spaces) ≡ bindings_from i spaces
unfolding bindings_from xml_word xmlns_word
all_kept i [] = refl
all_kept i (s ∷ spaces) = ap (λ z. (110 ∷ decimal i, Some s) ∷ z) (all_kept (i + 1) spaces)

pub bound_outside : (m : Bindings) (spaces : List (List ℕ)) (n : Name) (attrs : List Attr) → list_all is_xml_text spaces ≡ true → AreGood m spaces attrs → bound_by (tag_of spaces (declarations_from 0 spaces) n attrs) outermost ≡ root_bindings spaces
unfolding bound_by tag_of
bound_outside m spaces n attrs texts h =
    let names : filter_map declared (declarations_from 0 spaces ++ map (attribute_of spaces) attrs) ≡ bindings_from 0 spaces =
    filter_map-append declared (declarations_from 0 spaces) (map (attribute_of spaces) attrs)
    ∙ (ap (λ z. z ++ filter_map declared (map (attribute_of spaces) attrs)) (declared_all 0 spaces texts)
    ∙ (ap (λ z. bindings_from 0 spaces ++ z) (nothing_declared m spaces attrs h) ∙ append-nil (bindings_from 0 spaces))) in
    ap (λ z. filter (λ b. not (bytes_eq b.0 xml_word) && not (bytes_eq b.0 xmlns_word)) z ++ outermost) names
    ∙ ap (λ z. z ++ outermost) (all_kept 0 spaces)

-- each declaration has a byte and more
few_from : (i : ℕ) (spaces : List (List ℕ)) → length spaces ≤ length (flat_map declaration_text (enumerate_from i spaces))
unfolding declaration_word
few_from i [] = omega arith
few_from i (s ∷ spaces) = omega (arith, few_from (i + 1) spaces, length-append (declaration_text (i, s)) (flat_map declaration_text (enumerate_from (i + 1) spaces)))

pub few : (spaces : List (List ℕ)) → length spaces ≤ length (declarations_text spaces)
few spaces = few_from 0 spaces

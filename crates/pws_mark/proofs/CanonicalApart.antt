-- Two trees with one canonical text are the same.
use Rattle.std.proofs.Common.{◌≡◌, ℕ, ◌+◌, ◌<◌, ◌^◌, Bool, true, false, not, cond, List, [], ◌∷◌, ◌++◌, map, length, refl, ap, sym, ◌∙◌, arith, subst, append_assoc, append-nil, Some, None, Option}
use Rattle.std.specs.List.{flat_map, list_all, enumerate_from}
use Rattle.std.specs.Fmt.{decimal}
use Rattle.std.specs.Str.{chars}
use Rattle.std.proofs.lemmas.Bool.{not-true, both_ways}
use Rattle.std.proofs.lemmas.Str.{chars-encodes}
use Rattle.std.proofs.lemmas.Fmt.{IsAscii-decimal}
use Rattle.std.proofs.lemmas.Grind.{flat_map-append}
use lib.Utf8.{encode, encodes}
use Rattle.pws_tree.specs.Names.{is_value}
use Rattle.pws_tree.specs.Lawful.{is_lawful_text, starts_with_text, has_qualified, is_one_qualified, fits_name}
use Rattle.pws_tree.specs.Trees.{Tree, Nodes, NoNode, TextThen, QualifiedThen, ElementThen}
use Rattle.pws_tree.specs.declared.texts.Name.{Name}
use Rattle.pws_tree.specs.declared.texts.Attr.{Attr}
use Rattle.pws_mark.specs.Bindings.{Bindings, element_name, declared_prefix}
use Rattle.pws_mark.specs.Canonical.{text_byte, name_text, attr_text, declaration_word, declaration_text, declarations_text, start_text, end_text, nodes_text, spaces_of, canonical}
use Rattle.pws_mark.specs.Tokens.{is_name}
use Rattle.pws_mark.specs.CanonicalTexts.{CanonicalTellsApart}
use Rattle.pws_mark.proofs.PrefixTexts.{name_chars, ascii_spelled}
use Rattle.pws_mark.proofs.BoundPrefixes.{root_bindings}
use Rattle.pws_mark.proofs.WrittenDocument.{written, declaration_name, IsGood, IsGoodAttr, AreGood, declares}
use Rattle.pws_mark.proofs.GoodNodes.{IsGoodTag, AllGood}
use Rattle.pws_mark.proofs.WrittenGrammar.{word_of, declaration_named}
use Rattle.pws_mark.proofs.WrittenUtf8.{name_scalars}
use Rattle.pws_mark.proofs.CanonicalStands.{IsGoodTree, good_tree}
use Rattle.pws_mark.proofs.ApartBytes.{texts_apart, text_not_tag, goes, names_apart, word_goes, words_go, Written, pair_text, all_go, tail_of, tags_apart, not_end_tag}

some_head : {A : Type 0} → A → List A → A
some_head d [] = d
some_head d (x ∷ xs) = x

some_tail : {A : Type 0} → List A → List A
some_tail [] = []
some_tail (x ∷ xs) = xs

head_of : {A : Type 0} {x y : A} {xs ys : List A} → x ∷ xs ≡ y ∷ ys → x ≡ y
unfolding some_head
head_of {x = x} e = ap (some_head x) e

rest_of : {A : Type 0} {x y : A} {xs ys : List A} → x ∷ xs ≡ y ∷ ys → xs ≡ ys
unfolding some_tail
rest_of e = ap some_tail e

-- Names.
chars_same : (cs ds : List ℕ) → is_name cs ≡ true → is_name ds ≡ true → encodes cs ≡ encodes ds → cs ≡ ds
chars_same cs ds h g e = sym (chars-encodes cs (name_scalars cs h)) ∙ (ap chars e ∙ chars-encodes ds (name_scalars ds g))

some_of : {A : Type 0} → Option A → A → A
some_of None a = a
some_of (Some b) a = b

names_same : (m : Bindings) (spaces : List (List ℕ)) (n o : Name) → IsGood m spaces n → IsGood m spaces o → name_text spaces n ≡ name_text spaces o → n ≡ o
unfolding some_of
names_same m spaces n o h g e =
    let chars : name_chars spaces n ≡ name_chars spaces o = chars_same (name_chars spaces n) (name_chars spaces o) h.lawful g.lawful (h.spelled ∙ (e ∙ sym g.spelled)) in
    ap (λ z. some_of z n) (sym h.found ∙ (ap (element_name m) chars ∙ g.found))

name_goes : (m : Bindings) (spaces : List (List ℕ)) (n : Name) → IsGood m spaces n → list_all goes (name_text spaces n) ≡ true
unfolding is_name
name_goes m spaces n h = ap (list_all goes) (sym h.spelled) ∙ word_goes (name_chars spaces n) (word_of (name_chars spaces n) true h.lawful)

-- Attributes.
abbrev pair_of : List (List ℕ) → Attr → Written
pair_of spaces a = (name_text spaces a.name, a.value)

attributes_paired : (spaces : List (List ℕ)) (attrs : List Attr) → flat_map (attr_text spaces) attrs ≡ flat_map pair_text (map (pair_of spaces) attrs)
attributes_paired spaces [] = refl
attributes_paired spaces (a ∷ more) = ap (λ z. attr_text spaces a ++ z) (attributes_paired spaces more)

attributes_go : (m : Bindings) (spaces : List (List ℕ)) (attrs : List Attr) → AreGood m spaces attrs → all_go (map (pair_of spaces) attrs)
attributes_go m spaces [] h = tt
attributes_go m spaces (a ∷ more) h = (name_goes m spaces a.name h.0.name, attributes_go m spaces more h.1)

attr_with : Name → List ℕ → Attr
attr_with n v = record { name = n; value = v }

attributes_same : (m : Bindings) (spaces : List (List ℕ)) (attrs others : List Attr) → AreGood m spaces attrs → AreGood m spaces others → map (pair_of spaces) attrs ≡ map (pair_of spaces) others → attrs ≡ others
unfolding attr_with
attributes_same m spaces [] [] h g e = refl
attributes_same m spaces [] (b ∷ others) h g e = cc
attributes_same m spaces (a ∷ attrs) [] h g e = cc
attributes_same m spaces (a ∷ attrs) (b ∷ others) h g e =
    let first : pair_of spaces a ≡ pair_of spaces b = head_of e in
    let name : a.name ≡ b.name = names_same m spaces a.name b.name h.0.name g.0.name (ap (λ z. z.0) first) in
    let value : a.value ≡ b.value = ap (λ z. z.1) first in
    let rest : attrs ≡ others = attributes_same m spaces attrs others h.1 g.1 (rest_of e) in
    λ i. attr_with (name i) (value i) ∷ rest i

-- Declarations.
pairs_from : ℕ → List (List ℕ) → List Written
pairs_from i [] = []
pairs_from i (s ∷ ss) = (declaration_name i, s) ∷ pairs_from (i + 1) ss

declarations_paired : (i : ℕ) (spaces : List (List ℕ)) → flat_map declaration_text (enumerate_from i spaces) ≡ flat_map pair_text (pairs_from i spaces)
unfolding pairs_from declaration_name declaration_word
declarations_paired i [] = refl
declarations_paired i (s ∷ spaces) = ap (λ z. declaration_text (i, s) ++ z) (declarations_paired (i + 1) spaces)

declarations_go : (i : ℕ) (spaces : List (List ℕ)) (more : List Written) → i + length spaces < 2 ^ 64 → all_go more → all_go (pairs_from i spaces ++ more)
unfolding pairs_from is_name
declarations_go i [] more few h = h
declarations_go i (s ∷ spaces) more few h = (words_go (declaration_name i) (word_of (declaration_name i) true (declaration_named i (omega arith))), declarations_go (i + 1) spaces more (omega arith) h)

declaration_ascii : (i : ℕ) → i < 2 ^ 64 → encodes (declaration_name i) ≡ declaration_name i
unfolding declaration_name encode
declaration_ascii i low = ap (λ z. 120 ∷ 109 ∷ 108 ∷ 110 ∷ 115 ∷ 58 ∷ 110 ∷ z) (ascii_spelled (decimal i) (IsAscii-decimal i low))

-- an attribute isn't written as a declaration
not_declared : (m : Bindings) (spaces : List (List ℕ)) (a : Attr) (i : ℕ) → i < 2 ^ 64 → IsGoodAttr m spaces a → name_text spaces a.name ≡ declaration_name i → ⊥
not_declared m spaces a i low h e =
    let chars : name_chars spaces a.name ≡ declaration_name i = chars_same (name_chars spaces a.name) (declaration_name i) h.name.lawful (declaration_named i low) (h.name.spelled ∙ (e ∙ sym (declaration_ascii i low))) in
    let same : ◌≡◌ {A = Option (List ℕ)} None (Some (110 ∷ decimal i)) = sym h.plain ∙ (ap (λ z. declared_prefix (written z a.value)) chars ∙ declares i a.value) in
    cc

spaces_same : (m l : Bindings) (all others : List (List ℕ)) (i : ℕ) (x y : List (List ℕ)) (attrs bttrs : List Attr) → i + length x < 2 ^ 64 → i + length y < 2 ^ 64 → AreGood m all attrs → AreGood l others bttrs → pairs_from i x ++ map (pair_of all) attrs ≡ pairs_from i y ++ map (pair_of others) bttrs → x ≡ y
unfolding pairs_from
spaces_same m l all others i [] [] attrs bttrs fx fy h g e = refl
spaces_same m l all others i [] (s ∷ y) [] bttrs fx fy h g e = cc
spaces_same m l all others i [] (s ∷ y) (a ∷ attrs) bttrs fx fy h g e = absurd (not_declared m all a i (omega arith) h.0 (ap (λ z. z.0) (head_of e)))
spaces_same m l all others i (s ∷ x) [] attrs [] fx fy h g e = cc
spaces_same m l all others i (s ∷ x) [] attrs (b ∷ bttrs) fx fy h g e = absurd (not_declared l others b i (omega arith) g.0 (ap (λ z. z.0) (sym (head_of e))))
spaces_same m l all others i (s ∷ x) (t ∷ y) attrs bttrs fx fy h g e =
    let first : s ≡ t = ap (λ z. z.1) (head_of e) in
    let rest : x ≡ y = spaces_same m l all others (i + 1) x y attrs bttrs (omega arith) (omega arith) h g (rest_of e) in
    λ k. first k ∷ rest k

-- Children.
regrouped : (name attrs inner rest follow : List ℕ) → ((60 ∷ (name ++ (attrs ++ 62 ∷ []))) ++ (inner ++ ((60 ∷ 47 ∷ (name ++ 62 ∷ [])) ++ rest))) ++ follow ≡ 60 ∷ (name ++ (attrs ++ 62 ∷ (inner ++ 60 ∷ 47 ∷ (name ++ 62 ∷ (rest ++ follow)))))
regrouped name attrs inner rest follow = simp append_assoc

-- an element, and what follows it
element_text : (spaces : List (List ℕ)) (n : Name) (attrs : List Attr) (inner rest : Nodes) (follow : List ℕ) → nodes_text spaces (ElementThen n attrs inner rest) ++ follow ≡ 60 ∷ (name_text spaces n ++ (flat_map pair_text (map (pair_of spaces) attrs) ++ 62 ∷ (nodes_text spaces inner ++ 60 ∷ 47 ∷ (name_text spaces n ++ 62 ∷ (nodes_text spaces rest ++ follow)))))
element_text spaces n attrs inner rest follow =
    regrouped (name_text spaces n) (flat_map (attr_text spaces) attrs) (nodes_text spaces inner) (nodes_text spaces rest) follow
    ∙ ap (λ z. 60 ∷ (name_text spaces n ++ (z ++ 62 ∷ (nodes_text spaces inner ++ 60 ∷ 47 ∷ (name_text spaces n ++ 62 ∷ (nodes_text spaces rest ++ follow)))))) (attributes_paired spaces attrs)

-- what doesn't begin with a text begins with a tag
record BeginsTag (bytes : List ℕ) : Type 0 where
  more : List ℕ
  bytes_are : bytes ≡ 60 ∷ more

begins_tag : (spaces : List (List ℕ)) (x : Nodes) (r : List ℕ) → starts_with_text x ≡ false → has_qualified x ≡ false → BeginsTag (nodes_text spaces x ++ 60 ∷ r)
begins_tag spaces NoNode r h g = record { more = r; bytes_are = refl }
begins_tag spaces (TextThen t rest) r h g = absurd (both_ways true h refl)
begins_tag spaces (QualifiedThen n rest) r h g = absurd (both_ways true g refl)
begins_tag spaces (ElementThen n attrs inner rest) r h g = record { more = _; bytes_are = element_text spaces n attrs inner rest (60 ∷ r) }

texts_with : (t u : List ℕ) (x y r s : List ℕ) → BeginsTag (x ++ r) → BeginsTag (y ++ s) → (flat_map text_byte t ++ x) ++ r ≡ (flat_map text_byte u ++ y) ++ s → (t ≡ u) × (x ++ r ≡ y ++ s)
texts_with t u x y r s a b e =
    let i : flat_map text_byte t ++ (x ++ r) ≡ flat_map text_byte u ++ (y ++ s) = sym (append_assoc (flat_map text_byte t) x r) ∙ (e ∙ append_assoc (flat_map text_byte u) y s) in
    let told = texts_apart t u a.more b.more (ap (λ z. flat_map text_byte t ++ z) (sym a.bytes_are) ∙ (i ∙ ap (λ z. flat_map text_byte u ++ z) b.bytes_are)) in
    (told.0, a.bytes_are ∙ ((λ k. 60 ∷ told.1 k) ∙ sym b.bytes_are))

-- a text isn't where a tag is
no_text : (t x r s : List ℕ) → is_lawful_text t ≡ true → 60 ∷ r ≡ (flat_map text_byte t ++ x) ++ s → ⊥
no_text [] x r s h e = both_ways false refl h
no_text (b ∷ t) x r s h e = text_not_tag b t (x ++ s) r (e ∙ append_assoc (flat_map text_byte (b ∷ t)) x s)

-- an element isn't where an end tag is
no_element : (m : Bindings) (spaces : List (List ℕ)) (n : Name) (attrs : List Attr) (inner rest : Nodes) (r follow : List ℕ) → IsGood m spaces n → 60 ∷ 47 ∷ r ≡ nodes_text spaces (ElementThen n attrs inner rest) ++ follow → ⊥
no_element m spaces n attrs inner rest r follow h e =
    not_end_tag (name_text spaces n) (map (pair_of spaces) attrs) r (nodes_text spaces inner ++ 60 ∷ 47 ∷ (name_text spaces n ++ 62 ∷ (nodes_text spaces rest ++ follow))) (name_goes m spaces n h) (tail_of (e ∙ element_text spaces n attrs inner rest follow))

-- the children of elements of one name
abbrev SameInside : List (List ℕ) → Nodes → Nodes → Type 0
SameInside spaces x y = (r s : List ℕ) → nodes_text spaces x ++ 60 ∷ 47 ∷ r ≡ nodes_text spaces y ++ 60 ∷ 47 ∷ s → (x ≡ y) × (r ≡ s)

values_same : (m : Bindings) (spaces : List (List ℕ)) (x y : Nodes) → AllGood m spaces x → AllGood m spaces y → is_one_qualified x ≡ true → is_one_qualified y ≡ true → SameInside spaces x y
values_same m spaces NoNode y h g p q r s e = absurd (both_ways false refl p)
values_same m spaces (TextThen t rest) y h g p q r s e = absurd (both_ways false refl p)
values_same m spaces (ElementThen n attrs inner rest) y h g p q r s e = absurd (both_ways false refl p)
values_same m spaces (QualifiedThen n (TextThen t rest)) y h g p q r s e = absurd (both_ways false refl p)
values_same m spaces (QualifiedThen n (QualifiedThen o rest)) y h g p q r s e = absurd (both_ways false refl p)
values_same m spaces (QualifiedThen n (ElementThen o attrs inner rest)) y h g p q r s e = absurd (both_ways false refl p)
values_same m spaces (QualifiedThen n NoNode) NoNode h g p q r s e = absurd (both_ways false refl q)
values_same m spaces (QualifiedThen n NoNode) (TextThen t rest) h g p q r s e = absurd (both_ways false refl q)
values_same m spaces (QualifiedThen n NoNode) (ElementThen o attrs inner rest) h g p q r s e = absurd (both_ways false refl q)
values_same m spaces (QualifiedThen n NoNode) (QualifiedThen o (TextThen t rest)) h g p q r s e = absurd (both_ways false refl q)
values_same m spaces (QualifiedThen n NoNode) (QualifiedThen o (QualifiedThen k rest)) h g p q r s e = absurd (both_ways false refl q)
values_same m spaces (QualifiedThen n NoNode) (QualifiedThen o (ElementThen k attrs inner rest)) h g p q r s e = absurd (both_ways false refl q)
values_same m spaces (QualifiedThen n NoNode) (QualifiedThen o NoNode) h g p q r s e =
    let i : name_text spaces n ++ 60 ∷ 47 ∷ r ≡ name_text spaces o ++ 60 ∷ 47 ∷ s = ap (λ z. z ++ 60 ∷ 47 ∷ r) (sym (append-nil (name_text spaces n))) ∙ (e ∙ ap (λ z. z ++ 60 ∷ 47 ∷ s) (append-nil (name_text spaces o))) in
    let told = names_apart (name_text spaces n) (name_text spaces o) 60 60 (47 ∷ r) (47 ∷ s) (name_goes m spaces n h.0) (name_goes m spaces o g.0) refl refl i in
    let name : n ≡ o = names_same m spaces n o h.0 g.0 told.0 in
    ((λ k. QualifiedThen (name k) NoNode), tail_of told.2)

inside_same : (m : Bindings) (spaces : List (List ℕ)) (n o : Name) (x y : Nodes) → n ≡ o → AllGood m spaces x → AllGood m spaces y → fits_name n x ≡ true → fits_name o y ≡ true → (has_qualified x ≡ false → has_qualified y ≡ false → SameInside spaces x y) → SameInside spaces x y
inside_same m spaces n o x y same h g fx fy more = by (is_value n) fx (ap (λ z. fits_name z y) same ∙ fy)
  where
    by : (b : Bool) → cond b (is_one_qualified x) (not (has_qualified x)) ≡ true → cond b (is_one_qualified y) (not (has_qualified y)) ≡ true → SameInside spaces x y
    by true p q = values_same m spaces x y h g p q
    by false p q = more (not-true (has_qualified x) p) (not-true (has_qualified y) q)

nodes_with : Name → List Attr → Nodes → Nodes → Nodes
nodes_with n attrs inner rest = ElementThen n attrs inner rest

-- two elements with what follows them
elements_same : (m : Bindings) (spaces : List (List ℕ)) (n o : Name) (cs bs : List Attr) (x y v w : Nodes) (r s : List ℕ) → IsGoodTag m spaces n cs x → IsGoodTag m spaces o bs y → AllGood m spaces x → AllGood m spaces y → (has_qualified x ≡ false → has_qualified y ≡ false → SameInside spaces x y) → SameInside spaces v w → nodes_text spaces (ElementThen n cs x v) ++ 60 ∷ 47 ∷ r ≡ nodes_text spaces (ElementThen o bs y w) ++ 60 ∷ 47 ∷ s → (ElementThen n cs x v ≡ ElementThen o bs y w) × (r ≡ s)
unfolding nodes_with
elements_same m spaces n o cs bs x y v w r s h g hx gy inner rest e =
    let after : List ℕ = nodes_text spaces v ++ 60 ∷ 47 ∷ r in
    let behind : List ℕ = nodes_text spaces w ++ 60 ∷ 47 ∷ s in
    let told = tags_apart (name_text spaces n) (name_text spaces o) (map (pair_of spaces) cs) (map (pair_of spaces) bs) (nodes_text spaces x ++ 60 ∷ 47 ∷ (name_text spaces n ++ 62 ∷ after)) (nodes_text spaces y ++ 60 ∷ 47 ∷ (name_text spaces o ++ 62 ∷ behind)) (name_goes m spaces n h.name) (name_goes m spaces o g.name) (attributes_go m spaces cs h.attributes) (attributes_go m spaces bs g.attributes) (tail_of (sym (element_text spaces n cs x v (60 ∷ 47 ∷ r)) ∙ (e ∙ element_text spaces o bs y w (60 ∷ 47 ∷ s)))) in
    let name : n ≡ o = names_same m spaces n o h.name g.name told.0 in
    let attrs : cs ≡ bs = attributes_same m spaces cs bs h.attributes g.attributes told.1 in
    let deep = inside_same m spaces n o x y name hx gy h.fits g.fits inner (name_text spaces n ++ 62 ∷ after) (name_text spaces o ++ 62 ∷ behind) told.2 in
    let close = names_apart (name_text spaces n) (name_text spaces o) 62 62 after behind (name_goes m spaces n h.name) (name_goes m spaces o g.name) refl refl deep.1 in
    let last = rest r s close.2 in
    ((λ k. nodes_with (name k) (attrs k) (deep.0 k) (last.0 k)), last.1)

nodes_same : (m : Bindings) (spaces : List (List ℕ)) (x y : Nodes) → AllGood m spaces x → AllGood m spaces y → has_qualified x ≡ false → has_qualified y ≡ false → SameInside spaces x y
nodes_same m spaces NoNode NoNode h g p q r s e = (refl, tail_of (tail_of e))
nodes_same m spaces NoNode (TextThen u w) h g p q r s e = absurd (no_text u (nodes_text spaces w) (47 ∷ r) (60 ∷ 47 ∷ s) g.0 e)
nodes_same m spaces NoNode (QualifiedThen o w) h g p q r s e = absurd (both_ways true q refl)
nodes_same m spaces NoNode (ElementThen o bs y w) h g p q r s e = absurd (no_element m spaces o bs y w r (60 ∷ 47 ∷ s) g.0.name e)
nodes_same m spaces (TextThen t v) NoNode h g p q r s e = absurd (no_text t (nodes_text spaces v) (47 ∷ s) (60 ∷ 47 ∷ r) h.0 (sym e))
nodes_same m spaces (TextThen t v) (TextThen u w) h g p q r s e =
    let told = texts_with t u (nodes_text spaces v) (nodes_text spaces w) (60 ∷ 47 ∷ r) (60 ∷ 47 ∷ s) (begins_tag spaces v (47 ∷ r) h.1 p) (begins_tag spaces w (47 ∷ s) g.1 q) e in
    let rest = nodes_same m spaces v w h.2 g.2 p q r s told.1 in
    ((λ k. TextThen (told.0 k) (rest.0 k)), rest.1)
nodes_same m spaces (TextThen t v) (QualifiedThen o w) h g p q r s e = absurd (both_ways true q refl)
nodes_same m spaces (TextThen t v) (ElementThen o bs y w) h g p q r s e = absurd (no_text t (nodes_text spaces v) _ (60 ∷ 47 ∷ r) h.0 (sym (e ∙ element_text spaces o bs y w (60 ∷ 47 ∷ s))))
nodes_same m spaces (QualifiedThen n v) y h g p q r s e = absurd (both_ways true p refl)
nodes_same m spaces (ElementThen n cs x v) NoNode h g p q r s e = absurd (no_element m spaces n cs x v s (60 ∷ 47 ∷ r) h.0.name (sym e))
nodes_same m spaces (ElementThen n cs x v) (TextThen u w) h g p q r s e = absurd (no_text u (nodes_text spaces w) _ (60 ∷ 47 ∷ s) g.0 (sym (element_text spaces n cs x v (60 ∷ 47 ∷ r)) ∙ e))
nodes_same m spaces (ElementThen n cs x v) (QualifiedThen o w) h g p q r s e = absurd (both_ways true q refl)
nodes_same m spaces (ElementThen n cs x v) (ElementThen o bs y w) h g p q r s e =
    elements_same m spaces n o cs bs x y v w r s h.0 g.0 h.1 g.1 (nodes_same m spaces x y h.1 g.1) (nodes_same m spaces v w h.2 g.2 p q) e

-- Roots.
root_regrouped : (name declarations attrs inner : List ℕ) → (60 ∷ (name ++ (declarations ++ (attrs ++ 62 ∷ [])))) ++ (inner ++ 60 ∷ 47 ∷ (name ++ 62 ∷ [])) ≡ 60 ∷ (name ++ ((declarations ++ attrs) ++ 62 ∷ (inner ++ 60 ∷ 47 ∷ (name ++ 62 ∷ []))))
root_regrouped name declarations attrs inner = simp append_assoc

abbrev root_pairs : List (List ℕ) → Tree → List Written
root_pairs spaces t = pairs_from 0 spaces ++ map (pair_of spaces) t.attrs

abbrev text_with : List (List ℕ) → Tree → List ℕ
text_with spaces t = start_text spaces (declarations_text spaces) t.name t.attrs ++ (nodes_text spaces t.children ++ end_text spaces t.name)

root_text : (spaces : List (List ℕ)) (t : Tree) → text_with spaces t ≡ 60 ∷ (name_text spaces t.name ++ (flat_map pair_text (root_pairs spaces t) ++ 62 ∷ (nodes_text spaces t.children ++ 60 ∷ 47 ∷ (name_text spaces t.name ++ 62 ∷ []))))
root_text spaces t =
    root_regrouped (name_text spaces t.name) (declarations_text spaces) (flat_map (attr_text spaces) t.attrs) (nodes_text spaces t.children)
    ∙ ap (λ z. 60 ∷ (name_text spaces t.name ++ (z ++ 62 ∷ (nodes_text spaces t.children ++ 60 ∷ 47 ∷ (name_text spaces t.name ++ 62 ∷ []))))) pairs
  where
    pairs : declarations_text spaces ++ flat_map (attr_text spaces) t.attrs ≡ flat_map pair_text (root_pairs spaces t)
    pairs =
        ap (λ z. z ++ flat_map (attr_text spaces) t.attrs) (declarations_paired 0 spaces)
        ∙ (ap (λ z. flat_map pair_text (pairs_from 0 spaces) ++ z) (attributes_paired spaces t.attrs)
        ∙ sym (flat_map-append pair_text (pairs_from 0 spaces) (map (pair_of spaces) t.attrs)))

-- what two equal texts say of the roots
roots_told : (x y : List (List ℕ)) (t u : Tree) → IsGoodTree x t → IsGoodTree y u → text_with x t ≡ text_with y u → (name_text x t.name ≡ name_text y u.name) × (root_pairs x t ≡ root_pairs y u) × (nodes_text x t.children ++ 60 ∷ 47 ∷ (name_text x t.name ++ 62 ∷ []) ≡ nodes_text y u.children ++ 60 ∷ 47 ∷ (name_text y u.name ++ 62 ∷ []))
roots_told x y t u h g e =
    tags_apart (name_text x t.name) (name_text y u.name) (root_pairs x t) (root_pairs y u) (nodes_text x t.children ++ 60 ∷ 47 ∷ (name_text x t.name ++ 62 ∷ [])) (nodes_text y u.children ++ 60 ∷ 47 ∷ (name_text y u.name ++ 62 ∷ []))
    (name_goes (root_bindings x) x t.name h.tag.name) (name_goes (root_bindings y) y u.name g.tag.name)
    (declarations_go 0 x (map (pair_of x) t.attrs) (few_of x h.short) (attributes_go (root_bindings x) x t.attrs h.tag.attributes)) (declarations_go 0 y (map (pair_of y) u.attrs) (few_of y g.short) (attributes_go (root_bindings y) y u.attrs g.tag.attributes))
    (tail_of (sym (root_text x t) ∙ (e ∙ root_text y u)))
  where
    few_of : (z : List (List ℕ)) → length z < 2 ^ 64 → 0 + length z < 2 ^ 64
    few_of z low = omega arith

tree_with : Name → List Attr → Nodes → Tree
tree_with n attrs children = record { name = n; attrs = attrs; children = children }

pairs_past : (x : List Written) (p q : List Written) → x ++ p ≡ x ++ q → p ≡ q
pairs_past [] p q e = e
pairs_past (y ∷ x) p q e = pairs_past x p q (rest_of e)

-- where the namespaces are the same
same_with : (x : List (List ℕ)) (t u : Tree) → IsGoodTree x t → IsGoodTree x u → text_with x t ≡ text_with x u → t ≡ u
unfolding tree_with
same_with x t u h g e =
    let m : Bindings = root_bindings x in
    let told = roots_told x x t u h g e in
    let name : t.name ≡ u.name = names_same m x t.name u.name h.tag.name g.tag.name told.0 in
    let attrs : t.attrs ≡ u.attrs = attributes_same m x t.attrs u.attrs h.tag.attributes g.tag.attributes (pairs_past (pairs_from 0 x) (map (pair_of x) t.attrs) (map (pair_of x) u.attrs) told.1) in
    let inner = inside_same m x t.name u.name t.children u.children name h.inner g.inner h.tag.fits g.tag.fits (nodes_same m x t.children u.children h.inner g.inner) (name_text x t.name ++ 62 ∷ []) (name_text x u.name ++ 62 ∷ []) told.2 in
    λ i. tree_with (name i) (attrs i) (inner.0 i)

-- the namespaces are the same, and so are the trees
apart_with : (x y : List (List ℕ)) (t u : Tree) → IsGoodTree x t → IsGoodTree y u → text_with x t ≡ text_with y u → t ≡ u
apart_with x y t u h g e =
    let told = roots_told x y t u h g e in
    let spaces : x ≡ y = spaces_same (root_bindings x) (root_bindings y) x y 0 x y t.attrs u.attrs (few_of x h.short) (few_of y g.short) h.tag.attributes g.tag.attributes told.1 in
    let moved : IsGoodTree x u × (text_with x t ≡ text_with x u) = subst (λ z. IsGoodTree z u × (text_with x t ≡ text_with z u)) (sym spaces) (g, e) in
    same_with x t u h moved.0 moved.1
  where
    few_of : (z : List (List ℕ)) → length z < 2 ^ 64 → 0 + length z < 2 ^ 64
    few_of z low = omega arith

pub apart : CanonicalTellsApart
apart t u h g short = (λ e. apart_with (spaces_of t) (spaces_of u) t u (good_tree t h short) (good_tree u g (omega (arith, ap length e))) e, ap canonical)

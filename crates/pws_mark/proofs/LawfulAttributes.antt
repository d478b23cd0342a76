-- Attributes without a fault stand for lawful attributes in order.
use Rattle.std.proofs.Common.{◌≡◌, ℕ, ◌+◌, Bool, true, false, not, ◌&&◌, cond, List, [], ◌∷◌, ◌++◌, length, refl, ap, sym, ◌∙◌, rules, Some, None, Option, is_none, unwrap_or, subst, inl, inr}
use Rattle.std.specs.Prelude.{◌⊎◌}
use Rattle.std.specs.List.{list_any, list_all, filter_map, cons_option}
use Rattle.std.specs.Str.{bytes_eq, chars}
use Rattle.std.specs.Cmp.{IsTotalOrder}
use Rattle.std.specs.Cmp.Rules.{comparing}
use Rattle.std.specs.Cmp.Lexicographic.{bytes_decides, slice_cmp, texts_ties}
use Rattle.std.specs.Ordering.{nat_cmp, is_lt, is_eq, ordering_reverse, ordering_then}
use Rattle.std.specs.declared.cmp.Ordering.{Ordering}
use Rattle.std.specs.declared.cmp.Ordering.TheVariants.{Less, Equal, Greater}
use Rattle.std.proofs.lemmas.Bool.{and_parts, and_from, or_parts, both_ways, not_from_false, false_from_ne_true, and_left}
use lib.Utf8.{encodes}
use Rattle.pws_tree.specs.Characters.{is_xml_text}
use Rattle.pws_tree.specs.Names.{is_lawful_name, is_lawful_attr, is_declaration, name_cmp, ascend, xmlns_space, xmlns_word as xmlns_local}
use Rattle.pws_tree.specs.declared.texts.Name.{Name}
use Rattle.pws_tree.specs.declared.texts.Attr.{Attr}
use Rattle.pws_mark.specs.Documents.{Attribute, Tag, spell_attribute}
use Rattle.pws_mark.specs.Bindings.{Bindings, xmlns_word, value_of, has_colon, written_prefix, written_local, declared_prefix, named, element_name, attribute_name, same_name, bound_name, are_twice}
use Rattle.pws_mark.specs.Faults.{Fault, if_wrong, value_faults, is_wrong_name, is_wrong_attribute, attributes_faults}
use Rattle.pws_mark.specs.Meaning.{no_name, attr_of, insert_attr, in_order, attrs_of}
use Rattle.pws_mark.specs.Tokens.{is_white, is_name, is_piece, is_value_char, is_quote, is_attribute}
use Rattle.pws_mark.specs.declared.errors.MarkKind.TheVariants as kind
use Rattle.pws_mark.proofs.LawfulTexts.{xml_nothing, no_parts, not_wrong, GivesText, value_gives}
use Rattle.pws_mark.proofs.LawfulNames.{name_alone, prefix_some, local_chars, name_lawful, AreLawful, IsResolved, resolves, AreRight}

-- From the faults of a tag.
pub are_right : (m : Bindings) (end at : ℕ) (seen attributes : List Attribute) → list_all is_attribute attributes ≡ true → attributes_faults m end at seen attributes ≡ [] → AreRight m seen attributes
are_right m end at seen [] h g = tt
are_right m end at seen (a ∷ more) h g =
    let lawful = and_parts (is_attribute a) (list_all is_attribute more) h in
    let l0 = and_parts (not (bytes_eq a.gap []) && list_all is_white a.gap) (is_name a.name && (list_all is_white a.before && (list_all is_white a.after && (is_quote a.quote && list_all (is_piece (is_value_char a.quote)) a.value)))) lawful.0 in
    let l1 = and_parts (is_name a.name) (list_all is_white a.before && (list_all is_white a.after && (is_quote a.quote && list_all (is_piece (is_value_char a.quote)) a.value))) l0.1 in
    let l2 = and_parts (list_all is_white a.before) (list_all is_white a.after && (is_quote a.quote && list_all (is_piece (is_value_char a.quote)) a.value)) l1.1 in
    let l3 = and_parts (list_all is_white a.after) (is_quote a.quote && list_all (is_piece (is_value_char a.quote)) a.value) l2.1 in
    let l4 = and_parts (is_quote a.quote) (list_all (is_piece (is_value_char a.quote)) a.value) l3.1 in
    let name_at : ℕ = at + length (encodes a.gap) in
    let value_at : ℕ = name_at + (length (encodes a.name) + (length (encodes a.before) + (length (encodes a.after) + 2))) in
    let wrong : List Fault = if_wrong (is_wrong_attribute m a (declared_prefix a)) kind.Prefix name_at end in
    let twice : List Fault = if_wrong (list_any (are_twice m a) seen) kind.Twice name_at end in
    let rest : List Fault = attributes_faults m end (at + length (spell_attribute a)) (a ∷ seen) more in
    let n0 = no_parts wrong (twice ++ (value_faults value_at a.value ++ rest)) g in
    let n1 = no_parts twice (value_faults value_at a.value ++ rest) n0.1 in
    let n2 = no_parts (value_faults value_at a.value) rest n1.1 in (
      not_wrong (is_wrong_attribute m a (declared_prefix a)) kind.Prefix name_at end n0.0,
      not_wrong (list_any (are_twice m a) seen) kind.Twice name_at end n1.0,
      value_gives a.quote value_at a.value l4.1 n2.0,
      l1.0,
      are_right m end (at + length (spell_attribute a)) (a ∷ seen) more lawful.1 n2.1,
    )

-- What an attribute stands for: nothing where it is a declaration.
record IsTaken (m : Bindings) (a : Attribute) : Type 0 where
  attr : Attr
  given : attr_of m a ≡ Some attr
  lawful : is_lawful_attr attr ≡ true
  bound : bound_name m a ≡ Some attr.name

record IsNamed (m : Bindings) (a : Attribute) : Type 0 where
  as_name : Name
  given : attribute_name m a.name ≡ Some as_name
  lawful : is_lawful_name as_name ≡ true
  plain : is_declaration as_name ≡ false

word_chars : chars xmlns_local ≡ xmlns_word
unfolding xmlns_word xmlns_local chars
word_chars = refl

-- a name that isn't xmlns in its characters isn't in its bytes
other_word : (name : List ℕ) → is_name name ≡ true → has_colon name ≡ false → bytes_eq name xmlns_word ≡ false → bytes_eq (encodes name) xmlns_local ≡ false
unfolding is_name
other_word name h g other =
    false_from_ne_true (bytes_eq (encodes name) xmlns_local) (λ e.
    let same : name ≡ xmlns_word = sym (local_chars name (name_alone name h g)) ∙ (ap chars ((bytes_decides (encodes name) xmlns_local).0 e) ∙ word_chars) in
    both_ways (bytes_eq name xmlns_word) other ((bytes_decides name xmlns_word).1 same))

declares_some : (a : Attribute) → declared_prefix a ≡ None → bytes_eq a.name xmlns_word ≡ false
declares_some a h =
    false_from_ne_true (bytes_eq a.name xmlns_word) (λ e.
    let i : ◌≡◌ {A = Option (List ℕ)} (Some []) None = ap (λ z. cond z (Some []) (cond (has_colon a.name && bytes_eq (written_prefix a.name) xmlns_word) (Some (written_local a.name)) None)) (sym e) ∙ h in
    cc)

is_named : (m : Bindings) (a : Attribute) → AreLawful m → is_name a.name ≡ true → declared_prefix a ≡ None → is_wrong_name m a.name ≡ false → IsNamed m a
unfolding is_name xmlns_space
is_named m a h named_so plain right = by (has_colon a.name) refl (resolves m a.name h named_so right)
  where
    by : (b : Bool) → has_colon a.name ≡ b → IsResolved m a.name → IsNamed m a
    by true e r =
        record {
          as_name = r.as_name;
          given = ap (λ z. cond z (element_name m a.name) (Some (named a.name []))) e ∙ r.found;
          lawful = r.lawful;
          plain = and_left (bytes_eq r.as_name.space []) (bytes_eq r.as_name.local xmlns_local) (r.some (prefix_some a.name named_so e));
        }
    by false e r =
        record {
          as_name = named a.name [];
          given = ap (λ z. cond z (element_name m a.name) (Some (named a.name []))) e;
          lawful = name_lawful [] a.name (name_alone a.name named_so e) xml_nothing refl;
          plain = other_word a.name named_so e (declares_some a plain);
        }

attr_with : Name → List ℕ → Attr
attr_with n v = record { name = n; value = v }

is_taken : (m : Bindings) (a : Attribute) → declared_prefix a ≡ None → IsNamed m a → GivesText a.value → IsTaken m a
is_taken m a plain n v =
    record {
      attr = record { name = n.as_name; value = v.text };
      given =
          ap (λ z. cond (is_none z) (Some (record { name = unwrap_or (attribute_name m a.name) no_name; value = unwrap_or (value_of a.value) [] })) None) plain
          ∙ (λ i. Some (record { name = unwrap_or (n.given i) no_name; value = unwrap_or (v.given i) [] }));
      lawful = and_from (is_lawful_name n.as_name && not (is_declaration n.as_name)) (is_xml_text v.text) (and_from (is_lawful_name n.as_name) (not (is_declaration n.as_name)) n.lawful (not_from_false (is_declaration n.as_name) n.plain)) v.xml;
      bound = ap (λ z. cond (is_none z) (attribute_name m a.name) None) plain ∙ n.given;
    }

stands_for : (m : Bindings) (a : Attribute) → AreLawful m → is_name a.name ≡ true → is_wrong_attribute m a (declared_prefix a) ≡ false → GivesText a.value → (attr_of m a ≡ None) ⊎ IsTaken m a
stands_for m a h named_so right v = by (declared_prefix a) refl right
  where
    by : (o : Option (List ℕ)) → declared_prefix a ≡ o → is_wrong_attribute m a o ≡ false → (attr_of m a ≡ None) ⊎ IsTaken m a
    by None e r = inr (is_taken m a e (is_named m a h named_so e r) v)
    by (Some p) e r = inl (ap (λ z. cond (is_none z) (Some (record { name = unwrap_or (attribute_name m a.name) no_name; value = unwrap_or (value_of a.value) [] })) None) e)

-- No two have one name.
abbrev pub AreOther : Attr → List Attr → Type 0
AreOther x [] = Unit {0}
AreOther x (y ∷ ys) = (x.name ≡ y.name → ⊥) × AreOther x ys

abbrev pub AreApart : List Attr → Type 0
AreApart [] = Unit {0}
AreApart (x ∷ xs) = AreOther x xs × AreApart xs

names_apart : (n o : Name) → same_name (Some n) (Some o) ≡ false → (o ≡ n → ⊥)
names_apart n o h e =
    both_ways (same_name (Some n) (Some o)) h (and_from (bytes_eq n.space o.space) (bytes_eq n.local o.local) ((bytes_decides n.space o.space).1 (ap (λ z. z.space) (sym e))) ((bytes_decides n.local o.local).1 (ap (λ z. z.local) (sym e))))

taken_apart : (m : Bindings) (a b : Attribute) (x y : Attr) → bound_name m a ≡ Some x.name → bound_name m b ≡ Some y.name → are_twice m b a ≡ false → (x.name ≡ y.name → ⊥)
taken_apart m a b x y p q h =
    names_apart y.name x.name (ap (λ z. same_name z (Some x.name)) (sym q) ∙ (ap (same_name (bound_name m b)) (sym p) ∙ (or_parts (bytes_eq b.name a.name) (same_name (bound_name m b) (bound_name m a)) h).1))

-- an attribute that was seen has another name than all later ones
others_later : (m : Bindings) (a : Attribute) (x : Attr) (seen attributes : List Attribute) → AreLawful m → bound_name m a ≡ Some x.name → ((b : Attribute) → list_any (are_twice m b) seen ≡ false → are_twice m b a ≡ false) → AreRight m seen attributes → AreOther x (filter_map (attr_of m) attributes)
others_later m a x seen [] lawful bound was h = tt
others_later m a x seen (b ∷ more) lawful bound was h =
    by (stands_for m b lawful h.3 h.0 h.2)
    (others_later m a x (b ∷ seen) more lawful bound (λ c none. was c (or_parts (are_twice m c b) (list_any (are_twice m c) seen) none).1) h.4)
  where
    by : (attr_of m b ≡ None) ⊎ IsTaken m b → AreOther x (filter_map (attr_of m) more) → AreOther x (cons_option (attr_of m b) (filter_map (attr_of m) more))
    by (inl none) rest = subst (λ z. AreOther x (cons_option z (filter_map (attr_of m) more))) (sym none) rest
    by (inr t) rest = subst (λ z. AreOther x (cons_option z (filter_map (attr_of m) more))) (sym t.given) (taken_apart m a b x t.attr bound t.bound (was b h.1), rest)

record AreTaken (attrs : List Attr) : Type 0 where
  lawful : list_all is_lawful_attr attrs ≡ true
  apart : AreApart attrs

taken : (m : Bindings) (seen attributes : List Attribute) → AreLawful m → AreRight m seen attributes → AreTaken (filter_map (attr_of m) attributes)
taken m seen [] lawful h = record { lawful = refl; apart = tt }
taken m seen (a ∷ more) lawful h =
    by (stands_for m a lawful h.3 h.0 h.2) (taken m (a ∷ seen) more lawful h.4)
  where
    by : (attr_of m a ≡ None) ⊎ IsTaken m a → AreTaken (filter_map (attr_of m) more) → AreTaken (cons_option (attr_of m a) (filter_map (attr_of m) more))
    by (inl none) rest = subst (λ z. AreTaken (cons_option z (filter_map (attr_of m) more))) (sym none) rest
    by (inr t) rest =
        subst (λ z. AreTaken (cons_option z (filter_map (attr_of m) more))) (sym t.given)
        (record {
          lawful = and_from (is_lawful_attr t.attr) (list_all is_lawful_attr (filter_map (attr_of m) more)) t.lawful rest.lawful;
          apart = (others_later m a t.attr (a ∷ seen) more lawful t.bound (λ b none. (or_parts (are_twice m b a) (list_any (are_twice m b) seen) none).0) h.4, rest.apart);
        })

-- In order they ascend.
name_total : IsTotalOrder name_cmp
name_total = search (comparing, rules)

both_equal : (a b : Ordering) → ordering_then a b ≡ Equal → (is_eq a ≡ true) × (is_eq b ≡ true)
both_equal Less b h = cc
both_equal Greater b h = cc
both_equal Equal b h = (refl, ap is_eq h)

name_with : List ℕ → List ℕ → Name
name_with s l = record { space = s; local = l }

equal_names : (n o : Name) → name_cmp n o ≡ Equal → n ≡ o
unfolding name_with
equal_names n o h =
    let parts = both_equal (slice_cmp nat_cmp n.space o.space) (slice_cmp nat_cmp n.local o.local) h in
    let space : n.space ≡ o.space = (bytes_decides n.space o.space).0 (texts_ties n.space o.space ∙ parts.0) in
    let local : n.local ≡ o.local = (bytes_decides n.local o.local).0 (texts_ties n.local o.local ∙ parts.1) in
    λ i. name_with (space i) (local i)

above : (n o : Name) → (n ≡ o → ⊥) → is_lt (name_cmp o n) ≡ false → is_lt (name_cmp n o) ≡ true
above n o h g = by (name_cmp n o) (name_cmp o n) refl (name_total.antisymm n o) g
  where
    by : (x y : Ordering) → name_cmp n o ≡ x → x ≡ ordering_reverse y → is_lt y ≡ false → is_lt x ≡ true
    by Less y e r k = refl
    by Equal y e r k = absurd (h (equal_names n o e))
    by Greater Less e r k = absurd (both_ways true k refl)
    by Greater Equal e r k = cc
    by Greater Greater e r k = cc

insert_all : (a : Attr) (xs : List Attr) → is_lawful_attr a ≡ true → list_all is_lawful_attr xs ≡ true → list_all is_lawful_attr (insert_attr a xs) ≡ true
insert_all a [] h g = and_from (is_lawful_attr a) true h refl
insert_all a (b ∷ xs) h g =
    let parts = and_parts (is_lawful_attr b) (list_all is_lawful_attr xs) g in
    by (is_lt (name_cmp b.name a.name)) parts.0 (insert_all a xs h parts.1)
  where
    by : (t : Bool) → is_lawful_attr b ≡ true → list_all is_lawful_attr (insert_attr a xs) ≡ true → list_all is_lawful_attr (cond t (b ∷ insert_attr a xs) (a ∷ b ∷ xs)) ≡ true
    by true here more = and_from (is_lawful_attr b) (list_all is_lawful_attr (insert_attr a xs)) here more
    by false here more = and_from (is_lawful_attr a) (list_all is_lawful_attr (b ∷ xs)) h g

insert_other : (c a : Attr) (xs : List Attr) → (c.name ≡ a.name → ⊥) → AreOther c xs → AreOther c (insert_attr a xs)
insert_other c a [] h g = (h, tt)
insert_other c a (b ∷ xs) h g = by (is_lt (name_cmp b.name a.name)) (insert_other c a xs h g.1)
  where
    by : (t : Bool) → AreOther c (insert_attr a xs) → AreOther c (cond t (b ∷ insert_attr a xs) (a ∷ b ∷ xs))
    by true more = (g.0, more)
    by false more = (h, g)

order_other : (c : Attr) (xs : List Attr) → AreOther c xs → AreOther c (in_order xs)
order_other c [] h = tt
order_other c (a ∷ xs) h = insert_other c a (in_order xs) h.0 (order_other c xs h.1)

pub order_all : (xs : List Attr) → list_all is_lawful_attr xs ≡ true → list_all is_lawful_attr (in_order xs) ≡ true
order_all [] h = refl
order_all (a ∷ xs) h =
    let parts = and_parts (is_lawful_attr a) (list_all is_lawful_attr xs) h in
    insert_all a (in_order xs) parts.0 (order_all xs parts.1)

-- a list that goes on above an attribute ascends with it in front
insert_up : (a : Attr) (xs : List Attr) → AreOther a xs → ascend xs ≡ true → ascend (insert_attr a xs) ≡ true
insert_up a [] h up = refl
insert_up a (b ∷ []) h up = by (is_lt (name_cmp b.name a.name)) refl
  where
    by : (t : Bool) → is_lt (name_cmp b.name a.name) ≡ t → ascend (cond t (b ∷ a ∷ []) (a ∷ b ∷ [])) ≡ true
    by true e = and_from (is_lt (name_cmp b.name a.name)) true e refl
    by false e = and_from (is_lt (name_cmp a.name b.name)) true (above a.name b.name h.0 e) refl
insert_up a (b ∷ c ∷ xs) h up =
    let parts = and_parts (is_lt (name_cmp b.name c.name)) (ascend (c ∷ xs)) up in
    by (is_lt (name_cmp b.name a.name)) (is_lt (name_cmp c.name a.name)) refl parts.0 (insert_up a (c ∷ xs) h.1 parts.1)
  where
    by : (t s : Bool) → is_lt (name_cmp b.name a.name) ≡ t → is_lt (name_cmp b.name c.name) ≡ true → ascend (cond s (c ∷ insert_attr a xs) (a ∷ c ∷ xs)) ≡ true → ascend (cond t (b ∷ cond s (c ∷ insert_attr a xs) (a ∷ c ∷ xs)) (a ∷ b ∷ c ∷ xs)) ≡ true
    by true true e next more = and_from (is_lt (name_cmp b.name c.name)) (ascend (c ∷ insert_attr a xs)) next more
    by true false e next more = and_from (is_lt (name_cmp b.name a.name)) (ascend (a ∷ c ∷ xs)) e more
    by false s e next more = and_from (is_lt (name_cmp a.name b.name)) (ascend (b ∷ c ∷ xs)) (above a.name b.name h.0 e) up

pub order_up : (xs : List Attr) → AreApart xs → ascend (in_order xs) ≡ true
order_up [] h = refl
order_up (a ∷ xs) h = insert_up a (in_order xs) (order_other a xs h.0) (order_up xs h.1)

-- the attributes of a tag without a fault
pub record AreLawfulAttrs (attrs : List Attr) : Type 0 where
  pub lawful : list_all is_lawful_attr attrs ≡ true
  pub rising : ascend attrs ≡ true

pub attrs_lawful : (m : Bindings) (tag : Tag) → AreLawful m → AreRight m [] tag.attributes → AreLawfulAttrs (attrs_of m tag)
unfolding attrs_of
attrs_lawful m tag h right =
    let all : AreTaken (filter_map (attr_of m) tag.attributes) = taken m [] tag.attributes h right in
    record { lawful = order_all (filter_map (attr_of m) tag.attributes) all.lawful; rising = order_up (filter_map (attr_of m) tag.attributes) all.apart }

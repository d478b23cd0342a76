-- Names without a fault stand for lawful names.
use Rattle.std.proofs.Common.{◌≡◌, ℕ, ◌+◌, Bool, true, false, not, ◌&&◌, ◌||◌, cond, List, [], ◌∷◌, length, take, drop, refl, ap, sym, ◌∙◌, add-one, one-add, Some, None, Option, option_map, is_none, unwrap_or, find, filter}
use Rattle.std.specs.Prelude.{◌==◌}
use Rattle.std.specs.List.{list_any, list_all, filter_map, cons_option, prefix_len}
use Rattle.std.specs.Str.{bytes_eq, chars, is_utf8}
use Rattle.std.specs.Cmp.Lexicographic.{bytes_decides}
use Rattle.std.proofs.lemmas.Bool.{and_parts, and_from, or_parts, both_ways, not-false, not-true, not_from_false, eqb-true, false_from_ne_true}
use Rattle.std.proofs.lemmas.List.Folds.{list_all-append}
use Rattle.std.proofs.lemmas.Str.{chars-encodes, is_utf8-from_IsUtf8}
use lib.Utf8.{encode, encodes, scalars}
use Rattle.pws_tree.specs.Characters.{is_name_start, is_name_char, are_a_name, is_xml_text, is_local_name, xml_ranges, name_start_ranges}
use Rattle.pws_tree.specs.Names.{is_lawful_name, xmlns_space}
use Rattle.pws_tree.specs.declared.texts.Name.{Name}
use Rattle.pws_mark.specs.Canonical.{xml_space, xml_word}
use Rattle.pws_mark.specs.Documents.{Attribute, Tag}
use Rattle.pws_mark.specs.Bindings.{Bindings, xmlns_word, value_of, has_colon, before_colon, written_prefix, written_local, has_two_colons, declared_prefix, declared, bound_by, outermost, space_at, is_bound, named, element_name, are_twice, is_wrong_declaration}
use Rattle.pws_mark.specs.Faults.{is_wrong_name, is_wrong_attribute}
use Rattle.pws_mark.specs.Tokens.{is_name, goes_on}
use Rattle.pws_mark.proofs.WrittenGrammar.{name_char_is_xml}
use Rattle.pws_mark.proofs.WrittenUtf8.{all_scalars, xml_scalar}
use Rattle.pws_mark.proofs.PlainNames.{name_chars_all}
use Rattle.pws_mark.proofs.LawfulTexts.{xml_nothing, GivesText}

-- Local parts.
chars_alone : (cs : List ℕ) → goes_on false cs ≡ true → has_colon cs ≡ false → list_all is_name_char cs ≡ true
chars_alone [] h g = refl
chars_alone (c ∷ cs) h g =
    let colons = or_parts (c == 58) (has_colon cs) g in
    let parts = and_parts (is_name_char c) (goes_on false cs) (ap (λ z. cond z (goes_on true cs) (is_name_char c && goes_on false cs)) (sym colons.0) ∙ h) in
    and_from (is_name_char c) (list_all is_name_char cs) parts.0 (chars_alone cs parts.1 colons.1)

pub name_alone : (cs : List ℕ) → goes_on true cs ≡ true → has_colon cs ≡ false → are_a_name cs ≡ true
name_alone [] h g = cc
name_alone (c ∷ cs) h g =
    let parts = and_parts (is_name_start c) (goes_on false cs) h in
    and_from (is_name_start c) (list_all is_name_char cs) parts.0 (chars_alone cs parts.1 (or_parts (c == 58) (has_colon cs) g).1)

after_colon : List ℕ → List ℕ
after_colon [] = []
after_colon (c ∷ cs) = cond (c == 58) cs (after_colon cs)

dropped : (cs : List ℕ) → drop (length (before_colon cs) + 1) cs ≡ after_colon cs
unfolding after_colon
dropped [] = refl
dropped (c ∷ cs) = by (c == 58) (dropped cs)
  where
    by : (b : Bool) → drop (length (before_colon cs) + 1) cs ≡ after_colon cs → drop (length (take (cond (not b) (1 + prefix_len (λ d. not (d == 58)) cs) 0) (c ∷ cs)) + 1) (c ∷ cs) ≡ cond b cs (after_colon cs)
    by true h = refl
    by false h = rw one-add (rw add-one (rw add-one at h))

no_colon_start : is_name_start 58 ≡ false
unfolding name_start_ranges
no_colon_start = refl

no_start_colon : (c : ℕ) → is_name_start c ≡ true → (c == 58) ≡ false
no_start_colon c h = false_from_ne_true (c == 58) (λ e. both_ways (is_name_start 58) no_colon_start (ap is_name_start (sym (eqb-true c 58 e)) ∙ h))

after_goes : (cs : List ℕ) → goes_on false cs ≡ true → has_colon cs ≡ true → goes_on true (after_colon cs) ≡ true
unfolding after_colon
after_goes [] h g = cc
after_goes (c ∷ cs) h g = by (c == 58) h g (λ x y. after_goes cs x y)
  where
    by : (b : Bool) → cond b (goes_on true cs) (is_name_char c && goes_on false cs) ≡ true → (b || has_colon cs) ≡ true → (goes_on false cs ≡ true → has_colon cs ≡ true → goes_on true (after_colon cs) ≡ true) → goes_on true (cond b cs (after_colon cs)) ≡ true
    by true x y more = x
    by false x y more = more (and_parts (is_name_char c) (goes_on false cs) x).1 y

after_name : (cs : List ℕ) → goes_on true cs ≡ true → has_colon cs ≡ true → goes_on true (after_colon cs) ≡ true
unfolding after_colon
after_name [] h g = cc
after_name (c ∷ cs) h g =
    let parts = and_parts (is_name_start c) (goes_on false cs) h in
    let start : (c == 58) ≡ false = no_start_colon c parts.0 in
    ap (λ z. goes_on true (cond z cs (after_colon cs))) start ∙ after_goes cs parts.1 (ap (λ z. z || has_colon cs) (sym start) ∙ g)

pub local_named : (name : List ℕ) → is_name name ≡ true → has_two_colons name ≡ false → are_a_name (written_local name) ≡ true
unfolding is_name
local_named name h once = by (has_colon name) refl once
  where
    by : (b : Bool) → has_colon name ≡ b → has_colon (cond b (drop (length (before_colon name) + 1) name) name) ≡ false → are_a_name (cond b (drop (length (before_colon name) + 1) name) name) ≡ true
    by true e g = name_alone (drop (length (before_colon name) + 1) name) (ap (goes_on true) (dropped name) ∙ after_name name h e) g
    by false e g = name_alone name h g

-- what stands before a colon is some prefix
pub prefix_some : (name : List ℕ) → is_name name ≡ true → has_colon name ≡ true → bytes_eq (written_prefix name) [] ≡ false
unfolding is_name
prefix_some name h g = ap (λ z. bytes_eq (cond z (before_colon name) []) []) g ∙ by name h
  where
    by : (cs : List ℕ) → goes_on true cs ≡ true → bytes_eq (before_colon cs) [] ≡ false
    by [] x = cc
    by (c ∷ cs) x = ap (λ z. bytes_eq (take (cond (not z) (1 + prefix_len (λ d. not (d == 58)) cs) 0) (c ∷ cs)) []) (no_start_colon c (and_parts (is_name_start c) (goes_on false cs) x).0) ∙ rw one-add refl

name_scalars : (cs : List ℕ) → are_a_name cs ≡ true → scalars cs ≡ true
name_scalars cs h = all_scalars is_name_char (λ c e. xml_scalar c (name_char_is_xml c e)) cs (name_chars_all cs h)

pub local_chars : (cs : List ℕ) → are_a_name cs ≡ true → chars (encodes cs) ≡ cs
local_chars cs h = chars-encodes cs (name_scalars cs h)

pub local_lawful : (cs : List ℕ) → are_a_name cs ≡ true → is_local_name (encodes cs) ≡ true
unfolding is_local_name
local_lawful cs h =
    and_from (is_utf8 (encodes cs)) (are_a_name (chars (encodes cs))) (is_utf8-from_IsUtf8 (encodes cs) (cs, (name_scalars cs h, refl))) (ap are_a_name (local_chars cs h) ∙ h)

pub name_lawful : (space cs : List ℕ) → are_a_name cs ≡ true → is_xml_text space ≡ true → bytes_eq space xmlns_space ≡ false → is_lawful_name (record { space = space; local = encodes cs }) ≡ true
name_lawful space cs h g f = and_from (is_local_name (encodes cs) && is_xml_text space) (not (bytes_eq space xmlns_space)) (and_from (is_local_name (encodes cs)) (is_xml_text space) (local_lawful cs h) g) (not_from_false (bytes_eq space xmlns_space) f)

-- Bindings to namespaces that names may be in; only the empty prefix may be bound to none.
abbrev pub may_bind : List ℕ → Option (List ℕ) → Bool
may_bind prefix None = false
may_bind prefix (Some s) = is_xml_text s && (not (bytes_eq s xmlns_space) && (bytes_eq prefix [] || not (bytes_eq s [])))

abbrev pub AreLawful : Bindings → Type 0
AreLawful m = list_all (λ b. may_bind b.0 b.1) m ≡ true

pub outermost_lawful : AreLawful outermost
unfolding outermost xml_word xml_space xmlns_space is_xml_text xml_ranges is_utf8 chars encode
outermost_lawful = refl

space_lawful : (m : Bindings) (prefix : List ℕ) (o : Option (List ℕ)) → AreLawful m → space_at m prefix ≡ Some o → may_bind prefix o ≡ true
space_lawful [] prefix o h e = absurd (none_some e)
  where
    none_some : ◌≡◌ {A = Option (Option (List ℕ))} None (Some o) → ⊥
    none_some i = cc
space_lawful (b ∷ m) prefix o h e =
    let parts = and_parts (may_bind b.0 b.1) (list_all (λ b. may_bind b.0 b.1) m) h in
    by (bytes_eq b.0 prefix) ((bytes_decides b.0 prefix).0) parts.0 (λ i. space_lawful m prefix o parts.1 i) e
  where
    some_of : Option (Option (List ℕ)) → Option (List ℕ)
    some_of None = None
    some_of (Some x) = x

    by : (t : Bool) → (t ≡ true → b.0 ≡ prefix) → may_bind b.0 b.1 ≡ true → (space_at m prefix ≡ Some o → may_bind prefix o ≡ true) → option_map (λ b. b.1) (cond t (Some b) (find (λ b. bytes_eq b.0 prefix) m)) ≡ Some o → may_bind prefix o ≡ true
    by true same here more i = (λ k. may_bind (sym (same refl) k) (sym (ap some_of i) k)) ∙ here
    by false same here more i = more i

-- What a name with a bound prefix stands for.
pub record IsResolved (m : Bindings) (name : List ℕ) : Type 0 where
  pub as_name : Name
  pub found : element_name m name ≡ Some as_name
  pub lawful : is_lawful_name as_name ≡ true
  pub some : bytes_eq (written_prefix name) [] ≡ false → bytes_eq as_name.space [] ≡ false

pub resolves : (m : Bindings) (name : List ℕ) → AreLawful m → is_name name ≡ true → is_wrong_name m name ≡ false → IsResolved m name
unfolding xmlns_space
resolves m name h named_so right =
    let parts = or_parts (has_two_colons name) (not (is_bound m (written_prefix name))) right in
    by (space_at m (written_prefix name)) refl (not-false (is_bound m (written_prefix name)) parts.1) (local_named name named_so parts.0)
  where
    with_space : (o : Option (Option (List ℕ))) (s : List ℕ) → space_at m (written_prefix name) ≡ o → unwrap_or o (cond (bytes_eq (written_prefix name) []) (Some []) None) ≡ Some s → are_a_name (written_local name) ≡ true → is_xml_text s ≡ true → bytes_eq s xmlns_space ≡ false → (bytes_eq (written_prefix name) [] ≡ false → bytes_eq s [] ≡ false) → IsResolved m name
    with_space o s e is local xml other some =
        record {
          as_name = record { space = s; local = encodes (written_local name) };
          found = ap (λ z. option_map (named (written_local name)) (unwrap_or z (cond (bytes_eq (written_prefix name) []) (Some []) None))) e ∙ ap (option_map (named (written_local name))) is;
          lawful = name_lawful s (written_local name) local xml other;
          some = some;
        }

    by : (o : Option (Option (List ℕ))) → space_at m (written_prefix name) ≡ o → (bytes_eq (written_prefix name) [] || not (is_none (space_at m (written_prefix name)))) ≡ true → are_a_name (written_local name) ≡ true → IsResolved m name
    by None e bound local =
        let empty : bytes_eq (written_prefix name) [] ≡ true = or_none (bytes_eq (written_prefix name) []) (ap (λ z. bytes_eq (written_prefix name) [] || not (is_none z)) (sym e) ∙ bound) in
        with_space None [] e (ap (λ z. cond z (Some []) None) empty) local xml_nothing refl (λ f. absurd (both_ways (bytes_eq (written_prefix name) []) f empty))
      where
        or_none : (b : Bool) → (b || false) ≡ true → b ≡ true
        or_none true i = refl
        or_none false i = i
    by (Some None) e bound local = absurd (both_ways false refl (space_lawful m (written_prefix name) None h e))
    by (Some (Some s)) e bound local =
        let may = space_lawful m (written_prefix name) (Some s) h e in
        let a = and_parts (is_xml_text s) (not (bytes_eq s xmlns_space) && (bytes_eq (written_prefix name) [] || not (bytes_eq s []))) may in
        let b = and_parts (not (bytes_eq s xmlns_space)) (bytes_eq (written_prefix name) [] || not (bytes_eq s [])) a.1 in
        with_space (Some (Some s)) s e refl local a.0 (not-true (bytes_eq s xmlns_space) b.0) (λ f. not-true (bytes_eq s []) (ap (λ z. z || not (bytes_eq s [])) (sym f) ∙ b.1))

-- Declarations.
may_declare : (prefix s : List ℕ) → is_wrong_declaration prefix (Some s) ≡ false → is_xml_text s ≡ true → may_bind prefix (Some s) ≡ true
unfolding xml_space xmlns_space
may_declare prefix s h xml = by (bytes_eq prefix xmlns_word) (bytes_eq prefix xml_word) h
  where
    three : bytes_eq s xmlns_space ≡ false → (bytes_eq prefix [] || not (bytes_eq s [])) ≡ true → may_bind prefix (Some s) ≡ true
    three a b = and_from (is_xml_text s) (not (bytes_eq s xmlns_space) && (bytes_eq prefix [] || not (bytes_eq s []))) xml (and_from (not (bytes_eq s xmlns_space)) (bytes_eq prefix [] || not (bytes_eq s [])) (not_from_false (bytes_eq s xmlns_space) a) b)

    turned : (a b : Bool) → (not a && b) ≡ false → (a || not b) ≡ true
    turned true b e = refl
    turned false true e = sym e
    turned false false e = refl

    after : (a : Bool) (b : Bool) → b ≡ true → (a || b) ≡ true
    after true b e = refl
    after false b e = e

    by : (t u : Bool) → cond t true (cond u (not (bytes_eq s xml_space)) (bytes_eq s xml_space || (bytes_eq s xmlns_space || (not (bytes_eq prefix []) && bytes_eq s [])))) ≡ false → may_bind prefix (Some s) ≡ true
    by true u e = absurd (both_ways true e refl)
    by false true e =
        let same : s ≡ xml_space = (bytes_decides s xml_space).0 (not-false (bytes_eq s xml_space) e) in
        three (ap (λ z. bytes_eq z xmlns_space) same) (after (bytes_eq prefix []) (not (bytes_eq s [])) (ap (λ z. not (bytes_eq z [])) same))
    by false false e =
        let a = or_parts (bytes_eq s xml_space) (bytes_eq s xmlns_space || (not (bytes_eq prefix []) && bytes_eq s [])) e in
        let b = or_parts (bytes_eq s xmlns_space) (not (bytes_eq prefix []) && bytes_eq s []) a.1 in
        three b.0 (turned (bytes_eq prefix []) (bytes_eq s []) b.1)

-- attributes without a fault of their own
abbrev pub AreRight : Bindings → List Attribute → List Attribute → Type 0
AreRight m seen [] = Unit {0}
AreRight m seen (a ∷ more) = (is_wrong_attribute m a (declared_prefix a) ≡ false) × (list_any (are_twice m a) seen ≡ false) × GivesText a.value × (is_name a.name ≡ true) × AreRight m (a ∷ seen) more

declared_lawful : (m : Bindings) (seen attributes : List Attribute) → AreRight m seen attributes → AreLawful (filter_map declared attributes)
declared_lawful m seen [] h = refl
declared_lawful m seen (a ∷ more) h = by (declared_prefix a) h.0 (declared_lawful m (a ∷ seen) more h.4)
  where
    by : (o : Option (List ℕ)) → is_wrong_attribute m a o ≡ false → AreLawful (filter_map declared more) → AreLawful (cons_option (option_map (λ prefix. (prefix, value_of a.value)) o) (filter_map declared more))
    by None right rest = rest
    by (Some prefix) right rest =
        let wrong : is_wrong_declaration prefix (Some h.2.text) ≡ false = ap (is_wrong_declaration prefix) (sym h.2.given) ∙ (or_parts (has_two_colons a.name) (is_wrong_declaration prefix (value_of a.value)) right).1 in
        and_from (may_bind prefix (value_of a.value)) (list_all (λ b. may_bind b.0 b.1) (filter_map declared more)) (ap (may_bind prefix) h.2.given ∙ may_declare prefix h.2.text wrong h.2.xml) rest

kept_lawful : (keep : List ℕ × Option (List ℕ) → Bool) (m : Bindings) → AreLawful m → AreLawful (filter keep m)
kept_lawful keep [] h = refl
kept_lawful keep (b ∷ m) h =
    let parts = and_parts (may_bind b.0 b.1) (list_all (λ b. may_bind b.0 b.1) m) h in
    by (keep b) parts.0 (kept_lawful keep m parts.1)
  where
    by : (t : Bool) → may_bind b.0 b.1 ≡ true → AreLawful (filter keep m) → AreLawful (cond t (b ∷ filter keep m) (filter keep m))
    by true here rest = and_from (may_bind b.0 b.1) (list_all (λ b. may_bind b.0 b.1) (filter keep m)) here rest
    by false here rest = rest

pub bound_lawful : (m here : Bindings) (seen : List Attribute) (tag : Tag) → AreLawful here → AreRight m seen tag.attributes → AreLawful (bound_by tag here)
unfolding bound_by
bound_lawful m here seen tag h right =
    list_all-append (λ b. may_bind b.0 b.1) (filter (λ b. not (bytes_eq b.0 xml_word) && not (bytes_eq b.0 xmlns_word)) (filter_map declared tag.attributes)) here
    ∙ and_from (list_all (λ b. may_bind b.0 b.1) (filter (λ b. not (bytes_eq b.0 xml_word) && not (bytes_eq b.0 xmlns_word)) (filter_map declared tag.attributes))) (list_all (λ b. may_bind b.0 b.1) here)
    (kept_lawful (λ b. not (bytes_eq b.0 xml_word) && not (bytes_eq b.0 xmlns_word)) (filter_map declared tag.attributes) (declared_lawful m seen tag.attributes right)) h

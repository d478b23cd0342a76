-- The reader takes start tags and empty tags.
use Rattle.std.proofs.Common.{◌≡◌, ◌≢◌, ℕ, ◌+◌, Bool, true, false, ◌&&◌, ◌||◌, List, [], ◌∷◌, ◌++◌, length, refl, ap, subst, sym, ◌∙◌, arith, length-append, append_assoc, append-nil, Option, Some, None}
use Rattle.std.specs.Prelude.{◌==◌, nat_le, encode_utf8, encode_utf8_all}
use Rattle.std.specs.List.{list_all, flat_map}
use Rattle.std.proofs.lemmas.Bool.{and_parts, eqb-true}
use lib.Utf8.{encode}
use Rattle.pws_tree.specs.Characters.{is_name_start, is_name_char, xml_ranges, name_start_ranges, name_more_ranges}
use Rattle.pws_mark.specs.Bindings.{value_of}
use Rattle.pws_mark.specs.Documents.{Piece, Attribute, Tag, spell_piece, spell_attribute, spell_tag}
use Rattle.pws_mark.specs.Faults.{Fault, value_faults, depth_faults}
use Rattle.pws_mark.specs.Grammar.{is_tag}
use Rattle.pws_mark.specs.Noted.{finds, if_found, start_finds, hollow_finds}
use Rattle.pws_mark.specs.Scan.{next, region, opened_step, stays, with_attribute}
use Rattle.pws_mark.specs.Spelling.{write_piece, write_attribute, write_tag}
use Rattle.pws_mark.specs.States.{Outer, State, started, hollowed}
use Rattle.pws_mark.specs.TokenLaws.{Goes, state, ending, attributes_read, tag_read, values_faults, early_faults, StartsAreTaken, HollowsAreTaken}
use Rattle.pws_mark.specs.Tokens.{is_white, is_gap, is_name, goes_on, is_piece, is_value_char, is_quote, is_attribute}
use Rattle.pws_mark.specs.declared.errors.MarkKind.TheVariants as kind
use Rattle.pws_mark.specs.declared.modes.Mode.{Mode}
use Rattle.pws_mark.specs.declared.modes.Mode.TheVariants as mode
use Rattle.pws_mark.specs.declared.modes.ReadAttribute.{ReadAttribute}
use Rattle.pws_mark.specs.declared.modes.ReadName.{ReadName}
use Rattle.pws_mark.specs.declared.modes.ReadTag.{ReadTag}
use Rattle.pws_mark.specs.declared.modes.ReadValue.{ReadValue}
use Rattle.pws_mark.specs.declared.modes.Region.{Region}
use Rattle.pws_mark.specs.declared.modes.Region.TheVariants as region_is
use Rattle.pws_mark.proofs.Going.{goes_on_to, goes_at, goes_once, goes_quietly, goes_names, goes_round, goes_nowhere, other}
use Rattle.pws_mark.proofs.TakesPieces.{ending_found}
use Rattle.pws_mark.proofs.TakesValues.{value_next, value_behind, same_quote, value_goes, value_read}

-- what holds of the four characters of white space holds of each
pub white_is : (P : ℕ → Type 0) → P 32 → P 9 → P 10 → P 13 → (c : ℕ) → is_white c ≡ true → P c
white_is P space tab feed return c white = by (c == 32) (c == 9) (c == 10) (c == 13) (eqb-true c 32) (eqb-true c 9) (eqb-true c 10) (eqb-true c 13) white
  where
    by : (s t f r : Bool) → (s ≡ true → c ≡ 32) → (t ≡ true → c ≡ 9) → (f ≡ true → c ≡ 10) → (r ≡ true → c ≡ 13) → (s || (t || (f || r))) ≡ true → P c
    by true t f r a b d e h = subst P (sym (a refl)) space
    by false true f r a b d e h = subst P (sym (b refl)) tab
    by false false true r a b d e h = subst P (sym (d refl)) feed
    by false false false true a b d e h = subst P (sym (e refl)) return
    by false false false false a b d e h = absurd cc

-- behind the name of a tag or behind an attribute, white space begins a gap
in_gap : (o : Outer) (tag : ReadTag) (spaced : Bool) (at c : ℕ) → is_white c ≡ true → Goes (state at (mode.InTag tag spaced) o) (c ∷ []) (state (at + length (encode_utf8 c)) (mode.InTag tag true) o) []
unfolding next finds name_start_ranges
in_gap o tag spaced at c white = goes_once (mode.InTag tag spaced) (mode.InTag tag true) o o at c [] (by spaced) (rw (other is_white c 62 white refl) refl)
  where
    by : (b : Bool) → next (mode.InTag tag b) o at c ≡ Some (mode.InTag tag true, o)
    by true = white_is (λ d. next (mode.InTag tag true) o at d ≡ Some (mode.InTag tag true, o)) refl refl refl refl c white
    by false = rw white refl

behind_name : (o : Outer) (tag : ReadTag) (at c : ℕ) → is_white c ≡ true → Goes (state at (mode.TagName tag false) o) (c ∷ []) (state (at + length (encode_utf8 c)) (mode.InTag tag true) o) []
unfolding next finds name_start_ranges name_more_ranges
behind_name o tag at c white = goes_once (mode.TagName tag false) (mode.InTag tag true) o o at c [] (white_is (λ d. next (mode.TagName tag false) o at d ≡ Some (mode.InTag tag true, o)) refl refl refl refl c white) (rw (other is_white c 62 white refl) refl)

-- where the name of a tag has just been read, or an attribute, or white space
abbrev front : Option Bool → ReadTag → Mode
front None tag = mode.TagName tag false
front (Some spaced) tag = mode.InTag tag spaced

white_goes : (o : Outer) (tag : ReadTag) (gap : List ℕ) (at : ℕ) → list_all is_white gap ≡ true → Goes (state at (mode.InTag tag true) o) gap (state (at + length (encode_utf8_all gap)) (mode.InTag tag true) o) []
unfolding next finds name_start_ranges
white_goes o tag gap at white = goes_round (mode.InTag tag true) o is_white (λ p c w. white_is (λ d. next (mode.InTag tag true) o p d ≡ Some (mode.InTag tag true, o)) refl refl refl refl c w) (λ c w. rw (other is_white c 62 w refl) refl) gap at white

first_white : (f : Option Bool) (o : Outer) (tag : ReadTag) (at c : ℕ) → is_white c ≡ true → Goes (state at (front f tag) o) (c ∷ []) (state (at + length (encode_utf8 c)) (mode.InTag tag true) o) []
first_white None o tag at c white = behind_name o tag at c white
first_white (Some spaced) o tag at c white = in_gap o tag spaced at c white

-- where the reader is behind white space
abbrev front_behind : Option Bool → List ℕ → Option Bool
front_behind f [] = f
front_behind f (c ∷ cs) = Some true

gap_goes : (f : Option Bool) (o : Outer) (tag : ReadTag) (gap : List ℕ) (at : ℕ) → list_all is_white gap ≡ true → Goes (state at (front f tag) o) gap (state (at + length (encode_utf8_all gap)) (front (front_behind f gap) tag) o) []
gap_goes f o tag [] at white = goes_at (state at (front f tag) o) [] (front f tag) o [] at (at + 0) (omega arith) (goes_nowhere (state at (front f tag) o))
gap_goes f o tag (c ∷ gap) at white =
    let parts = and_parts (is_white c) (list_all is_white gap) white in
    goes_at (state at (front f tag) o) (c ∷ gap) (mode.InTag tag true) o [] (at + length (encode_utf8 c) + length (encode_utf8_all gap)) (at + length (encode_utf8 c ++ encode_utf8_all gap))
    (omega (arith, length-append (encode_utf8 c) (encode_utf8_all gap)))
    (goes_on_to _ _ _ (c ∷ []) gap [] [] (first_white f o tag at c parts.0) (white_goes o tag gap (at + length (encode_utf8 c)) parts.1))

whole_gap_goes : (f : Option Bool) (o : Outer) (tag : ReadTag) (gap : List ℕ) (at : ℕ) → is_gap gap ≡ true → Goes (state at (front f tag) o) gap (state (at + length (encode_utf8_all gap)) (mode.InTag tag true) o) []
whole_gap_goes f o tag [] at white = absurd cc
whole_gap_goes f o tag (c ∷ gap) at white = gap_goes f o tag (c ∷ gap) at white

abbrev read_name : ℕ → List ℕ → ReadName
read_name at name = record { name = name; at = at }

attribute_name_goes : (o : Outer) (tag : ReadTag) (name : List ℕ) (at : ℕ) → is_name name ≡ true → Goes (state at (mode.InTag tag true) o) name (state (at + length (encode_utf8_all name)) (mode.AttributeName tag (read_name at name) false) o) []
unfolding next finds is_name name_start_ranges name_more_ranges
attribute_name_goes o tag [] at lawful = absurd cc
attribute_name_goes o tag (c ∷ cs) at lawful =
    let parts = and_parts (is_name_start c) (goes_on false cs) lawful in
    goes_quietly (mode.InTag tag true) (mode.AttributeName tag (read_name at (c ∷ [])) false) (mode.AttributeName tag (read_name at (c ∷ cs)) false) o o o at c cs [] (rw parts.0 refl) (rw (other is_name_start c 62 parts.0 refl) refl)
    (goes_names (λ name starts. mode.AttributeName tag (read_name at name) starts) o (λ name p d starts. (rw starts refl, refl)) (λ name p d char. (rw char refl, refl)) (λ name p. (refl, refl)) cs (c ∷ []) false (at + length (encode_utf8 c)) parts.1)

-- up to the =
equals_goes : (o : Outer) (tag : ReadTag) (name : ReadName) (before : List ℕ) (at : ℕ) → list_all is_white before ≡ true → Goes (state at (mode.AttributeName tag name false) o) (before ++ 61 ∷ []) (state (at + (length (encode_utf8_all before) + 1)) (mode.AfterEquals tag name) o) []
unfolding next finds encode name_start_ranges name_more_ranges
equals_goes o tag name [] at white = goes_at (state at (mode.AttributeName tag name false) o) (61 ∷ []) (mode.AfterEquals tag name) o [] (at + 1) (at + (0 + 1)) (omega arith) (goes_once (mode.AttributeName tag name false) (mode.AfterEquals tag name) o o at 61 [] refl refl)
equals_goes o tag name (c ∷ cs) at white =
    let parts = and_parts (is_white c) (list_all is_white cs) white in
    goes_at (state at (mode.AttributeName tag name false) o) (c ∷ (cs ++ 61 ∷ [])) (mode.AfterEquals tag name) o [] (at + length (encode_utf8 c) + length (encode_utf8_all cs) + 1) (at + (length (encode_utf8 c ++ encode_utf8_all cs) + 1))
    (omega (arith, length-append (encode_utf8 c) (encode_utf8_all cs)))
    (goes_on_to _ _ _ (c ∷ []) (cs ++ 61 ∷ []) [] [] (goes_once (mode.AttributeName tag name false) (mode.BeforeEquals tag name) o o at c [] (white_is (λ d. next (mode.AttributeName tag name false) o at d ≡ Some (mode.BeforeEquals tag name, o)) refl refl refl refl c parts.0) refl)
    (goes_on_to _ _ _ cs (61 ∷ []) [] [] (goes_round (mode.BeforeEquals tag name) o is_white (λ p d w. rw w refl) (λ d w. refl) cs (at + length (encode_utf8 c)) parts.1)
    (goes_once (mode.BeforeEquals tag name) (mode.AfterEquals tag name) o o (at + length (encode_utf8 c) + length (encode_utf8_all cs)) 61 [] refl refl)))

pub quote_is : (P : ℕ → Type 0) → P 34 → P 39 → (c : ℕ) → is_quote c ≡ true → P c
quote_is P double single c quote = by (c == 34) (c == 39) (eqb-true c 34) (eqb-true c 39) quote
  where
    by : (s t : Bool) → (s ≡ true → c ≡ 34) → (t ≡ true → c ≡ 39) → (s || t) ≡ true → P c
    by true t a b h = subst P (sym (a refl)) double
    by false true a b h = subst P (sym (b refl)) single
    by false false a b h = absurd cc

abbrev no_value : ℕ → ReadValue
no_value quote = record { quote = quote; text = Some []; after_return = false }

-- up to the quote
quote_goes : (o : Outer) (tag : ReadTag) (name : ReadName) (after : List ℕ) (quote at : ℕ) → list_all is_white after ≡ true → is_quote quote ≡ true → Goes (state at (mode.AfterEquals tag name) o) (after ++ quote ∷ []) (state (at + (length (encode_utf8_all after) + 1)) (mode.Value tag name (no_value quote)) o) []
unfolding next finds encode
quote_goes o tag name after quote at white is =
    let one : length (encode_utf8 quote) ≡ 1 = quote_is (λ q. length (encode_utf8 q) ≡ 1) refl refl quote is in
    goes_at (state at (mode.AfterEquals tag name) o) (after ++ quote ∷ []) (mode.Value tag name (no_value quote)) o [] (at + length (encode_utf8_all after) + length (encode_utf8 quote)) (at + (length (encode_utf8_all after) + 1))
    (omega (arith, one))
    (goes_on_to _ _ _ after (quote ∷ []) [] [] (goes_round (mode.AfterEquals tag name) o is_white (λ p d w. rw w refl) (λ d w. refl) after at white)
    (goes_once (mode.AfterEquals tag name) (mode.Value tag name (no_value quote)) o o (at + length (encode_utf8_all after)) quote [] (quote_is (λ q. next (mode.AfterEquals tag name) o (at + length (encode_utf8_all after)) q ≡ Some (mode.Value tag name (no_value q), o)) refl refl quote is) refl))

-- the closing quote
closes : (o : Outer) (tag : ReadTag) (name : ReadName) (v : ReadValue) (quote at : ℕ) → v.quote ≡ quote → is_quote quote ≡ true → Goes (state at (mode.Value tag name v) o) (quote ∷ []) (state (at + 1) (mode.InTag (with_attribute tag name v) false) o) []
unfolding next finds encode xml_ranges
closes o tag name v quote at same is =
    let one : length (encode_utf8 quote) ≡ 1 = quote_is (λ q. length (encode_utf8 q) ≡ 1) refl refl quote is in
    subst (λ n. Goes (state at (mode.Value tag name v) o) (quote ∷ []) (state (at + n) (mode.InTag (with_attribute tag name v) false) o) []) one
    (goes_once (mode.Value tag name v) (mode.InTag (with_attribute tag name v) false) o o at quote [] (by v.quote same) refl)
  where
    by : (q : ℕ) → q ≡ quote → next (mode.Value tag name (record { quote = q; text = v.text; after_return = v.after_return })) o at quote ≡ Some (mode.InTag (with_attribute tag name v) false, o)
    by q is_it = subst (λ r. next (mode.Value tag name (record { quote = r; text = v.text; after_return = v.after_return })) o at quote ≡ Some (mode.InTag (with_attribute tag name v) false, o)) (sym is_it) (quote_is (λ r. next (mode.Value tag name (record { quote = r; text = v.text; after_return = v.after_return })) o at r ≡ Some (mode.InTag (with_attribute tag name v) false, o)) refl refl quote is)

behind_quote : (ps : List Piece) (v : ReadValue) → (value_behind v ps).quote ≡ v.quote
behind_quote [] v = refl
behind_quote (p ∷ ps) v = behind_quote ps (value_next v p) ∙ same_quote v p

-- a tag with more attributes
abbrev with_read : ReadTag → List ReadAttribute → ReadTag
with_read tag more = record { at = tag.at; name = tag.name; attributes = tag.attributes ++ more }

-- where an attribute begins that is at this place with the white space before it, and its value
abbrev name_place : ℕ → Attribute → ℕ
name_place at a = at + length (encode_utf8_all a.gap)

abbrev value_place : ℕ → Attribute → ℕ
value_place at a = name_place at a + (length (encode_utf8_all a.name) + (length (encode_utf8_all a.before) + (length (encode_utf8_all a.after) + 2)))

abbrev attribute_read : ℕ → Attribute → ReadAttribute
attribute_read at a = record { name = a.name; at = name_place at a; value = value_of a.value }

abbrev value_end : ℕ → Attribute → ℕ
value_end at a = value_place at a + length (flat_map spell_piece a.value)

attribute_size : (a : Attribute) (at : ℕ) → is_quote a.quote ≡ true → value_end at a + 1 ≡ at + length (spell_attribute a)
attribute_size a at is =
    let values = flat_map spell_piece a.value ++ a.quote ∷ [] in
    let before = encode_utf8_all a.before ++ 61 ∷ (encode_utf8_all a.after ++ a.quote ∷ values) in
    omega (arith, length-append (encode_utf8_all a.gap) (encode_utf8_all a.name ++ before), length-append (encode_utf8_all a.name) before, length-append (encode_utf8_all a.before) (61 ∷ (encode_utf8_all a.after ++ a.quote ∷ values)), length-append (encode_utf8_all a.after) (a.quote ∷ values), length-append (flat_map spell_piece a.value) (a.quote ∷ []))

-- the parts of a lawful attribute
pub record LawfulAttribute (a : Attribute) : Type 0 where
  pub gap : is_gap a.gap ≡ true
  name : is_name a.name ≡ true
  before : list_all is_white a.before ≡ true
  after : list_all is_white a.after ≡ true
  quote : is_quote a.quote ≡ true
  value : list_all (is_piece (is_value_char a.quote)) a.value ≡ true

lawful_parts : (a : Attribute) → is_attribute a ≡ true → LawfulAttribute a
lawful_parts a h =
    let one = and_parts (is_gap a.gap) (is_name a.name && (list_all is_white a.before && (list_all is_white a.after && (is_quote a.quote && list_all (is_piece (is_value_char a.quote)) a.value)))) h in
    let two = and_parts (is_name a.name) (list_all is_white a.before && (list_all is_white a.after && (is_quote a.quote && list_all (is_piece (is_value_char a.quote)) a.value))) one.1 in
    let three = and_parts (list_all is_white a.before) (list_all is_white a.after && (is_quote a.quote && list_all (is_piece (is_value_char a.quote)) a.value)) two.1 in
    let four = and_parts (list_all is_white a.after) (is_quote a.quote && list_all (is_piece (is_value_char a.quote)) a.value) three.1 in
    let five = and_parts (is_quote a.quote) (list_all (is_piece (is_value_char a.quote)) a.value) four.1 in
    record { gap = one.0; name = two.0; before = three.0; after = four.0; quote = five.0; value = five.1 }

value_ends : (o : Outer) (tag : ReadTag) (name : ReadName) (a : Attribute) (at : ℕ) → LawfulAttribute a →
    Goes (state at (mode.Value tag name (no_value a.quote)) o) (flat_map write_piece a.value ++ a.quote ∷ []) (state (at + length (flat_map spell_piece a.value) + 1) (mode.InTag (with_read tag (record { name = name.name; at = name.at; value = value_of a.value } ∷ [])) false) o) (value_faults at a.value)
value_ends o tag name a at lawful =
    let v = value_behind (no_value a.quote) a.value in
    let last = at + length (flat_map spell_piece a.value) in
    subst (λ text. Goes (state at (mode.Value tag name (no_value a.quote)) o) (flat_map write_piece a.value ++ a.quote ∷ []) (state (last + 1) (mode.InTag (with_read tag (record { name = name.name; at = name.at; value = text } ∷ [])) false) o) (value_faults at a.value)) (value_read a.quote a.value)
    (subst (λ fs. Goes (state at (mode.Value tag name (no_value a.quote)) o) (flat_map write_piece a.value ++ a.quote ∷ []) (state (last + 1) (mode.InTag (with_attribute tag name v) false) o) fs) (append-nil (value_faults at a.value))
    (goes_on_to _ _ _ (flat_map write_piece a.value) (a.quote ∷ []) (value_faults at a.value) [] (value_goes tag name o a.value (no_value a.quote) at lawful.value)
    (closes o tag name v a.quote last (behind_quote a.value (no_value a.quote)) lawful.quote)))

attribute_goes : (f : Option Bool) (o : Outer) (tag : ReadTag) (a : Attribute) (at : ℕ) → LawfulAttribute a →
    Goes (state at (front f tag) o) (write_attribute a) (state (value_end at a + 1) (mode.InTag (with_read tag (attribute_read at a ∷ [])) false) o) (value_faults (value_place at a) a.value)
attribute_goes f o tag a at lawful =
    let name = read_name (name_place at a) a.name in
    let named = name_place at a + length (encode_utf8_all a.name) in
    let equal = named + (length (encode_utf8_all a.before) + 1) in
    let quoted = equal + (length (encode_utf8_all a.after) + 1) in
    let place : quoted ≡ value_place at a = omega arith in
    let values = flat_map write_piece a.value ++ a.quote ∷ [] in
    let last = mode.InTag (with_read tag (attribute_read at a ∷ [])) false in
    subst (λ p. Goes (state at (front f tag) o) (write_attribute a) (state (p + length (flat_map spell_piece a.value) + 1) last o) (value_faults p a.value)) place
    (goes_on_to _ _ _ a.gap (a.name ++ (a.before ++ 61 ∷ (a.after ++ a.quote ∷ values))) [] (value_faults quoted a.value) (whole_gap_goes f o tag a.gap at lawful.gap)
    (goes_on_to _ _ _ a.name (a.before ++ 61 ∷ (a.after ++ a.quote ∷ values)) [] (value_faults quoted a.value) (attribute_name_goes o tag a.name (name_place at a) lawful.name)
    (behind a.before (61 ∷ []) (a.after ++ a.quote ∷ values) _ _ (value_faults quoted a.value)
    (goes_on_to _ _ _ (a.before ++ 61 ∷ []) (a.after ++ a.quote ∷ values) [] (value_faults quoted a.value) (equals_goes o tag name a.before named lawful.before)
    (behind a.after (a.quote ∷ []) values _ _ (value_faults quoted a.value)
    (goes_on_to _ _ _ (a.after ++ a.quote ∷ []) values [] (value_faults quoted a.value) (quote_goes o tag name a.after a.quote equal lawful.after lawful.quote)
    (value_ends o tag name a quoted lawful)))))))
  where
    behind : (xs ys zs : List ℕ) (s t : State) (fs : List Fault) → Goes s ((xs ++ ys) ++ zs) t fs → Goes s (xs ++ (ys ++ zs)) t fs
    behind xs ys zs s t fs h = subst (λ cs. Goes s cs t fs) (append_assoc xs ys zs) h

-- where the reader is behind attributes
abbrev front_after : Option Bool → List Attribute → Option Bool
front_after f [] = f
front_after f (a ∷ more) = front_after (Some false) more

attributes_go : (more : List Attribute) (f : Option Bool) (o : Outer) (tag : ReadTag) (at : ℕ) → list_all is_attribute more ≡ true →
    Goes (state at (front f tag) o) (flat_map write_attribute more) (state (at + length (flat_map spell_attribute more)) (front (front_after f more) (with_read tag (attributes_read at more))) o) (values_faults at more)
attributes_go [] f o tag at lawful =
    subst (λ kept. Goes (state at (front f tag) o) [] (state (at + 0) (front f (record { at = tag.at; name = tag.name; attributes = kept })) o) []) (sym (append-nil tag.attributes))
    (goes_at (state at (front f tag) o) [] (front f tag) o [] at (at + 0) (omega arith) (goes_nowhere (state at (front f tag) o)))
attributes_go (a ∷ more) f o tag at lawful =
    let parts = and_parts (is_attribute a) (list_all is_attribute more) lawful in
    let a_lawful = lawful_parts a parts.0 in
    let next_at = at + length (spell_attribute a) in
    let last = λ (attributes : List ReadAttribute). state (at + length (spell_attribute a ++ flat_map spell_attribute more)) (front (front_after (Some false) more) (record { at = tag.at; name = tag.name; attributes = attributes })) o in
    let fs = value_faults (value_place at a) a.value ++ values_faults next_at more in
    subst (λ attributes. Goes (state at (front f tag) o) (write_attribute a ++ flat_map write_attribute more) (last attributes) fs) (append_assoc tag.attributes (attribute_read at a ∷ []) (attributes_read next_at more))
    (goes_at (state at (front f tag) o) (write_attribute a ++ flat_map write_attribute more) (front (front_after (Some false) more) (with_read (with_read tag (attribute_read at a ∷ [])) (attributes_read next_at more))) o fs (next_at + length (flat_map spell_attribute more)) (at + length (spell_attribute a ++ flat_map spell_attribute more))
    (omega (arith, length-append (spell_attribute a) (flat_map spell_attribute more)))
    (goes_on_to _ _ _ (write_attribute a) (flat_map write_attribute more) (value_faults (value_place at a) a.value) (values_faults next_at more)
    (goes_at (state at (front f tag) o) (write_attribute a) (mode.InTag (with_read tag (attribute_read at a ∷ [])) false) o (value_faults (value_place at a) a.value) (value_end at a + 1) next_at (attribute_size a at a_lawful.quote) (attribute_goes f o tag a at a_lawful))
    (attributes_go more (Some false) o (with_read tag (attribute_read at a ∷ [])) next_at parts.1)))

abbrev named : ℕ → List ℕ → ReadTag
named at name = record { at = at; name = name; attributes = [] }

-- the name of a tag, whose first character tells its depth
tag_name_goes : (o : Outer) (at : ℕ) (name : List ℕ) → region o ≢ region_is.Behind → is_name name ≡ true →
    Goes (state (at + 1) (mode.Opened at) o) name (state (at + (1 + length (encode_utf8_all name))) (mode.TagName (named at name) false) o) (depth_faults (length o.opens) at name)
unfolding next finds is_name name_start_ranges name_more_ranges
tag_name_goes o at [] inside lawful = absurd cc
tag_name_goes o at (c ∷ cs) inside lawful =
    let parts = and_parts (is_name_start c) (goes_on false cs) lawful in
    let deep = if_found (nat_le 64 (length o.opens)) kind.Depth at in
    let first : Goes (state (at + 1) (mode.Opened at) o) (c ∷ []) (state (at + 1 + length (encode_utf8 c)) (mode.TagName (named at (c ∷ [])) false) o) (ending (at + 1 + length (encode_utf8 c)) deep) =
    goes_once (mode.Opened at) (mode.TagName (named at (c ∷ [])) false) o o (at + 1) c deep (opens (region o) inside parts.0) (rw parts.0 refl) in
    let place : at + 1 + length (encode_utf8 c) ≡ at + (1 + length (encode_utf8 c)) = omega arith in
    let noted_there : ending (at + 1 + length (encode_utf8 c)) deep ≡ depth_faults (length o.opens) at (c ∷ cs) = ap (λ p. ending p deep) place ∙ ending_found (nat_le 64 (length o.opens)) kind.Depth at (at + (1 + length (encode_utf8 c))) in
    subst (λ fs. Goes (state (at + 1) (mode.Opened at) o) (c ∷ cs) (state (at + (1 + length (encode_utf8 c ++ encode_utf8_all cs))) (mode.TagName (named at (c ∷ cs)) false) o) fs) (append-nil (ending (at + 1 + length (encode_utf8 c)) deep) ∙ noted_there)
    (goes_at (state (at + 1) (mode.Opened at) o) (c ∷ cs) (mode.TagName (named at (c ∷ cs)) false) o (ending (at + 1 + length (encode_utf8 c)) deep ++ []) (at + 1 + length (encode_utf8 c) + length (encode_utf8_all cs)) (at + (1 + length (encode_utf8 c ++ encode_utf8_all cs)))
    (omega (arith, length-append (encode_utf8 c) (encode_utf8_all cs)))
    (goes_on_to _ _ _ (c ∷ []) cs (ending (at + 1 + length (encode_utf8 c)) deep) [] first
    (goes_names (λ name starts. mode.TagName (named at name) starts) o
    (λ name p d starts. (rw starts refl, rw (other is_name_start d 62 starts refl) refl))
    (λ name p d char. (rw char refl, rw (other is_name_char d 62 char refl) refl))
    (λ name p. (refl, refl)) cs (c ∷ []) false (at + 1 + length (encode_utf8 c)) parts.1)))
  where
    opens : (r : Region) → r ≢ region_is.Behind → is_name_start c ≡ true → stays o (opened_step r at c) ≡ Some (mode.TagName (named at (c ∷ [])) false, o)
    opens region_is.Before not_behind starts = rw starts refl
    opens region_is.Inside not_behind starts = rw starts refl
    opens region_is.Behind not_behind starts = absurd (not_behind refl)

-- where the reader is behind what a tag has between its brackets
abbrev last_front : Tag → Option Bool
last_front tag = front_behind (front_after None tag.attributes) tag.gap

tag_goes : (o : Outer) (at : ℕ) (tag : Tag) → region o ≢ region_is.Behind → is_tag tag ≡ true →
    Goes (state (at + 1) (mode.Opened at) o) (write_tag tag) (state (at + (1 + length (spell_tag tag))) (front (last_front tag) (tag_read at tag)) o) (early_faults (length o.opens) at tag)
tag_goes o at tag not_behind lawful =
    let one = and_parts (is_name tag.name) (list_all is_attribute tag.attributes && list_all is_white tag.gap) lawful in
    let two = and_parts (list_all is_attribute tag.attributes) (list_all is_white tag.gap) one.1 in
    let named_at = at + (1 + length (encode_utf8_all tag.name)) in
    let gap_at = named_at + length (flat_map spell_attribute tag.attributes) in
    let gap_bytes = encode_utf8_all tag.gap in
    let attributes_bytes = flat_map spell_attribute tag.attributes in
    let fs = depth_faults (length o.opens) at tag.name in
    let gs = values_faults named_at tag.attributes in
    goes_at (state (at + 1) (mode.Opened at) o) (write_tag tag) (front (last_front tag) (tag_read at tag)) o (fs ++ gs) (gap_at + length gap_bytes) (at + (1 + length (spell_tag tag)))
    (omega (arith, length-append (encode_utf8_all tag.name) (attributes_bytes ++ gap_bytes), length-append attributes_bytes gap_bytes))
    (goes_on_to _ _ _ tag.name (flat_map write_attribute tag.attributes ++ tag.gap) fs gs (tag_name_goes o at tag.name not_behind one.0)
    (subst (λ hs. Goes (state named_at (mode.TagName (named at tag.name) false) o) (flat_map write_attribute tag.attributes ++ tag.gap) (state (gap_at + length gap_bytes) (front (last_front tag) (tag_read at tag)) o) hs) (append-nil gs)
    (goes_on_to _ _ _ (flat_map write_attribute tag.attributes) tag.gap gs [] (attributes_go tag.attributes None o (named at tag.name) named_at two.0)
    (gap_goes (front_after None tag.attributes) o (tag_read at tag) tag.gap gap_at two.1))))

start_ends : (f : Option Bool) (o : Outer) (tag : ReadTag) (at : ℕ) → Goes (state at (front f tag) o) (62 ∷ []) (state (at + 1) (mode.Content 0 false) (started o tag)) (ending (at + 1) (start_finds o tag))
unfolding next finds encode name_start_ranges name_more_ranges
start_ends None o tag at = goes_once (mode.TagName tag false) (mode.Content 0 false) o (started o tag) at 62 (start_finds o tag) refl refl
start_ends (Some true) o tag at = goes_once (mode.InTag tag true) (mode.Content 0 false) o (started o tag) at 62 (start_finds o tag) refl refl
start_ends (Some false) o tag at = goes_once (mode.InTag tag false) (mode.Content 0 false) o (started o tag) at 62 (start_finds o tag) refl refl

slash_goes : (f : Option Bool) (o : Outer) (tag : ReadTag) (at : ℕ) → Goes (state at (front f tag) o) (47 ∷ []) (state (at + 1) (mode.Slash tag) o) []
unfolding next finds encode name_start_ranges name_more_ranges
slash_goes None o tag at = goes_once (mode.TagName tag false) (mode.Slash tag) o o at 47 [] refl refl
slash_goes (Some true) o tag at = goes_once (mode.InTag tag true) (mode.Slash tag) o o at 47 [] refl refl
slash_goes (Some false) o tag at = goes_once (mode.InTag tag false) (mode.Slash tag) o o at 47 [] refl refl

hollow_ends : (o : Outer) (tag : ReadTag) (at : ℕ) → Goes (state at (mode.Slash tag) o) (62 ∷ []) (state (at + 1) (mode.Content 0 false) (hollowed o tag)) (ending (at + 1) (hollow_finds o tag))
unfolding next finds encode
hollow_ends o tag at = goes_once (mode.Slash tag) (mode.Content 0 false) o (hollowed o tag) at 62 (hollow_finds o tag) refl refl

pub starts_are_taken : StartsAreTaken
starts_are_taken o at tag not_behind lawful =
    let fs = early_faults (length o.opens) at tag in
    let last = at + (1 + length (spell_tag tag)) in
    subst (λ p. Goes (state (at + 1) (mode.Opened at) o) (write_tag tag ++ 62 ∷ []) (state p (mode.Content 0 false) (started o (tag_read at tag))) (fs ++ ending p (start_finds o (tag_read at tag)))) (one_more at (length (spell_tag tag)))
    (goes_on_to _ _ _ (write_tag tag) (62 ∷ []) fs (ending (last + 1) (start_finds o (tag_read at tag))) (tag_goes o at tag not_behind lawful) (start_ends (last_front tag) o (tag_read at tag) last))
  where
    one_more : (at n : ℕ) → at + (1 + n) + 1 ≡ at + (2 + n)
    one_more at n = omega arith

pub hollows_are_taken : HollowsAreTaken
hollows_are_taken o at tag not_behind lawful =
    let fs = early_faults (length o.opens) at tag in
    let last = at + (1 + length (spell_tag tag)) in
    subst (λ p. Goes (state (at + 1) (mode.Opened at) o) (write_tag tag ++ 47 ∷ 62 ∷ []) (state p (mode.Content 0 false) (hollowed o (tag_read at tag))) (fs ++ ending p (hollow_finds o (tag_read at tag)))) (two_more at (length (spell_tag tag)))
    (goes_on_to _ _ _ (write_tag tag) (47 ∷ 62 ∷ []) fs (ending (last + 1 + 1) (hollow_finds o (tag_read at tag))) (tag_goes o at tag not_behind lawful)
    (goes_on_to _ _ _ (47 ∷ []) (62 ∷ []) [] (ending (last + 1 + 1) (hollow_finds o (tag_read at tag))) (slash_goes (last_front tag) o (tag_read at tag) last) (hollow_ends o (tag_read at tag) (last + 1))))
  where
    two_more : (at n : ℕ) → at + (1 + n) + 1 + 1 ≡ at + (3 + n)
    two_more at n = omega arith

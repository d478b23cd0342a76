-- What was read begins a document, wherever the reader is: a few characters more, and no token is open.
use Rattle.std.proofs.Common.{◌≡◌, ℕ, zero, suc, Bool, true, false, ◌&&◌, ◌||◌, List, [], ◌∷◌, ◌++◌, length, refl, ap, subst, sym, ◌∙◌, arith, append_assoc, append-nil, Some}
use Rattle.std.proofs.lemmas.Bool.{eqb-true, eq-eqb}
use Rattle.std.specs.Prelude.{◌==◌}
use Rattle.pws_tree.specs.Characters.{name_start_ranges, name_more_ranges, xml_ranges}
use Rattle.pws_mark.specs.Scan.{next, stays, region, opened_step, bang_step, reference_step, section_word, with_attribute, brackets_taken, text_bytes, end_gap_step, end_name_step}
use Rattle.pws_mark.specs.States.{Open, Outer, taken, ended}
use Rattle.pws_mark.specs.Tokens.{is_quote, is_value_char}
use Rattle.pws_mark.specs.declared.modes.Mode.{Mode}
use Rattle.pws_mark.specs.declared.modes.Mode.TheVariants as mode
use Rattle.pws_mark.specs.declared.modes.ReadName.{ReadName}
use Rattle.pws_mark.specs.declared.modes.ReadTag.{ReadTag}
use Rattle.pws_mark.specs.declared.modes.ReadValue.{ReadValue}
use Rattle.pws_mark.specs.declared.modes.Reference.{Reference}
use Rattle.pws_mark.specs.declared.modes.Reference.TheVariants as reference
use Rattle.pws_mark.specs.declared.modes.Region.{Region}
use Rattle.pws_mark.specs.declared.modes.Region.TheVariants as region_is
use Rattle.pws_mark.proofs.Standing.{Context, Before, Inside, Behind, At, Agrees, Reaches, written, innermost, is_inside, names_of, frame_names}
use Rattle.pws_mark.proofs.StandingModes.{StandsIn, at_more}
use Rattle.pws_mark.proofs.StandingRuns.{goes_on}
use Rattle.pws_mark.proofs.TakesEnds.{has_none_behind}

-- from this mode a document is reached
pub record Ends (m : Mode) (o : Outer) : Type 0 where
  pub reaches : (front : List ℕ) → StandsIn m o front → Reaches front

pub then_ends : (m n : Mode) (o p : Outer) (c : ℕ) → next m o 0 c ≡ Some (n, p) → Ends n p → Ends m o
then_ends m n o p c e more = record {
  reaches = λ front h. let r = more.reaches (front ++ c ∷ []) (goes_on m o front 0 c (n, p) h e) in record {
    context = r.context;
    lawful = r.lawful;
    more = c ∷ r.more;
    is = r.is ∙ append_assoc front (c ∷ []) r.more;
  };
}

pub content_ends : (n : ℕ) (ret : Bool) (o : Outer) → Ends (mode.Content n ret) o
content_ends n ret o = record {
  reaches = λ front h. record {
    context = h.here.context;
    lawful = h.here.lawful;
    more = [];
    is = sym (append-nil (written h.here.context)) ∙ (sym h.here.front_is ∙ sym (append-nil front));
  };
}

-- a reference in text
text_entity : (place : ℕ) (name : List ℕ) (o : Outer) → Ends (mode.TextReference place (reference.Entity name false)) o
unfolding next reference_step name_start_ranges name_more_ranges
text_entity place name o = then_ends _ _ o _ 59 refl (content_ends 0 false _)

text_decimal : (place n : ℕ) (o : Outer) → Ends (mode.TextReference place (reference.Decimal n)) o
unfolding next reference_step
text_decimal place n o = then_ends _ _ o _ 59 refl (content_ends 0 false _)

text_hexadecimal : (place n : ℕ) (o : Outer) → Ends (mode.TextReference place (reference.Hexadecimal n)) o
unfolding next reference_step
text_hexadecimal place n o = then_ends _ _ o _ 59 refl (content_ends 0 false _)

pub text_ends : (place : ℕ) (r : Reference) (o : Outer) → Ends (mode.TextReference place r) o
unfolding next reference_step name_start_ranges name_more_ranges
text_ends place reference.Begun o = then_ends _ _ o o 97 refl (text_entity place _ o)
text_ends place (reference.Entity name true) o = then_ends _ _ o o 97 refl (text_entity place _ o)
text_ends place (reference.Entity name false) o = text_entity place name o
text_ends place reference.Number o = then_ends _ _ o o 48 refl (text_decimal place _ o)
text_ends place reference.HexadecimalBegun o = then_ends _ _ o o 48 refl (text_hexadecimal place _ o)
text_ends place (reference.Decimal n) o = text_decimal place n o
text_ends place (reference.Hexadecimal n) o = text_hexadecimal place n o

-- a comment
comment_closed : (o : Outer) → Ends (mode.Comment 2) o
unfolding next
comment_closed o = then_ends _ _ o o 62 refl (content_ends 0 false o)

comment_begun : (o : Outer) → Ends (mode.Comment 0) o
unfolding next xml_ranges
comment_begun o = then_ends _ (mode.Comment 1) o o 45 refl (then_ends _ (mode.Comment 2) o o 45 refl (comment_closed o))

pub comment_ends : (n : ℕ) (o : Outer) → Ends (mode.Comment n) o
unfolding next xml_ranges
comment_ends n o = by (n == 2) refl
  where
    by : (b : Bool) → (n == 2) ≡ b → Ends (mode.Comment n) o
    by true e = subst (λ k. Ends (mode.Comment k) o) (sym (eqb-true n 2 e)) (comment_closed o)
    by false e = then_ends _ (mode.Comment 0) o o 97 (rw e refl) (comment_begun o)

pub dash_ends : (o : Outer) → Ends mode.Dash o
unfolding next
dash_ends o = then_ends _ _ o o 45 refl (comment_begun o)

bang_dash : (r : Region) → bang_step r 45 ≡ Some mode.Dash
bang_dash region_is.Before = refl
bang_dash region_is.Inside = refl
bang_dash region_is.Behind = refl

pub bang_ends : (o : Outer) → Ends mode.Bang o
unfolding next
bang_ends o = then_ends _ _ o o 45 (ap (stays o) (bang_dash (region o))) (dash_ends o)

opened_bang : (r : Region) (place : ℕ) → opened_step r place 33 ≡ Some mode.Bang
unfolding name_start_ranges
opened_bang region_is.Before place = refl
opened_bang region_is.Inside place = refl
opened_bang region_is.Behind place = refl

pub opened_ends : (place : ℕ) (o : Outer) → Ends (mode.Opened place) o
unfolding next
opened_ends place o = then_ends _ _ o o 33 (ap (stays o) (opened_bang (region o) place)) (bang_ends o)

pub head_opened_ends : (place : ℕ) (o : Outer) → Ends (mode.HeadOpened place) o
unfolding next
head_opened_ends place o = then_ends _ _ o o 33 (ap (stays o) (opened_bang region_is.Before place)) (bang_ends o)

pub start_ends : (marked : Bool) (o : Outer) → Ends (mode.Start marked) o
unfolding next
start_ends marked o = then_ends _ _ o o 32 refl (content_ends 0 false o)

-- a section
section_closed : (ret : Bool) (o : Outer) → Ends (mode.Section 2 ret) o
unfolding next
section_closed ret o = then_ends _ _ o o 62 refl (content_ends 0 false o)

section_begun : (ret : Bool) (o : Outer) → Ends (mode.Section 0 ret) o
unfolding next
section_begun ret o = then_ends _ (mode.Section 1 ret) o o 93 refl (then_ends _ (mode.Section 2 ret) o o 93 refl (section_closed ret o))

pub section_ends : (n : ℕ) (ret : Bool) (o : Outer) → Ends (mode.Section n ret) o
unfolding next xml_ranges
section_ends n ret o = by (n == 2) refl
  where
    by : (b : Bool) → (n == 2) ≡ b → Ends (mode.Section n ret) o
    by true e = subst (λ k. Ends (mode.Section k ret) o) (sym (eqb-true n 2 e)) (section_closed ret o)
    by false e = then_ends _ (mode.Section 0 false) o (taken (brackets_taken o 0 n) 0 (Some 97) (text_bytes (n == 0 && ret) 97)) 97 (rw e refl) (section_begun false _)

word_five : (o : Outer) → Ends (mode.SectionWord 5) o
unfolding next section_word
word_five o = then_ends _ (mode.Section 0 false) o o 91 refl (section_begun false o)

word_four : (o : Outer) → Ends (mode.SectionWord 4) o
unfolding next section_word
word_four o = then_ends _ (mode.SectionWord 5) o o 65 refl (word_five o)

word_three : (o : Outer) → Ends (mode.SectionWord 3) o
unfolding next section_word
word_three o = then_ends _ (mode.SectionWord 4) o o 84 refl (word_four o)

word_two : (o : Outer) → Ends (mode.SectionWord 2) o
unfolding next section_word
word_two o = then_ends _ (mode.SectionWord 3) o o 65 refl (word_three o)

word_one : (o : Outer) → Ends (mode.SectionWord 1) o
unfolding next section_word
word_one o = then_ends _ (mode.SectionWord 2) o o 68 refl (word_two o)

word_zero : (o : Outer) → Ends (mode.SectionWord 0) o
unfolding next section_word
word_zero o = then_ends _ (mode.SectionWord 1) o o 67 refl (word_one o)

pub section_word_ends : (n : ℕ) (o : Outer) → Ends (mode.SectionWord n) o
section_word_ends zero o = word_zero o
section_word_ends (suc zero) o = word_one o
section_word_ends (suc (suc zero)) o = word_two o
section_word_ends (suc (suc (suc zero))) o = word_three o
section_word_ends (suc (suc (suc (suc zero)))) o = word_four o
section_word_ends (suc (suc (suc (suc (suc zero))))) o = word_five o
section_word_ends (suc (suc (suc (suc (suc (suc n)))))) o = record { reaches = λ front h. absurd (omega (arith, h.few)) }

-- in a tag
pub slash_ends : (t : ReadTag) (o : Outer) → Ends (mode.Slash t) o
unfolding next
slash_ends t o = then_ends _ _ o _ 62 refl (content_ends 0 false _)

tag_name_whole : (t : ReadTag) (o : Outer) → Ends (mode.TagName t false) o
unfolding next name_start_ranges name_more_ranges
tag_name_whole t o = then_ends _ _ o o 47 refl (slash_ends t o)

pub tag_name_ends : (t : ReadTag) (starts : Bool) (o : Outer) → Ends (mode.TagName t starts) o
unfolding next name_start_ranges
tag_name_ends t true o = then_ends _ _ o o 97 refl (tag_name_whole _ o)
tag_name_ends t false o = tag_name_whole t o

pub in_tag_ends : (t : ReadTag) (spaced : Bool) (o : Outer) → Ends (mode.InTag t spaced) o
unfolding next name_start_ranges
in_tag_ends t true o = then_ends _ _ o o 47 refl (slash_ends t o)
in_tag_ends t false o = then_ends _ _ o o 47 refl (slash_ends t o)

other_one : (a b : Bool) → (a || b) ≡ true → a ≡ false → b ≡ true
other_one true b h e = absurd cc
other_one false b h e = h

-- a quote ends its value
quote_ends : (q : ℕ) → is_quote q ≡ true → (is_value_char q q ≡ false) × ((q == 38) ≡ false)
unfolding xml_ranges
quote_ends q is = by (q == 34) refl
  where
    by : (b : Bool) → (q == 34) ≡ b → (is_value_char q q ≡ false) × ((q == 38) ≡ false)
    by true e = subst (λ k. (is_value_char k k ≡ false) × ((k == 38) ≡ false)) (sym (eqb-true q 34 e)) (refl, refl)
    by false e = subst (λ k. (is_value_char k k ≡ false) × ((k == 38) ≡ false)) (sym (eqb-true q 39 (other_one (q == 34) (q == 39) is e))) (refl, refl)

pub value_ends : (t : ReadTag) (n : ReadName) (v : ReadValue) (o : Outer) → Ends (mode.Value t n v) o
unfolding next
value_ends t n v o = record { reaches = λ front h. let q = quote_ends v.quote h.quote in (then_ends (mode.Value t n v) (mode.InTag (with_attribute t n v) false) o o v.quote (rw (q.0, q.1, eq-eqb v.quote v.quote refl) refl) (in_tag_ends _ false o)).reaches front h }

pub after_equals_ends : (t : ReadTag) (n : ReadName) (o : Outer) → Ends (mode.AfterEquals t n) o
unfolding next
after_equals_ends t n o = then_ends _ _ o o 34 refl (value_ends t n _ o)

pub before_equals_ends : (t : ReadTag) (n : ReadName) (o : Outer) → Ends (mode.BeforeEquals t n) o
unfolding next
before_equals_ends t n o = then_ends _ _ o o 61 refl (after_equals_ends t n o)

attribute_name_whole : (t : ReadTag) (n : ReadName) (o : Outer) → Ends (mode.AttributeName t n false) o
unfolding next name_start_ranges name_more_ranges
attribute_name_whole t n o = then_ends _ _ o o 61 refl (after_equals_ends t n o)

pub attribute_name_ends : (t : ReadTag) (n : ReadName) (starts : Bool) (o : Outer) → Ends (mode.AttributeName t n starts) o
unfolding next name_start_ranges
attribute_name_ends t n true o = then_ends _ _ o o 97 refl (attribute_name_whole t _ o)
attribute_name_ends t n false o = attribute_name_whole t n o

-- a reference in a value
value_entity : (t : ReadTag) (n : ReadName) (v : ReadValue) (place : ℕ) (name : List ℕ) (o : Outer) → Ends (mode.ValueReference t n v place (reference.Entity name false)) o
unfolding next reference_step name_start_ranges name_more_ranges
value_entity t n v place name o = then_ends _ _ o o 59 refl (value_ends t n _ o)

value_decimal : (t : ReadTag) (n : ReadName) (v : ReadValue) (place k : ℕ) (o : Outer) → Ends (mode.ValueReference t n v place (reference.Decimal k)) o
unfolding next reference_step
value_decimal t n v place k o = then_ends _ _ o o 59 refl (value_ends t n _ o)

value_hexadecimal : (t : ReadTag) (n : ReadName) (v : ReadValue) (place k : ℕ) (o : Outer) → Ends (mode.ValueReference t n v place (reference.Hexadecimal k)) o
unfolding next reference_step
value_hexadecimal t n v place k o = then_ends _ _ o o 59 refl (value_ends t n _ o)

pub value_reference_ends : (t : ReadTag) (n : ReadName) (v : ReadValue) (place : ℕ) (r : Reference) (o : Outer) → Ends (mode.ValueReference t n v place r) o
unfolding next reference_step name_start_ranges name_more_ranges
value_reference_ends t n v place reference.Begun o = then_ends _ _ o o 97 refl (value_entity t n v place _ o)
value_reference_ends t n v place (reference.Entity name true) o = then_ends _ _ o o 97 refl (value_entity t n v place _ o)
value_reference_ends t n v place (reference.Entity name false) o = value_entity t n v place name o
value_reference_ends t n v place reference.Number o = then_ends _ _ o o 48 refl (value_decimal t n v place _ o)
value_reference_ends t n v place reference.HexadecimalBegun o = then_ends _ _ o o 48 refl (value_hexadecimal t n v place _ o)
value_reference_ends t n v place (reference.Decimal k) o = value_decimal t n v place k o
value_reference_ends t n v place (reference.Hexadecimal k) o = value_hexadecimal t n v place k o

-- an end tag: the innermost of the open elements
record Innermost (x : Context) (o : Outer) : Type 0 where
  first : Open
  more : List Open
  opens : o.opens ≡ first ∷ more
  name : first.name ≡ innermost x

innermost_is : (x : Context) (o : Outer) → is_inside x ≡ true → Agrees x o → Innermost x o
innermost_is (Before h) o is agrees = absurd cc
innermost_is (Behind h root after) o is agrees = absurd cc
innermost_is (Inside h f fs) o is agrees = by o.opens refl agrees
  where
    by : (os : List Open) → o.opens ≡ os → names_of os ≡ frame_names (f ∷ fs) → Innermost (Inside h f fs) o
    by [] e g = absurd cc
    by (y ∷ ys) e g = record { first = y; more = ys; opens = e; name = (let i : y.name ≡ f.tag.name = cc in i) }

gap_closes : (o : Outer) (x : Open) (xs : List Open) → o.opens ≡ x ∷ xs → next mode.EndGap o 0 62 ≡ Some (mode.Content 0 false, ended x xs o.events o.text)
unfolding next
gap_closes o x xs e = ap (λ os. end_gap_step o os 62) e

name_closes : (o : Outer) (x : Open) (xs : List Open) (done : List ℕ) → o.opens ≡ x ∷ xs → x.name ≡ done → next (mode.EndName (length done)) o 0 62 ≡ Some (mode.Content 0 false, ended x xs o.events o.text)
unfolding next
name_closes o x xs done e name = ap (λ os. end_name_step o os (length done) 62) e ∙ rw (name, has_none_behind done 62, eq-eqb (length done) (length done) refl) refl

pub end_gap_ends : (o : Outer) → Ends mode.EndGap o
unfolding next
end_gap_ends o = record { reaches = λ front h. let i = innermost_is h.here.context o h.inside h.here.agrees in (then_ends mode.EndGap (mode.Content 0 false) o (ended i.first i.more o.events o.text) 62 (gap_closes o i.first i.more i.opens) (content_ends 0 false _)).reaches front h }

name_reaches : (todo done : List ℕ) (o : Outer) (front : List ℕ) (here : At o front (60 ∷ 47 ∷ done)) → is_inside here.context ≡ true → innermost here.context ≡ done ++ todo → Reaches front
unfolding next
name_reaches [] done o front here inside is =
    let i = innermost_is here.context o inside here.agrees in
    let name : i.first.name ≡ done = i.name ∙ (is ∙ append-nil done) in
    (then_ends (mode.EndName (length done)) (mode.Content 0 false) o (ended i.first i.more o.events o.text) 62 (name_closes o i.first i.more done i.opens name) (content_ends 0 false _)).reaches front
    (record { done = done; todo = []; here = here; inside = inside; name = is; size = refl })
name_reaches (c ∷ todo) done o front here inside is =
    let r = name_reaches todo (done ++ c ∷ []) o (front ++ c ∷ []) (at_more o front (60 ∷ 47 ∷ done) (60 ∷ 47 ∷ (done ++ c ∷ [])) c refl here) inside (is ∙ sym (append_assoc done (c ∷ []) todo)) in
    record { context = r.context; lawful = r.lawful; more = c ∷ r.more; is = r.is ∙ append_assoc front (c ∷ []) r.more }

pub end_name_ends : (n : ℕ) (o : Outer) → Ends (mode.EndName n) o
end_name_ends n o = record { reaches = λ front h. name_reaches h.todo h.done o front h.here h.inside h.name }

-- What was read begins a document: in a declaration, and wherever the reader is.
use Rattle.std.proofs.Common.{◌≡◌, ℕ, zero, suc, ◌+◌, ◌-◌, ◌<◌, ◌≤◌, Bool, true, false, List, [], ◌∷◌, map, length, refl, ap, subst, arith, length-append}
use Rattle.std.proofs.lemmas.List.{length-map}
use Rattle.std.proofs.lemmas.Bool.{eq-eqb}
use Rattle.pws_mark.specs.Scan.{next, part_word, literal_word, as_compared, declaring_step, has_at, part_behind}
use Rattle.pws_mark.specs.States.{Outer}
use Rattle.pws_mark.specs.declared.modes.Declaring.{Declaring}
use Rattle.pws_mark.specs.declared.modes.Declaring.TheVariants as declaring
use Rattle.pws_mark.specs.declared.modes.Literal.{Literal}
use Rattle.pws_mark.specs.declared.modes.Literal.TheVariants as literal
use Rattle.pws_mark.specs.declared.modes.Mode.{Mode}
use Rattle.pws_mark.specs.declared.modes.Mode.TheVariants as mode
use Rattle.pws_mark.specs.declared.modes.Part.{Part}
use Rattle.pws_mark.specs.declared.modes.Part.TheVariants as part
use Rattle.pws_mark.proofs.StandingModes.{InLiteral, may_come, Declared, None_read, Version_read, Encoding_read, All_read}
use Rattle.pws_mark.proofs.StandingEnds.{Ends, then_ends, content_ends, text_ends, comment_ends, dash_ends, bang_ends, opened_ends, head_opened_ends, start_ends, section_ends, section_word_ends, slash_ends, tag_name_ends, in_tag_ends, value_ends, after_equals_ends, before_equals_ends, attribute_name_ends, value_reference_ends, end_gap_ends, end_name_ends}
use Rattle.pws_mark.proofs.TakesEnds.{has_none_behind}

-- from this place of a declaration a document is reached
abbrev Declares : Declaring → Outer → Type 0
Declares d o = Ends (mode.Declaring d) o

end_ends : (o : Outer) → Declares declaring.End o
unfolding next declaring_step
end_ends o = then_ends _ _ o o 62 refl (content_ends 0 false o)

encoding_gap : (spaced : Bool) (o : Outer) → Declares (declaring.Gap part.Encoding spaced) o
unfolding next declaring_step
encoding_gap spaced o = then_ends _ _ o o 63 refl (end_ends o)

standalone_gap : (spaced : Bool) (o : Outer) → Declares (declaring.Gap part.Standalone spaced) o
unfolding next declaring_step
standalone_gap spaced o = then_ends _ _ o o 63 refl (end_ends o)

last_gap : (spaced : Bool) (o : Outer) → Declares (declaring.Gap part.End spaced) o
unfolding next declaring_step
last_gap spaced o = then_ends _ _ o o 63 refl (end_ends o)

one_three : (q : ℕ) (o : Outer) → Declares (declaring.Value literal.One q 3) o
unfolding next declaring_step literal_word
one_three q o = then_ends _ (mode.Declaring (declaring.Gap (part_behind literal.One) false)) o o q (rw (eq-eqb q q refl) refl) (encoding_gap false o)

one_two : (q : ℕ) (o : Outer) → Declares (declaring.Value literal.One q 2) o
unfolding next declaring_step literal_word
one_two q o = then_ends _ (mode.Declaring (declaring.Value literal.One q 3)) o o 48 refl (one_three q o)

one_one : (q : ℕ) (o : Outer) → Declares (declaring.Value literal.One q 1) o
unfolding next declaring_step literal_word
one_one q o = then_ends _ (mode.Declaring (declaring.Value literal.One q 2)) o o 46 refl (one_two q o)

one_zero : (q : ℕ) (o : Outer) → Declares (declaring.Value literal.One q 0) o
unfolding next declaring_step literal_word
one_zero q o = then_ends _ (mode.Declaring (declaring.Value literal.One q 1)) o o 49 refl (one_one q o)

utf8_five : (q : ℕ) (o : Outer) → Declares (declaring.Value literal.Utf8 q 5) o
unfolding next declaring_step literal_word
utf8_five q o = then_ends _ (mode.Declaring (declaring.Gap (part_behind literal.Utf8) false)) o o q (rw (eq-eqb q q refl) refl) (standalone_gap false o)

utf8_four : (q : ℕ) (o : Outer) → Declares (declaring.Value literal.Utf8 q 4) o
unfolding next declaring_step literal_word
utf8_four q o = then_ends _ (mode.Declaring (declaring.Value literal.Utf8 q 5)) o o 56 refl (utf8_five q o)

utf8_three : (q : ℕ) (o : Outer) → Declares (declaring.Value literal.Utf8 q 3) o
unfolding next declaring_step literal_word
utf8_three q o = then_ends _ (mode.Declaring (declaring.Value literal.Utf8 q 4)) o o 45 refl (utf8_four q o)

utf8_two : (q : ℕ) (o : Outer) → Declares (declaring.Value literal.Utf8 q 2) o
unfolding next declaring_step literal_word
utf8_two q o = then_ends _ (mode.Declaring (declaring.Value literal.Utf8 q 3)) o o 102 refl (utf8_three q o)

utf8_one : (q : ℕ) (o : Outer) → Declares (declaring.Value literal.Utf8 q 1) o
unfolding next declaring_step literal_word
utf8_one q o = then_ends _ (mode.Declaring (declaring.Value literal.Utf8 q 2)) o o 116 refl (utf8_two q o)

utf8_zero : (q : ℕ) (o : Outer) → Declares (declaring.Value literal.Utf8 q 0) o
unfolding next declaring_step literal_word
utf8_zero q o = then_ends _ (mode.Declaring (declaring.Value literal.Utf8 q 1)) o o 117 refl (utf8_one q o)

yes_three : (q : ℕ) (o : Outer) → Declares (declaring.Value literal.Yes q 3) o
unfolding next declaring_step literal_word
yes_three q o = then_ends _ (mode.Declaring (declaring.Gap (part_behind literal.Yes) false)) o o q (rw (eq-eqb q q refl) refl) (last_gap false o)

yes_two : (q : ℕ) (o : Outer) → Declares (declaring.Value literal.Yes q 2) o
unfolding next declaring_step literal_word
yes_two q o = then_ends _ (mode.Declaring (declaring.Value literal.Yes q 3)) o o 115 refl (yes_three q o)

yes_one : (q : ℕ) (o : Outer) → Declares (declaring.Value literal.Yes q 1) o
unfolding next declaring_step literal_word
yes_one q o = then_ends _ (mode.Declaring (declaring.Value literal.Yes q 2)) o o 101 refl (yes_two q o)

yes_zero : (q : ℕ) (o : Outer) → Declares (declaring.Value literal.Yes q 0) o
unfolding next declaring_step literal_word
yes_zero q o = then_ends _ (mode.Declaring (declaring.Value literal.Yes q 1)) o o 121 refl (yes_one q o)

no_two : (q : ℕ) (o : Outer) → Declares (declaring.Value literal.No q 2) o
unfolding next declaring_step literal_word
no_two q o = then_ends _ (mode.Declaring (declaring.Gap (part_behind literal.No) false)) o o q (rw (eq-eqb q q refl) refl) (last_gap false o)

no_one : (q : ℕ) (o : Outer) → Declares (declaring.Value literal.No q 1) o
unfolding next declaring_step literal_word
no_one q o = then_ends _ (mode.Declaring (declaring.Value literal.No q 2)) o o 111 refl (no_two q o)

no_zero : (q : ℕ) (o : Outer) → Declares (declaring.Value literal.No q 0) o
unfolding next declaring_step literal_word
no_zero q o = then_ends _ (mode.Declaring (declaring.Value literal.No q 1)) o o 110 refl (no_one q o)

literal_fits : (l : Literal) (q n : ℕ) (o : Outer) (front : List ℕ) → InLiteral l q n o front → n ≤ length (literal_word l)
literal_fits l q n o front h = omega (arith, length-append (map (as_compared l) h.chars) h.todo, length-map h.chars (as_compared l), h.size, ap length h.word)

literal_ends : (l : Literal) (q n : ℕ) (o : Outer) → Declares (declaring.Value l q n) o
unfolding literal_word
literal_ends literal.One q zero o = one_zero q o
literal_ends literal.One q (suc zero) o = one_one q o
literal_ends literal.One q (suc (suc zero)) o = one_two q o
literal_ends literal.One q (suc (suc (suc zero))) o = one_three q o
literal_ends literal.One q (suc (suc (suc (suc n)))) o = record { reaches = λ front h. absurd (omega (arith, literal_fits literal.One q (suc (suc (suc (suc n)))) o front h)) }
literal_ends literal.Utf8 q zero o = utf8_zero q o
literal_ends literal.Utf8 q (suc zero) o = utf8_one q o
literal_ends literal.Utf8 q (suc (suc zero)) o = utf8_two q o
literal_ends literal.Utf8 q (suc (suc (suc zero))) o = utf8_three q o
literal_ends literal.Utf8 q (suc (suc (suc (suc zero)))) o = utf8_four q o
literal_ends literal.Utf8 q (suc (suc (suc (suc (suc zero))))) o = utf8_five q o
literal_ends literal.Utf8 q (suc (suc (suc (suc (suc (suc n)))))) o = record { reaches = λ front h. absurd (omega (arith, literal_fits literal.Utf8 q (suc (suc (suc (suc (suc (suc n)))))) o front h)) }
literal_ends literal.Yes q zero o = yes_zero q o
literal_ends literal.Yes q (suc zero) o = yes_one q o
literal_ends literal.Yes q (suc (suc zero)) o = yes_two q o
literal_ends literal.Yes q (suc (suc (suc zero))) o = yes_three q o
literal_ends literal.Yes q (suc (suc (suc (suc n)))) o = record { reaches = λ front h. absurd (omega (arith, literal_fits literal.Yes q (suc (suc (suc (suc n)))) o front h)) }
literal_ends literal.No q zero o = no_zero q o
literal_ends literal.No q (suc zero) o = no_one q o
literal_ends literal.No q (suc (suc zero)) o = no_two q o
literal_ends literal.No q (suc (suc (suc n))) o = record { reaches = λ front h. absurd (omega (arith, literal_fits literal.No q (suc (suc (suc n))) o front h)) }

choice_ends : (q : ℕ) (o : Outer) → Declares (declaring.Choice q) o
unfolding next declaring_step
choice_ends q o = then_ends _ _ o o 121 refl (yes_one q o)

no_part : {A : Type 0} (x : Declared) → may_come x part.End ≡ true → A
no_part None_read e = absurd cc
no_part (Version_read v) e = absurd cc
no_part (Encoding_read v w) e = absurd cc
no_part (All_read v w s) e = absurd cc

after_ends : (p : Part) (o : Outer) → Declares (declaring.AfterEquals p) o
unfolding next declaring_step
after_ends part.Version o = then_ends _ _ o o 34 refl (one_zero 34 o)
after_ends part.Encoding o = then_ends _ _ o o 34 refl (utf8_zero 34 o)
after_ends part.Standalone o = then_ends _ _ o o 34 refl (choice_ends 34 o)
after_ends part.End o = record { reaches = λ front h. no_part h.at.declares.read h.at.may }

before_ends : (p : Part) (o : Outer) → Declares (declaring.BeforeEquals p) o
unfolding next declaring_step
before_ends p o = then_ends _ _ o o 61 refl (after_ends p o)

has_char : (word : List ℕ) (n : ℕ) → n < length word → (c : ℕ) × (has_at word n c ≡ true)
has_char [] n h = absurd (omega (arith, h))
has_char (d ∷ word) zero h = (d, eq-eqb d d refl)
has_char (d ∷ word) (suc n) h = has_char word n (omega (arith, h))

name_whole : (p : Part) (o : Outer) → Declares (declaring.Name p (length (part_word p))) o
unfolding next declaring_step
name_whole p o = then_ends _ (mode.Declaring (declaring.AfterEquals p)) o o 61 (rw (has_none_behind (part_word p) 61, eq-eqb (length (part_word p)) (length (part_word p)) refl) refl) (after_ends p o)

name_by : (k : ℕ) (p : Part) (n : ℕ) (o : Outer) → n + k ≡ length (part_word p) → Declares (declaring.Name p n) o
unfolding next declaring_step
name_by zero p n o e = subst (λ m. Declares (declaring.Name p m) o) (let i : length (part_word p) ≡ n = omega (arith, e) in i) (name_whole p o)
name_by (suc k) p n o e = let c = has_char (part_word p) n (omega (arith, e)) in then_ends _ (mode.Declaring (declaring.Name p (n + 1))) o o c.0 (rw c.1 refl) (name_by k p (n + 1) o (omega (arith, e)))

part_name_ends : (p : Part) (n : ℕ) (o : Outer) → Declares (declaring.Name p n) o
part_name_ends p n o = record { reaches = λ front h. (name_by (length (part_word p) - n) p n o (omega (arith, h.few))).reaches front h }

version_gap : (o : Outer) → Declares (declaring.Gap part.Version true) o
unfolding next declaring_step
version_gap o = then_ends _ _ o o 118 refl (part_name_ends part.Version 1 o)

gap_ends : (p : Part) (spaced : Bool) (o : Outer) → Declares (declaring.Gap p spaced) o
gap_ends part.Version true o = version_gap o
gap_ends part.Version false o = record { reaches = λ front h. absurd (let i : false ≡ true = h.first refl in cc) }
gap_ends part.Encoding spaced o = encoding_gap spaced o
gap_ends part.Standalone spaced o = standalone_gap spaced o
gap_ends part.End spaced o = last_gap spaced o

word_three : (o : Outer) → Declares (declaring.Word 3) o
unfolding next declaring_step
word_three o = then_ends _ _ o o 32 refl (version_gap o)

word_two : (o : Outer) → Declares (declaring.Word 2) o
unfolding next declaring_step
word_two o = then_ends _ (mode.Declaring (declaring.Word 3)) o o 108 refl (word_three o)

word_one : (o : Outer) → Declares (declaring.Word 1) o
unfolding next declaring_step
word_one o = then_ends _ (mode.Declaring (declaring.Word 2)) o o 109 refl (word_two o)

word_zero : (o : Outer) → Declares (declaring.Word 0) o
unfolding next declaring_step
word_zero o = then_ends _ (mode.Declaring (declaring.Word 1)) o o 120 refl (word_one o)

word_ends : (n : ℕ) (o : Outer) → Declares (declaring.Word n) o
word_ends zero o = word_zero o
word_ends (suc zero) o = word_one o
word_ends (suc (suc zero)) o = word_two o
word_ends (suc (suc (suc zero))) o = word_three o
word_ends (suc (suc (suc (suc n)))) o = record { reaches = λ front h. absurd (omega (arith, h.few)) }

declaring_ends : (d : Declaring) (o : Outer) → Declares d o
declaring_ends (declaring.Word n) o = word_ends n o
declaring_ends (declaring.Gap p spaced) o = gap_ends p spaced o
declaring_ends (declaring.Name p n) o = part_name_ends p n o
declaring_ends (declaring.BeforeEquals p) o = before_ends p o
declaring_ends (declaring.AfterEquals p) o = after_ends p o
declaring_ends (declaring.Choice q) o = choice_ends q o
declaring_ends (declaring.Value l q n) o = literal_ends l q n o
declaring_ends declaring.End o = end_ends o

pub ends : (m : Mode) (o : Outer) → Ends m o
ends (mode.Start marked) o = start_ends marked o
ends (mode.HeadOpened place) o = head_opened_ends place o
ends (mode.Declaring d) o = declaring_ends d o
ends (mode.Content n ret) o = content_ends n ret o
ends (mode.TextReference place r) o = text_ends place r o
ends (mode.Opened place) o = opened_ends place o
ends mode.Bang o = bang_ends o
ends mode.Dash o = dash_ends o
ends (mode.Comment n) o = comment_ends n o
ends (mode.SectionWord n) o = section_word_ends n o
ends (mode.Section n ret) o = section_ends n ret o
ends (mode.TagName t starts) o = tag_name_ends t starts o
ends (mode.InTag t spaced) o = in_tag_ends t spaced o
ends (mode.Slash t) o = slash_ends t o
ends (mode.AttributeName t n starts) o = attribute_name_ends t n starts o
ends (mode.BeforeEquals t n) o = before_equals_ends t n o
ends (mode.AfterEquals t n) o = after_equals_ends t n o
ends (mode.Value t n v) o = value_ends t n v o
ends (mode.ValueReference t n v place r) o = value_reference_ends t n v place r o
ends (mode.EndName n) o = end_name_ends n o
ends mode.EndGap o = end_gap_ends o

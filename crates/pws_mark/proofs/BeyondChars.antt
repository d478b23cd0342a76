-- Which characters beyond ASCII the reader takes.
use Rattle.std.proofs.Common.{◌≡◌, ℕ, zero, suc, ◌+◌, ◌<◌, ◌≤◌, nat_le, nat_lt, Bool, true, false, not, cond, ◌&&◌, ◌||◌, List, [], ◌∷◌, length, refl, sym, ◌∙◌, arith, Option, Some, None, codes}
use Rattle.std.specs.Prelude.{◌==◌, if◌then◌else◌, option_map, slice_get, unwrap_or, encode_utf8}
use Rattle.std.specs.Option.{is_some}
use Rattle.std.specs.List.{list_all}
use Rattle.std.specs.Char.{to_ascii_lowercase}
use Rattle.std.proofs.lemmas.Bool.{and_parts, ne_eqb, eqb-true, eqb-false, eq-eqb, lt-leb, ltb-true}
use Rattle.pws_tree.specs.Characters.{is_xml_char, is_name_start, is_name_char}
use Rattle.pws_mark.specs.Digits.{is_digit, is_hexadecimal}
use Rattle.pws_mark.specs.Scan.{next, region, stays, either, opened_step, bang_step, content_step, start_step, head_opened_step, comment_step, section_word_step, section_word, section_step, tag_name_step, in_tag_step, tag_step, attribute_name_step, before_equals_step, after_equals_step, value_step, declaring_step, gap_step, in_declaration, has_at, part_word, literal_word, as_compared, reference_step, in_text, in_value, end_name_step, end_gap_step}
use Rattle.pws_mark.specs.States.{Open, Outer}
use Rattle.pws_mark.specs.Tokens.{is_white, is_quote, is_text_char, is_value_char}
use Rattle.pws_mark.specs.Stopping.{is_among, beyond_name, beyond_reference, beyond_content, beyond_opened, beyond_one, beyond_ascii, name_char_at, BeyondTells}
use Rattle.pws_mark.specs.declared.modes.Declaring.{Declaring}
use Rattle.pws_mark.specs.declared.modes.Declaring.TheVariants as declaring
use Rattle.pws_mark.specs.declared.modes.Part.{Part}
use Rattle.pws_mark.specs.declared.modes.Part.TheVariants as part
use Rattle.pws_mark.specs.declared.modes.Literal.{Literal}
use Rattle.pws_mark.specs.declared.modes.Literal.TheVariants as literal
use Rattle.pws_mark.specs.declared.modes.Reference.{Reference}
use Rattle.pws_mark.specs.declared.modes.Reference.TheVariants as reference
use Rattle.pws_mark.specs.declared.modes.ReferenceStep.{ReferenceStep}
use Rattle.pws_mark.specs.declared.modes.ReferenceStep.TheVariants as stepped
use Rattle.pws_mark.specs.declared.modes.Region.{Region}
use Rattle.pws_mark.specs.declared.modes.Region.TheVariants as region_is
use Rattle.pws_mark.specs.declared.modes.ReadTag.{ReadTag}
use Rattle.pws_mark.specs.declared.modes.ReadName.{ReadName}
use Rattle.pws_mark.specs.declared.modes.ReadValue.{ReadValue}
use Rattle.pws_mark.specs.declared.modes.Mode.{Mode}
use Rattle.pws_mark.specs.declared.modes.Mode.TheVariants as mode
use Rattle.pws_mark.specs.declared.stopping.BeyondAscii.TheVariants as beyond
use Rattle.pws_mark.proofs.OutcomeKnown.{runs_are_plain}
use Rattle.pws_mark.proofs.OutcomeSteps.{PlainMode}
use Rattle.pws_mark.proofs.TakesTags.{quote_is}

-- choices

over : {A : Type 0} (a : Bool) (x y : Option A) → a ≡ false → is_some (if a then x else y) ≡ is_some y
over true x y h = absurd cc
over false x y h = refl

chosen : {A : Type 0} (a : Bool) (x : A) (y : Option A) → is_some y ≡ false → is_some (if a then Some x else y) ≡ a
chosen true x y h = refl
chosen false x y h = h

and_not : (a b : Bool) → b ≡ false → (a && b) ≡ false
and_not true b h = h
and_not false b h = refl

not_and : (a b : Bool) → a ≡ false → (a && b) ≡ false
not_and true b h = absurd cc
not_and false b h = refl

neither : (a b : Bool) → a ≡ false → b ≡ false → (a || b) ≡ false
neither true b h k = absurd cc
neither false b h k = k

mapped : {A B : Type 0} (f : A → B) (x : Option A) → is_some (option_map f x) ≡ is_some x
mapped f None = refl
mapped f (Some x) = refl

nothing : {A : Type 0} (x : Option A) → is_some x ≡ false → x ≡ None
nothing None h = refl
nothing (Some x) h = absurd cc

same_both : (a b : ℕ) → (a == b) ≡ (b == a)
same_both a b = by (a == b) (eqb-true a b) (eqb-false a b)
  where
    by : (t : Bool) → (t ≡ true → a ≡ b) → (t ≡ false → a ≡ b → ⊥) → t ≡ (b == a)
    by true f g = sym (eq-eqb b a (sym (f refl)))
    by false f g = sym (ne_eqb b a (λ e. g refl (sym e)))

-- characters beyond ASCII

isnt : (c n : ℕ) → 128 ≤ c → n < 128 → (c == n) ≡ false
isnt c n h low = ne_eqb c n (λ e. omega (arith, e))

isnt_back : (c n : ℕ) → 128 ≤ c → n < 128 → (n == c) ≡ false
isnt_back c n h low = ne_eqb n c (λ e. omega (arith, e))

no_white : (c : ℕ) → 128 ≤ c → is_white c ≡ false
no_white c h = neither (c == 32) _ (isnt c 32 h (omega arith)) (neither (c == 9) _ (isnt c 9 h (omega arith)) (neither (c == 10) _ (isnt c 10 h (omega arith)) (isnt c 13 h (omega arith))))

no_quote : (c : ℕ) → 128 ≤ c → is_quote c ≡ false
no_quote c h = neither (c == 34) _ (isnt c 34 h (omega arith)) (isnt c 39 h (omega arith))

above : (c lo hi : ℕ) → 128 ≤ c → hi < 128 → (nat_le lo c && nat_le c hi) ≡ false
above c lo hi h low = and_not (nat_le lo c) (nat_le c hi) (lt-leb c hi (omega arith))

no_digit : (c : ℕ) → 128 ≤ c → is_digit c ≡ false
no_digit c h = above c 48 57 h (omega arith)

no_hexadecimal : (c : ℕ) → 128 ≤ c → is_hexadecimal c ≡ false
no_hexadecimal c h = neither (is_digit c) _ (no_digit c h) (neither (nat_le 65 c && nat_le c 70) _ (above c 65 70 h (omega arith)) (above c 97 102 h (omega arith)))

no_letter : (word : List ℕ) (n c : ℕ) → list_all (λ d. nat_lt d 128) word ≡ true → 128 ≤ c → has_at word n c ≡ false
no_letter [] n c low h = refl
no_letter (x ∷ xs) zero c low h = isnt_back c x h (ltb-true x 128 (and_parts (nat_lt x 128) (list_all (λ d. nat_lt d 128) xs) low).0)
no_letter (x ∷ xs) (suc n) c low h = no_letter xs n c (and_parts (nat_lt x 128) (list_all (λ d. nat_lt d 128) xs) low).1 h

still_high : (c : ℕ) → 128 ≤ c → 128 ≤ to_ascii_lowercase c
still_high c h = by (nat_lt c 65) (nat_lt c 91)
  where
    by : (a b : Bool) → 128 ≤ cond a c (cond b (c + 32) c)
    by true b = h
    by false true = omega arith
    by false false = h

text_high : (c : ℕ) → 128 ≤ c → is_text_char c ≡ is_xml_char c
text_high c h = by (is_xml_char c) (c == 60) (c == 38) (isnt c 60 h (omega arith)) (isnt c 38 h (omega arith))
  where
    by : (x a b : Bool) → a ≡ false → b ≡ false → (x && (not a && not b)) ≡ x
    by true false false p q = refl
    by false a b p q = refl
    by true true b p q = absurd cc
    by true false true p q = absurd cc

and_all : (x y : Bool) → y ≡ false → (x && not y) ≡ x
and_all true true h = absurd cc
and_all true false h = refl
and_all false y h = refl

-- mode by mode

content_beyond : (r : Region) (o : Outer) (at n : ℕ) (after_return : Bool) (c : ℕ) → 128 ≤ c → is_some (content_step r o at n after_return c) ≡ is_among (beyond_content r) c
content_beyond region_is.Inside o at n after_return c h =
    chosen (is_text_char c && not (n == 2 && c == 62)) _ _ (over (c == 60) _ _ (isnt c 60 h (omega arith)) ∙ over (c == 38) _ _ (isnt c 38 h (omega arith)))
    ∙ (and_all (is_text_char c) (n == 2 && c == 62) (and_not (n == 2) (c == 62) (isnt c 62 h (omega arith))) ∙ text_high c h)
content_beyond region_is.Before o at n after_return c h = over (is_white c) _ _ (no_white c h) ∙ over (c == 60) _ _ (isnt c 60 h (omega arith))
content_beyond region_is.Behind o at n after_return c h = over (is_white c) _ _ (no_white c h) ∙ over (c == 60) _ _ (isnt c 60 h (omega arith))

opened_beyond : (r : Region) (at c : ℕ) → 128 ≤ c → is_some (opened_step r at c) ≡ is_among (beyond_opened r) c
opened_beyond region_is.Before at c h = chosen (is_name_start c) _ _ (over (c == 33) _ _ (isnt c 33 h (omega arith)))
opened_beyond region_is.Inside at c h = chosen (is_name_start c) _ _ (over (c == 33) _ _ (isnt c 33 h (omega arith)) ∙ over (c == 47) _ _ (isnt c 47 h (omega arith)))
opened_beyond region_is.Behind at c h = over (c == 33) _ _ (isnt c 33 h (omega arith))

bang_beyond : (r : Region) (c : ℕ) → 128 ≤ c → is_some (bang_step r c) ≡ false
bang_beyond region_is.Before c h = over (c == 45) _ _ (isnt c 45 h (omega arith))
bang_beyond region_is.Inside c h = over (c == 45) _ _ (isnt c 45 h (omega arith)) ∙ over (c == 91) _ _ (isnt c 91 h (omega arith))
bang_beyond region_is.Behind c h = over (c == 45) _ _ (isnt c 45 h (omega arith))

start_beyond : (marked : Bool) (at c : ℕ) → 128 ≤ c → is_some (start_step at marked c) ≡ is_among (if marked then beyond.One 0xFEFF else beyond.Nothing) c
start_beyond true at c h = over (is_white c) _ _ (no_white c h) ∙ (over (c == 60) _ _ (isnt c 60 h (omega arith)) ∙ chosen (c == 0xFEFF) _ _ refl)
start_beyond false at c h = over (is_white c) _ _ (no_white c h) ∙ over (c == 60) _ _ (isnt c 60 h (omega arith))

reference_beyond : (r : Reference) (c : ℕ) → 128 ≤ c → is_some (reference_step r c) ≡ is_among (beyond_reference r) c
unfolding reference_step
reference_beyond reference.Begun c h = chosen (is_name_start c) _ _ (over (c == 35) _ _ (isnt c 35 h (omega arith)))
reference_beyond (reference.Entity name true) c h = chosen (is_name_start c) _ _ refl
reference_beyond (reference.Entity name false) c h = chosen (is_name_char c) _ _ (over (c == 58) _ _ (isnt c 58 h (omega arith)) ∙ over (c == 59) _ _ (isnt c 59 h (omega arith)))
reference_beyond reference.Number c h = over (is_digit c) _ _ (no_digit c h) ∙ over (c == 120) _ _ (isnt c 120 h (omega arith))
reference_beyond reference.HexadecimalBegun c h = over (is_hexadecimal c) _ _ (no_hexadecimal c h)
reference_beyond (reference.Decimal n) c h = over (is_digit c) _ _ (no_digit c h) ∙ over (c == 59) _ _ (isnt c 59 h (omega arith))
reference_beyond (reference.Hexadecimal n) c h = over (is_hexadecimal c) _ _ (no_hexadecimal c h) ∙ over (c == 59) _ _ (isnt c 59 h (omega arith))

part_high : (p : Part) (n c : ℕ) → 128 ≤ c → has_at (part_word p) n c ≡ false
unfolding part_word
part_high part.Version n c h = no_letter (codes "version") n c refl h
part_high part.Encoding n c h = no_letter (codes "encoding") n c refl h
part_high part.Standalone n c h = no_letter (codes "standalone") n c refl h
part_high part.End n c h = refl

literal_high : (l : Literal) (n c : ℕ) → 128 ≤ c → has_at (literal_word l) n (as_compared l c) ≡ false
unfolding literal_word
literal_high literal.One n c h = no_letter (codes "1.0") n c refl h
literal_high literal.Utf8 n c h = no_letter (codes "utf-8") n (to_ascii_lowercase c) refl (still_high c h)
literal_high literal.Yes n c h = no_letter (codes "yes") n c refl h
literal_high literal.No n c h = no_letter (codes "no") n c refl h

gap_high : (p : Part) (spaced : Bool) (c : ℕ) → 128 ≤ c → is_some (gap_step p spaced c) ≡ false
gap_high part.Version spaced c h = over (c == 118 && spaced) _ _ (not_and (c == 118) spaced (isnt c 118 h (omega arith)))
gap_high part.Encoding spaced c h =
    over (c == 101 && spaced) _ _ (not_and (c == 101) spaced (isnt c 101 h (omega arith)))
    ∙ (over (c == 115 && spaced) _ _ (not_and (c == 115) spaced (isnt c 115 h (omega arith))) ∙ over (c == 63) _ _ (isnt c 63 h (omega arith)))
gap_high part.Standalone spaced c h = over (c == 115 && spaced) _ _ (not_and (c == 115) spaced (isnt c 115 h (omega arith))) ∙ over (c == 63) _ _ (isnt c 63 h (omega arith))
gap_high part.End spaced c h = over (c == 63) _ _ (isnt c 63 h (omega arith))

no_such : (q c : ℕ) → is_quote q ≡ true → 128 ≤ c → (c == q) ≡ false
no_such q c plain h = quote_is (λ z. (c == z) ≡ false) (isnt c 34 h (omega arith)) (isnt c 39 h (omega arith)) q plain

declaring_beyond : (d : Declaring) (c : ℕ) → PlainMode (mode.Declaring d) → 128 ≤ c → is_some (declaring_step d c) ≡ false
unfolding declaring_step
declaring_beyond (declaring.Word n) c g h =
    over (has_at (codes "xml") n c) _ _ (no_letter (codes "xml") n c refl h) ∙ over (n == 3 && is_white c) _ _ (and_not (n == 3) (is_white c) (no_white c h))
declaring_beyond (declaring.Gap p spaced) c g h = over (is_white c) _ _ (no_white c h) ∙ (mapped (λ d. Some d) (gap_step p spaced c) ∙ gap_high p spaced c h)
declaring_beyond (declaring.Name p n) c g h =
    over (has_at (part_word p) n c) _ _ (part_high p n c h)
    ∙ (over (n == length (part_word p) && is_white c) _ _ (and_not (n == length (part_word p)) (is_white c) (no_white c h)) ∙ over (n == length (part_word p) && c == 61) _ _ (and_not (n == length (part_word p)) (c == 61) (isnt c 61 h (omega arith))))
declaring_beyond (declaring.BeforeEquals p) c g h = over (is_white c) _ _ (no_white c h) ∙ over (c == 61) _ _ (isnt c 61 h (omega arith))
declaring_beyond (declaring.AfterEquals p) c g h = over (is_white c) _ _ (no_white c h) ∙ over (is_quote c) _ _ (no_quote c h)
declaring_beyond (declaring.Choice q) c g h = over (c == 121) _ _ (isnt c 121 h (omega arith)) ∙ over (c == 110) _ _ (isnt c 110 h (omega arith))
declaring_beyond (declaring.Value l q n) c g h =
    over (has_at (literal_word l) n (as_compared l c)) _ _ (literal_high l n c h) ∙ over (n == length (literal_word l) && c == q) _ _ (and_not (n == length (literal_word l)) (c == q) (no_such q c g h))
declaring_beyond declaring.End c g h = over (c == 62) _ _ (isnt c 62 h (omega arith))

tag_beyond : (o : Outer) (tag : ReadTag) (c : ℕ) → 128 ≤ c → is_some (tag_step o tag c) ≡ false
tag_beyond o tag c h = over (is_white c) _ _ (no_white c h) ∙ (over (c == 47) _ _ (isnt c 47 h (omega arith)) ∙ over (c == 62) _ _ (isnt c 62 h (omega arith)))

tag_name_beyond : (o : Outer) (tag : ReadTag) (starts : Bool) (c : ℕ) → 128 ≤ c → is_some (tag_name_step o tag starts c) ≡ is_among (beyond_name starts) c
tag_name_beyond o tag true c h = chosen (is_name_start c) _ _ refl
tag_name_beyond o tag false c h = chosen (is_name_char c) _ _ (over (c == 58) _ _ (isnt c 58 h (omega arith)) ∙ tag_beyond o tag c h)

in_tag_beyond : (o : Outer) (at : ℕ) (tag : ReadTag) (spaced : Bool) (c : ℕ) → 128 ≤ c → is_some (in_tag_step o at tag spaced c) ≡ is_among (if spaced then beyond.NameStarts else beyond.Nothing) c
in_tag_beyond o at tag true c h = chosen (is_name_start c) _ _ (tag_beyond o tag c h)
in_tag_beyond o at tag false c h = tag_beyond o tag c h

attribute_beyond : (tag : ReadTag) (name : ReadName) (starts : Bool) (c : ℕ) → 128 ≤ c → is_some (attribute_name_step tag name starts c) ≡ is_among (beyond_name starts) c
attribute_beyond tag name true c h = chosen (is_name_start c) _ _ refl
attribute_beyond tag name false c h =
    chosen (is_name_char c) _ _ (over (c == 58) _ _ (isnt c 58 h (omega arith)) ∙ (over (is_white c) _ _ (no_white c h) ∙ over (c == 61) _ _ (isnt c 61 h (omega arith))))

value_beyond : (at : ℕ) (tag : ReadTag) (name : ReadName) (v : ReadValue) (c : ℕ) → is_quote v.quote ≡ true → 128 ≤ c → is_some (value_step at tag name v c) ≡ is_xml_char c
value_beyond at tag name v c plain h =
    chosen (is_value_char v.quote c) _ _ (over (c == 38) _ _ (isnt c 38 h (omega arith)) ∙ over (c == v.quote) _ _ (no_such v.quote c plain h))
    ∙ (and_all (is_text_char c) (c == v.quote) (no_such v.quote c plain h) ∙ text_high c h)

comment_beyond : (n c : ℕ) → 128 ≤ c → is_some (comment_step n c) ≡ is_among (if n == 2 then beyond.Nothing else beyond.XmlChars) c
comment_beyond n c h = by (n == 2)
  where
    by : (b : Bool) → is_some (if b then (if c == 62 then Some (mode.Content 0 false) else None) else if is_xml_char c then Some (mode.Comment (if c == 45 then (if b then 2 else n + 1) else 0)) else None) ≡ is_among (if b then beyond.Nothing else beyond.XmlChars) c
    by true = over (c == 62) _ _ (isnt c 62 h (omega arith))
    by false = chosen (is_xml_char c) _ _ refl

section_beyond : (o : Outer) (at n : ℕ) (after_return : Bool) (c : ℕ) → 128 ≤ c → is_some (section_step o at n after_return c) ≡ is_xml_char c
section_beyond o at n after_return c h = over (c == 93) _ _ (isnt c 93 h (omega arith)) ∙ (over (n == 2 && c == 62) _ _ (and_not (n == 2) (c == 62) (isnt c 62 h (omega arith))) ∙ chosen (is_xml_char c) _ _ refl)

letter_is : (letter : Option ℕ) (c : ℕ) → unwrap_or (option_map (λ d. d == c) letter) false ≡ is_among (beyond_one letter) c
letter_is None c = refl
letter_is (Some d) c = same_both d c

end_name_beyond : (o : Outer) (opens : List Open) (n c : ℕ) → 128 ≤ c → is_some (end_name_step o opens n c) ≡ is_among (beyond_one (name_char_at opens n)) c
end_name_beyond o [] n c h = refl
end_name_beyond o (x ∷ xs) n c h =
    chosen (has_at x.name n c) _ _ (over (n == length x.name && is_white c) _ _ (and_not (n == length x.name) (is_white c) (no_white c h)) ∙ over (n == length x.name && c == 62) _ _ (and_not (n == length x.name) (c == 62) (isnt c 62 h (omega arith))))
    ∙ letter_is (slice_get x.name n) c

end_gap_beyond : (o : Outer) (opens : List Open) (c : ℕ) → 128 ≤ c → is_some (end_gap_step o opens c) ≡ false
end_gap_beyond o [] c h = refl
end_gap_beyond o (x ∷ xs) c h = over (is_white c) _ _ (no_white c h) ∙ over (c == 62) _ _ (isnt c 62 h (omega arith))

in_text_some : (o : Outer) (place : ℕ) (x : Option ReferenceStep) → is_some (either x (in_text o place)) ≡ is_some x
in_text_some o place None = refl
in_text_some o place (Some (stepped.More r)) = refl
in_text_some o place (Some (stepped.Done c)) = refl

stays_some : (o : Outer) (x : Option Mode) → is_some (stays o x) ≡ is_some x
stays_some o x = mapped (λ m. (m, o)) x

next_beyond : (m : Mode) (o : Outer) (at c : ℕ) → PlainMode m → 128 ≤ c → is_some (next m o at c) ≡ is_among (beyond_ascii m o) c
unfolding next section_word
next_beyond (mode.Start marked) o at c g h = stays_some o (start_step at marked c) ∙ start_beyond marked at c h
next_beyond (mode.HeadOpened place) o at c g h = stays_some o (head_opened_step place c) ∙ (over (c == 63) _ _ (isnt c 63 h (omega arith)) ∙ opened_beyond region_is.Before place c h)
next_beyond (mode.Declaring d) o at c g h = stays_some o (option_map in_declaration (declaring_step d c)) ∙ (mapped in_declaration (declaring_step d c) ∙ declaring_beyond d c g h)
next_beyond (mode.Content n after_return) o at c g h = content_beyond (region o) o at n after_return c h
next_beyond (mode.TextReference place r) o at c g h = in_text_some o place (reference_step r c) ∙ reference_beyond r c h
next_beyond (mode.Opened place) o at c g h = stays_some o (opened_step (region o) place c) ∙ opened_beyond (region o) place c h
next_beyond mode.Bang o at c g h = stays_some o (bang_step (region o) c) ∙ bang_beyond (region o) c h
next_beyond mode.Dash o at c g h = stays_some o (if c == 45 then Some (mode.Comment 0) else None) ∙ over (c == 45) _ _ (isnt c 45 h (omega arith))
next_beyond (mode.Comment n) o at c g h = stays_some o (comment_step n c) ∙ comment_beyond n c h
next_beyond (mode.SectionWord n) o at c g h = stays_some o (section_word_step n c) ∙ over (has_at section_word n c) _ _ (no_letter section_word n c refl h)
next_beyond (mode.Section n after_return) o at c g h = section_beyond o at n after_return c h
next_beyond (mode.TagName tag starts) o at c g h = tag_name_beyond o tag starts c h
next_beyond (mode.InTag tag spaced) o at c g h = in_tag_beyond o at tag spaced c h
next_beyond (mode.Slash tag) o at c g h = over (c == 62) _ _ (isnt c 62 h (omega arith))
next_beyond (mode.AttributeName tag name starts) o at c g h = stays_some o (attribute_name_step tag name starts c) ∙ attribute_beyond tag name starts c h
next_beyond (mode.BeforeEquals tag name) o at c g h = stays_some o (before_equals_step tag name c) ∙ (over (is_white c) _ _ (no_white c h) ∙ over (c == 61) _ _ (isnt c 61 h (omega arith)))
next_beyond (mode.AfterEquals tag name) o at c g h = stays_some o (after_equals_step tag name c) ∙ (over (is_white c) _ _ (no_white c h) ∙ over (is_quote c) _ _ (no_quote c h))
next_beyond (mode.Value tag name v) o at c g h = stays_some o (value_step at tag name v c) ∙ value_beyond at tag name v c g.1 h
next_beyond (mode.ValueReference tag name v place r) o at c g h = stays_some o (option_map (in_value tag name v place) (reference_step r c)) ∙ (mapped (in_value tag name v place) (reference_step r c) ∙ reference_beyond r c h)
next_beyond (mode.EndName n) o at c g h = end_name_beyond o o.opens n c h
next_beyond mode.EndGap o at c g h = end_gap_beyond o o.opens c h

pub beyond_tells : BeyondTells
beyond_tells front s runs c h = mapped (λ n. record { at = s.at + length (encode_utf8 c); mode = n.0; outer = n.1 }) (next s.mode s.outer s.at c) ∙ next_beyond s.mode s.outer s.at c (runs_are_plain front s runs) h

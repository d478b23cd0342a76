-- What the reader keeps free of marks, over a step.
use Rattle.std.proofs.Common.{◌≡◌, inl, ℕ, ◌+◌, ◌-◌, Bool, true, false, not, ◌&&◌, List, [], ◌∷◌, ◌++◌, length, refl, ap, Option, Some, None}
use Rattle.std.specs.Prelude.{◌==◌, if◌then◌else◌, option_map}
use Rattle.std.proofs.lemmas.Bool.{and_parts, eqb-true}
use Rattle.pws_tree.specs.Characters.{is_xml_char, is_name_start, is_name_char}
use Rattle.pws_mark.specs.Meaning.{char_text}
use Rattle.pws_mark.specs.Scan.{next, region, either, bang_step, section_word, brackets_taken, content_step, marks_after, text_bytes, has_at, reference_step, in_text, in_value, end_name_step, end_gap_step, with_attribute, value_with, value_with_reference, tag_step}
use Rattle.pws_mark.specs.States.{Open, Outer, started, hollowed, ended, taken}
use Rattle.pws_mark.specs.Tokens.{is_white, is_quote, is_text_char, is_value_char}
use Rattle.pws_mark.specs.declared.modes.Declaring.TheVariants as declaring
use Rattle.pws_mark.specs.declared.modes.ReadTag.{ReadTag}
use Rattle.pws_mark.specs.declared.modes.ReadName.{ReadName}
use Rattle.pws_mark.specs.declared.modes.ReadValue.{ReadValue}
use Rattle.pws_mark.specs.declared.modes.Reference.TheVariants as reference
use Rattle.pws_mark.specs.declared.modes.ReferenceStep.{ReferenceStep}
use Rattle.pws_mark.specs.declared.modes.ReferenceStep.TheVariants as stepped
use Rattle.pws_mark.specs.declared.modes.Region.{Region}
use Rattle.pws_mark.specs.declared.modes.Region.TheVariants as region_is
use Rattle.pws_mark.specs.declared.modes.Mode.{Mode}
use Rattle.pws_mark.specs.declared.modes.Mode.TheVariants as mode
use Rattle.pws_mark.proofs.OutcomeSteps.{PlainMode, PlainOpens, no_mark, Good, GoodMode, good, no_good, if_good, fine, not_fine, if_fine, stays_good, start_plain, char_plain, colon_plain, more_plain, taken_plain, started_plain, hollowed_plain, ended_plain, brackets_plain, opened_good, declared_good}

content_good : (r : Region) (o : Outer) (at n : ℕ) (after_return : Bool) (c : ℕ) → PlainOpens o.opens → Good (mode.Content n after_return) o c (content_step r o at n after_return c)
content_good region_is.Inside o at n after_return c h =
    if_good (is_text_char c && not (n == 2 && c == 62)) _ _ (λ e. good (mode.Content (marks_after 93 n c) (c == 13)) (taken o at (Some c) (text_bytes after_return c)) tt tt (taken_plain o at (Some c) (text_bytes after_return c) h))
    (λ _. if_good (c == 60) _ _ (λ e. good (mode.Opened at) o (refl, eqb-true c 60 e, refl) tt h)
    (λ _. if_good (c == 38) _ _ (λ e. good (mode.TextReference at reference.Begun) o tt tt h) (λ _. no_good)))
content_good region_is.Before o at n after_return c h =
    if_good (is_white c) _ _ (λ e. good (mode.Content 0 false) o tt tt h) (λ _. if_good (c == 60) _ _ (λ e. good (mode.Opened at) o (refl, eqb-true c 60 e, refl) tt h) (λ _. no_good))
content_good region_is.Behind o at n after_return c h =
    if_good (is_white c) _ _ (λ e. good (mode.Content 0 false) o tt tt h) (λ _. if_good (c == 60) _ _ (λ e. good (mode.Opened at) o (refl, eqb-true c 60 e, refl) tt h) (λ _. no_good))

text_good : (m : Mode) (o : Outer) (c place : ℕ) (x : Option ReferenceStep) → PlainOpens o.opens → Good m o c (either x (in_text o place))
text_good m o c place None h = no_good
text_good m o c place (Some (stepped.More r)) h = good (mode.TextReference place r) o tt tt h
text_good m o c place (Some (stepped.Done d)) h = good (mode.Content 0 false) (taken o place d (char_text d)) tt tt (taken_plain o place d (char_text d) h)

bang_good : (r : Region) (o : Outer) (c : ℕ) → GoodMode mode.Bang o c (bang_step r c)
bang_good region_is.Inside o c = if_fine (c == 45) _ _ (λ e. fine mode.Dash tt tt) (λ _. if_fine (c == 91) _ _ (λ e. fine (mode.SectionWord 0) tt tt) (λ _. not_fine))
bang_good region_is.Before o c = if_fine (c == 45) _ _ (λ e. fine mode.Dash tt tt) (λ _. not_fine)
bang_good region_is.Behind o c = if_fine (c == 45) _ _ (λ e. fine mode.Dash tt tt) (λ _. not_fine)

word_good : (n : ℕ) (o : Outer) (c : ℕ) (b : Bool) → GoodMode (mode.SectionWord n) o c (Some (if b then mode.Section 0 false else mode.SectionWord (n + 1)))
word_good n o c true = fine (mode.Section 0 false) tt tt
word_good n o c false = fine (mode.SectionWord (n + 1)) tt tt

tag_good : {m : Mode} {c : ℕ} (o : Outer) (tag : ReadTag) → no_mark tag.name ≡ true → PlainOpens o.opens → Good m o c (tag_step o tag c)
tag_good {m} {c} o tag name h =
    if_good (is_white c) _ _ (λ e. good (mode.InTag tag true) o tt name h)
    (λ _. if_good (c == 47) _ _ (λ e. good (mode.Slash tag) o tt name h)
    (λ _. if_good (c == 62) _ _ (λ e. good (mode.Content 0 false) (started o tag) tt tt (started_plain o tag name h)) (λ _. no_good)))

reference_good : (m : Mode) (o : Outer) (c place : ℕ) (tag : ReadTag) (name : ReadName) (v : ReadValue) (x : Option ReferenceStep) → no_mark tag.name ≡ true → is_quote v.quote ≡ true → GoodMode m o c (option_map (in_value tag name v place) x)
reference_good m o c place tag name v None a b = not_fine
reference_good m o c place tag name v (Some (stepped.More r)) a b = fine (mode.ValueReference tag name v place r) tt (a, b)
reference_good m o c place tag name v (Some (stepped.Done None)) a b = fine (mode.Value tag name (value_with_reference v None)) tt (a, b)
reference_good m o c place tag name v (Some (stepped.Done (Some d))) a b = fine (mode.Value tag name (value_with_reference v (Some d))) tt (a, b)

end_good : (opens : List Open) (o : Outer) (n c : ℕ) → PlainOpens opens → PlainOpens o.opens → Good (mode.EndName n) o c (end_name_step o opens n c)
end_good [] o n c g h = no_good
end_good (x ∷ xs) o n c g h =
    if_good (has_at x.name n c) _ _ (λ e. good (mode.EndName (n + 1)) o tt tt h)
    (λ _. if_good (n == length x.name && is_white c) _ _ (λ e. good mode.EndGap o tt tt h)
    (λ _. if_good (n == length x.name && c == 62) _ _ (λ e. good (mode.Content 0 false) (ended x xs o.events o.text) tt tt (ended_plain o x xs g.1)) (λ _. no_good)))

end_gap_good : (opens : List Open) (o : Outer) (c : ℕ) → PlainOpens opens → PlainOpens o.opens → Good mode.EndGap o c (end_gap_step o opens c)
end_gap_good [] o c g h = no_good
end_gap_good (x ∷ xs) o c g h =
    if_good (is_white c) _ _ (λ e. good mode.EndGap o tt tt h)
    (λ _. if_good (c == 62) _ _ (λ e. good (mode.Content 0 false) (ended x xs o.events o.text) tt tt (ended_plain o x xs g.1)) (λ _. no_good))

pub next_good : (m : Mode) (o : Outer) (at c : ℕ) → PlainMode m → PlainOpens o.opens → Good m o c (next m o at c)
unfolding next
next_good (mode.Start marked) o at c g h =
    stays_good _ h (if_fine (is_white c) _ _ (λ e. fine (mode.Content 0 false) tt tt) (λ _. if_fine (c == 60) _ _ (λ e. fine (mode.HeadOpened at) (refl, eqb-true c 60 e, refl) tt)
    (λ _. if_fine (marked && c == 0xFEFF) _ _ (λ e. let parts = and_parts marked (c == 0xFEFF) e in fine (mode.Start false) (ap mode.Start parts.0, eqb-true c 0xFEFF parts.1, refl) tt) (λ _. not_fine))))
next_good (mode.HeadOpened place) o at c g h =
    stays_good _ h (if_fine (c == 63) _ _ (λ e. fine (mode.Declaring (declaring.Word 0)) (inl (refl, eqb-true c 63 e, refl)) tt) (λ _. opened_good refl region_is.Before place))
next_good (mode.Declaring d) o at c g h = stays_good _ h (declared_good d o c g)
next_good (mode.Content n after_return) o at c g h = content_good (region o) o at n after_return c h
next_good (mode.TextReference place r) o at c g h = text_good (mode.TextReference place r) o c place (reference_step r c) h
next_good (mode.Opened place) o at c g h = stays_good _ h (opened_good refl (region o) place)
next_good mode.Bang o at c g h = stays_good _ h (bang_good (region o) o c)
next_good mode.Dash o at c g h = stays_good _ h (if_fine (c == 45) _ _ (λ e. fine (mode.Comment 0) tt tt) (λ _. not_fine))
next_good (mode.Comment n) o at c g h =
    stays_good _ h (if_fine (n == 2) _ _ (λ _. if_fine (c == 62) _ _ (λ e. fine (mode.Content 0 false) tt tt) (λ _. not_fine)) (λ _. if_fine (is_xml_char c) _ _ (λ e. fine (mode.Comment (marks_after 45 n c)) tt tt) (λ _. not_fine)))
next_good (mode.SectionWord n) o at c g h = stays_good _ h (if_fine (has_at section_word n c) _ _ (λ e. word_good n o c (n == 5)) (λ _. not_fine))
next_good (mode.Section n after_return) o at c g h =
    if_good (c == 93) _ _ (λ _. if_good (n == 2) _ _ (λ e. good (mode.Section 2 false) (taken o (at - 2) (Some 93) (93 ∷ [])) tt tt (taken_plain o (at - 2) (Some 93) (93 ∷ []) h)) (λ _. good (mode.Section (n + 1) after_return) o tt tt h))
    (λ _. if_good (n == 2 && c == 62) _ _ (λ e. good (mode.Content 0 false) o tt tt h)
    (λ _. if_good (is_xml_char c) _ _ (λ e. good (mode.Section 0 (c == 13)) (taken (brackets_taken o at n) at (Some c) (text_bytes (n == 0 && after_return) c)) tt tt (taken_plain (brackets_taken o at n) at (Some c) (text_bytes (n == 0 && after_return) c) (brackets_plain o at n h))) (λ _. no_good)))
next_good (mode.TagName tag true) o at c g h =
    if_good (is_name_start c) _ _ (λ e. good (mode.TagName (record { at = tag.at; name = tag.name ++ c ∷ []; attributes = tag.attributes }) false) o tt (more_plain tag.name c g (start_plain c e)) h) (λ _. no_good)
next_good (mode.TagName tag false) o at c g h =
    if_good (is_name_char c) _ _ (λ e. good (mode.TagName (record { at = tag.at; name = tag.name ++ c ∷ []; attributes = tag.attributes }) false) o tt (more_plain tag.name c g (char_plain c e)) h)
    (λ _. if_good (c == 58) _ _ (λ e. good (mode.TagName (record { at = tag.at; name = tag.name ++ c ∷ []; attributes = tag.attributes }) true) o tt (more_plain tag.name c g (colon_plain c e)) h) (λ _. tag_good o tag g h))
next_good (mode.InTag tag spaced) o at c g h =
    if_good (spaced && is_name_start c) _ _ (λ e. good (mode.AttributeName tag (record { at = at; name = c ∷ [] }) false) o tt g h) (λ _. tag_good o tag g h)
next_good (mode.Slash tag) o at c g h = if_good (c == 62) _ _ (λ e. good (mode.Content 0 false) (hollowed o tag) tt tt (hollowed_plain o tag h)) (λ _. no_good)
next_good (mode.AttributeName tag name true) o at c g h =
    stays_good _ h (if_fine (is_name_start c) _ _ (λ e. fine (mode.AttributeName tag (record { at = name.at; name = name.name ++ c ∷ [] }) false) tt g) (λ _. not_fine))
next_good (mode.AttributeName tag name false) o at c g h =
    stays_good _ h (if_fine (is_name_char c) _ _ (λ e. fine (mode.AttributeName tag (record { at = name.at; name = name.name ++ c ∷ [] }) false) tt g)
    (λ _. if_fine (c == 58) _ _ (λ e. fine (mode.AttributeName tag (record { at = name.at; name = name.name ++ c ∷ [] }) true) tt g)
    (λ _. if_fine (is_white c) _ _ (λ e. fine (mode.BeforeEquals tag name) tt g) (λ _. if_fine (c == 61) _ _ (λ e. fine (mode.AfterEquals tag name) tt g) (λ _. not_fine)))))
next_good (mode.BeforeEquals tag name) o at c g h =
    stays_good _ h (if_fine (is_white c) _ _ (λ e. fine (mode.BeforeEquals tag name) tt g) (λ _. if_fine (c == 61) _ _ (λ e. fine (mode.AfterEquals tag name) tt g) (λ _. not_fine)))
next_good (mode.AfterEquals tag name) o at c g h =
    stays_good _ h (if_fine (is_white c) _ _ (λ e. fine (mode.AfterEquals tag name) tt g) (λ _. if_fine (is_quote c) _ _ (λ e. fine (mode.Value tag name (record { quote = c; text = Some []; after_return = false })) tt (g, e)) (λ _. not_fine)))
next_good (mode.Value tag name v) o at c g h =
    stays_good _ h (if_fine (is_value_char v.quote c) _ _ (λ e. fine (mode.Value tag name (value_with v c)) tt (g.0, g.1))
    (λ _. if_fine (c == 38) _ _ (λ e. fine (mode.ValueReference tag name v at reference.Begun) tt (g.0, g.1)) (λ _. if_fine (c == v.quote) _ _ (λ e. fine (mode.InTag (with_attribute tag name v) false) tt g.0) (λ _. not_fine))))
next_good (mode.ValueReference tag name v place r) o at c g h = stays_good _ h (reference_good (mode.ValueReference tag name v place r) o c place tag name v (reference_step r c) g.0 g.1)
next_good (mode.EndName n) o at c g h = end_good o.opens o n c h h
next_good mode.EndGap o at c g h = end_gap_good o.opens o c h h

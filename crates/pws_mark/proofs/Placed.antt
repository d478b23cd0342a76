-- Where the reader stands in a document.
use Rattle.std.proofs.Common.{◌≡◌, ◌≢◌, ℕ, ◌+◌, ◌<◌, ◌≤◌, nat_le, nat_lt, Bool, true, false, not, ◌&&◌, ◌||◌, cond, List, [], ◌∷◌, ◌++◌, length, refl, ap, subst, sym, ◌∙◌, arith, length-append, append_assoc, append-nil, Option, Some, None, inl, inr, codes}
use Rattle.std.specs.Prelude.{◌==◌, ◌⊎◌, option_map, encode_utf8, encode_utf8_all}
use Rattle.std.specs.List.{flat_map, list_all}
use Rattle.std.specs.Str.{bytes_eq, str_to_ascii_lowercase}
use Rattle.std.specs.Char.{to_ascii_lowercase}
use Rattle.std.specs.Cmp.Lexicographic.{bytes_decides}
use Rattle.std.proofs.lemmas.Bool.{and_parts, and_from, not_from_false, not-true, both_ways, or_cases, eqb-true, eqb-false, ne_eqb, le-leb, lt-leb, lt-ltb, le-ltb}
use Rattle.std.proofs.lemmas.Str.{length-encode, len_utf8_bounds}
use lib.Utf8.{encode}
use Rattle.pws_tree.specs.Characters.{is_name_start, name_start_ranges}
use Rattle.pws_mark.specs.Documents.{Char, Entity, Decimal, Hexadecimal, Tag, Content, Nothing, Text, Section, Comment, Hollow, Element, Pseudo, Declaration, Document, spell_content, spell_head, spell_prolog, spell_declaration, comment_start, comment_end, byte_order_mark}
use Rattle.pws_mark.specs.Grammar.{is_tag, is_content, is_misc, is_root, is_pseudo, is_optional, is_declaration, is_document}
use Rattle.pws_mark.specs.Places.{spans, is_inside}
use Rattle.pws_mark.specs.ReaderLaws.{IsInProlog, RunsArePlaced, is_early_in, is_early}
use Rattle.pws_mark.specs.Scan.{next, run, then_run, step, start, outside, region, region_in, content_step, is_within}
use Rattle.pws_mark.specs.Spelling.{write_attribute, write_tag, write_content, write_pseudo, write_optional, write_declaration, write}
use Rattle.pws_mark.specs.States.{Open, Outer, State, started, hollowed}
use Rattle.pws_mark.specs.TokenLaws.{state, tag_read, may_follow}
use Rattle.pws_mark.specs.Tokens.{is_white, is_name, is_quote, is_comment, is_attribute}
use Rattle.pws_mark.specs.declared.modes.Mode.{Mode}
use Rattle.pws_mark.specs.declared.modes.Mode.TheVariants as mode
use Rattle.pws_mark.specs.declared.modes.Region.TheVariants as region_is
use Rattle.pws_mark.proofs.Counted.{counts}
use Rattle.pws_mark.proofs.Following.{comment_end_at, hollow_end_at, inner_at, element_end_at, closed, outer_behind, word_behind, with_word, opened_by, started_opens, closed_opens, opens_behind, fits_none}
use Rattle.pws_mark.proofs.TakesComments.{comments_are_taken}
use Rattle.pws_mark.proofs.TakesHeads.{whole_declaration, fresh_opened}
use Rattle.pws_mark.proofs.PlainNames.{apart}
use Rattle.pws_mark.proofs.PlacedModes.{then_along, Along, along_append, along_at, along_both, IsFrom, along_places, IsOut, is_other, along_head_opened}
use Rattle.pws_mark.proofs.PlacedTokens.{on_to, join_other, white_other, opens_here, along_comment_any}
use Rattle.pws_mark.proofs.PlacedSpans.{is_in, in_both, size_of_element, size_of_hollow, size_of_comment, none_before, none_behind}
use Rattle.pws_mark.proofs.PlacedContent.{IsPlacedBy, Agrees, out_along, hollow_placed, element_placed, content_placed, gone}

-- Comments and white space outside of the element.
abbrev is_misc_mode : Mode → Bool
is_misc_mode m = is_early_in m || is_within m

abbrev HoldsOutside : (State → Type 0) → (ℕ → Bool) → ℕ → Outer → Type 0
HoldsOutside Q told low o = (p : ℕ) (m : Mode) → low ≤ p → is_misc_mode m ≡ true → told p ≡ is_within m → Q (state p m o)

white_here : (at n : ℕ) (ret : Bool) (o : Outer) (c : ℕ) → o.opens ≡ [] → is_white c ≡ true → step (state at (mode.Content n ret) o) c ≡ Some (state (at + length (encode_utf8 c)) (mode.Content 0 false) o)
unfolding next
white_here at n ret o c opens white =
    ap (λ os. option_map (λ m. record { at = at + length (encode_utf8 c); mode = m.0; outer = m.1 }) (content_step (region_in os o.behind) o at n ret c)) opens ∙ by o.behind
  where
    by : (b : Bool) → option_map (λ m. record { at = at + length (encode_utf8 c); mode = m.0; outer = m.1 }) (content_step (region_in [] b) o at n ret c) ≡ Some (state (at + length (encode_utf8 c)) (mode.Content 0 false) o)
    by true = rw white refl
    by false = rw white refl

misc_comment_back : (chars rest cs : List ℕ) → comment_start ++ (chars ++ (comment_end ++ (rest ++ cs))) ≡ (comment_start ++ (chars ++ (comment_end ++ rest))) ++ cs
misc_comment_back chars rest cs = sym (append_assoc comment_start (chars ++ (comment_end ++ rest)) cs ∙ ap (λ z. comment_start ++ z) (append_assoc chars (comment_end ++ rest) cs ∙ ap (λ z. chars ++ z) (append_assoc comment_end rest cs)))

comment_parted : (chars cs : List ℕ) → (comment_start ++ (chars ++ comment_end)) ++ cs ≡ comment_start ++ (chars ++ (comment_end ++ cs))
comment_parted chars cs = append_assoc comment_start (chars ++ comment_end) cs ∙ ap (λ z. comment_start ++ z) (append_assoc chars comment_end cs)

comment_size : (at : ℕ) (cs : List ℕ) → comment_end_at at cs ≡ at + (length (encode_utf8_all cs) + 7)
unfolding comment_start comment_end
comment_size at cs = omega (arith, length-append (encode_utf8_all cs) comment_end)

misc_then : (Q : State → Type 0) (told : ℕ → Bool) (low : ℕ) (o : Outer) → o.opens ≡ [] → HoldsOutside Q told low o → (c : Content) (at n end : ℕ) (ret : Bool) (cs : List ℕ) → low ≤ at → end ≡ at + length (spell_content c) → is_misc c ≡ true → Agrees told at end (spans at c) → ((m : ℕ) (back : Bool) → Along Q (state end (mode.Content m back) o) cs) → Along Q (state at (mode.Content n ret) o) (write_content c ++ cs)
unfolding comment_start
misc_then Q told low o opens holds Nothing at n end ret cs above size lawful agrees more = subst (λ p. Along Q (state p (mode.Content n ret) o) cs) (omega (arith, size)) (more n ret)
misc_then Q told low o opens holds (Text (Char c) rest) at n end ret cs above size lawful agrees more =
    let parts = and_parts (is_white c) (is_misc rest) lawful in
    let next_at : ℕ = at + length (encode_utf8 c) in
    let place : end ≡ next_at + length (spell_content rest) = omega (arith, size, length-append (encode_utf8 c) (spell_content rest)) in
    on_to Q (state at (mode.Content n ret) o) (state next_at (mode.Content 0 false) o) c (write_content rest ++ cs)
    (holds at (mode.Content n ret) above refl (agrees at (omega arith) (omega arith) ∙ none_before rest next_at at (omega arith))) (white_here at n ret o c opens parts.0)
    (misc_then Q told low o opens holds rest next_at 0 end false cs (omega arith) place parts.1 (λ p from to. agrees p (omega (arith, from)) to) more)
misc_then Q told low o opens holds (Text (Entity e) rest) at n end ret cs above size lawful agrees more = absurd (both_ways false refl lawful)
misc_then Q told low o opens holds (Text (Decimal e) rest) at n end ret cs above size lawful agrees more = absurd (both_ways false refl lawful)
misc_then Q told low o opens holds (Text (Hexadecimal e) rest) at n end ret cs above size lawful agrees more = absurd (both_ways false refl lawful)
misc_then Q told low o opens holds (Section chars rest) at n end ret cs above size lawful agrees more = absurd (both_ways false refl lawful)
misc_then Q told low o opens holds (Hollow tag rest) at n end ret cs above size lawful agrees more = absurd (both_ways false refl lawful)
misc_then Q told low o opens holds (Element tag inner gap rest) at n end ret cs above size lawful agrees more = absurd (both_ways false refl lawful)
misc_then Q told low o opens holds (Comment chars rest) at n end ret cs above size lawful agrees more =
    let parts = and_parts (is_comment chars) (is_misc rest) lawful in
    let stop : ℕ = comment_end_at at chars in
    let stop_is : stop ≡ at + (length (encode_utf8_all chars) + 7) = comment_size at chars in
    let place : end ≡ stop + length (spell_content rest) = omega (arith, size, size_of_comment at chars rest) in
    let s : State = state at (mode.Content n ret) o in
    let t : State = state stop (mode.Content 0 false) o in
    let token : List ℕ = comment_start ++ (chars ++ comment_end) in
    let taken_so : run s token ≡ Some t = (comments_are_taken o at n ret chars parts.0).runs in
    let told_at : (p : ℕ) → at ≤ p → p ≤ stop → told p ≡ ((nat_le (at + 4) p && nat_lt p stop) || false) = λ p from to. agrees p from (omega (arith, to, place)) ∙ ap (λ z. (nat_le (at + 4) p && nat_lt p stop) || z) (none_before rest stop p to) in
    let out : (p : ℕ) → at ≤ p → p < at + 4 → told p ≡ false = λ p from to. told_at p from (omega (arith, to, stop_is)) ∙ ap (λ z. (z && nat_lt p stop) || false) (lt-leb (at + 4) p to) in
    let inside : (p : ℕ) → at + 4 ≤ p → p < stop → told p ≡ true = λ p from to. told_at p (omega (arith, from)) (omega (arith, to)) ∙ (ap (λ z. (z && nat_lt p stop) || false) (le-leb (at + 4) p from) ∙ ap (λ z. z || false) (lt-ltb p stop to)) in
    let last : told stop ≡ false = told_at stop (omega (arith, stop_is)) (omega arith) ∙ (ap (λ z. (z && nat_lt stop stop) || false) (le-leb (at + 4) stop (omega (arith, stop_is))) ∙ ap (λ z. z || false) (le-ltb stop stop (omega arith))) in
    subst (λ z. Along Q s z) (comment_parted chars (write_content rest ++ cs) ∙ misc_comment_back chars (write_content rest) cs)
    (along_append Q s t token (write_content rest ++ cs)
    (along_comment_any Q at n stop ret o chars
    (holds at (mode.Content n ret) above refl (out at (omega arith) (omega arith)))
    (holds (at + 1) (mode.Opened at) (omega arith) refl (out (at + 1) (omega arith) (omega arith)))
    (holds (at + 1 + 1) mode.Bang (omega arith) refl (out (at + 1 + 1) (omega arith) (omega arith)))
    (holds (at + 1 + 1 + 1) mode.Dash (omega arith) refl (out (at + 1 + 1 + 1) (omega arith) (omega arith)))
    (λ p m from to. holds p (mode.Comment m) (omega (arith, from)) refl (inside p from to))
    (holds stop (mode.Content 0 false) (omega (arith, stop_is)) refl last) parts.0 stop_is) taken_so
    (misc_then Q told low o opens holds rest stop 0 end false cs (omega (arith, stop_is)) place parts.1 (λ p from to. agrees p (omega (arith, from, stop_is)) to ∙ gone (at + 4) stop p (is_in p (spans stop rest)) from) more))

-- The element and what is behind it.
misc_behind : (told : ℕ → Bool) (o : Outer) (at : ℕ) (c : Content) → o.opens ≡ [] → is_misc c ≡ true → Agrees told at (at + length (spell_content c)) (spans at c) → Along (IsPlacedBy told) (state at (mode.Content 0 false) o) (write_content c)
misc_behind told o at c opens lawful agrees =
    subst (λ z. Along (IsPlacedBy told) (state at (mode.Content 0 false) o) z) (append-nil (write_content c))
    (misc_then (IsPlacedBy told) told at o opens (λ p m low may h. h) c at 0 (at + length (spell_content c)) false [] (omega arith) refl lawful agrees
    (λ m back. agrees (at + length (spell_content c)) (omega arith) (omega arith) ∙ none_behind c at (at + length (spell_content c)) (omega arith)))

root_back : (tag : Tag) (gap inner cs : List ℕ) → 60 ∷ (write_tag tag ++ 62 ∷ (inner ++ 60 ∷ 47 ∷ (tag.name ++ (gap ++ 62 ∷ cs)))) ≡ (60 ∷ (write_tag tag ++ 62 ∷ (inner ++ 60 ∷ 47 ∷ (tag.name ++ (gap ++ 62 ∷ []))))) ++ cs
root_back tag gap inner cs =
    sym (ap (λ z. 60 ∷ z) (append_assoc (write_tag tag) (62 ∷ (inner ++ 60 ∷ 47 ∷ (tag.name ++ (gap ++ 62 ∷ [])))) cs)
    ∙ ap (λ z. 60 ∷ (write_tag tag ++ 62 ∷ z)) (append_assoc inner (60 ∷ 47 ∷ (tag.name ++ (gap ++ 62 ∷ []))) cs)
    ∙ ap (λ z. 60 ∷ (write_tag tag ++ 62 ∷ (inner ++ 60 ∷ 47 ∷ z))) (append_assoc tag.name (gap ++ 62 ∷ []) cs ∙ ap (λ z. tag.name ++ z) (append_assoc gap (62 ∷ []) cs)))

not_behind_outside : region outside ≢ region_is.Behind
not_behind_outside e = absurd cc

root_placed : (told : ℕ → Bool) (at n : ℕ) (ret : Bool) (root after : Content) → is_root root ≡ true → is_content root ≡ true → is_misc after ≡ true → Agrees told at (at + length (spell_content root)) (spans at root) → Agrees told (at + length (spell_content root)) (at + length (spell_content root) + length (spell_content after)) (spans (at + length (spell_content root)) after) → Along (IsPlacedBy told) (state at (mode.Content n ret) outside) (write_content root ++ write_content after)
unfolding hollowed
root_placed told at n ret Nothing after one lawful misc here later = absurd (both_ways false refl one)
root_placed told at n ret (Text p rest) after one lawful misc here later = absurd (both_ways false refl one)
root_placed told at n ret (Section cs rest) after one lawful misc here later = absurd (both_ways false refl one)
root_placed told at n ret (Comment cs rest) after one lawful misc here later = absurd (both_ways false refl one)
root_placed told at n ret (Hollow tag Nothing) after one lawful misc here later =
    let tagged = and_parts (is_tag tag) true lawful in
    let size : hollow_end_at at tag ≡ at + length (spell_content (Hollow tag Nothing)) = omega (arith, size_of_hollow at tag Nothing) in
    subst (λ z. Along (IsPlacedBy told) (state at (mode.Content n ret) outside) (60 ∷ z)) (sym (append_assoc (write_tag tag) (47 ∷ 62 ∷ []) (write_content after)))
    (hollow_placed told at n ret outside tag (write_content after) not_behind_outside tagged.0 (λ p low high. here p low (omega (arith, high, size)))
    (misc_behind told (hollowed outside (tag_read at tag)) (hollow_end_at at tag) after refl misc (λ p low high. later p (omega (arith, low, size)) (omega (arith, high, size)) ∙ ap (λ z. is_in p (spans z after)) (sym size))))
root_placed told at n ret (Hollow tag (Text p rest)) after one lawful misc here later = absurd (both_ways false refl one)
root_placed told at n ret (Hollow tag (Section cs rest)) after one lawful misc here later = absurd (both_ways false refl one)
root_placed told at n ret (Hollow tag (Comment cs rest)) after one lawful misc here later = absurd (both_ways false refl one)
root_placed told at n ret (Hollow tag (Hollow t rest)) after one lawful misc here later = absurd (both_ways false refl one)
root_placed told at n ret (Hollow tag (Element t i g rest)) after one lawful misc here later = absurd (both_ways false refl one)
root_placed told at n ret (Element tag inner gap Nothing) after one lawful misc here later =
    let a = and_parts (is_tag tag) (is_content inner && (list_all is_white gap && true)) lawful in
    let b = and_parts (is_content inner) (list_all is_white gap && true) a.1 in
    let c = and_parts (list_all is_white gap) true b.1 in
    let begun : Outer = started outside (tag_read at tag) in
    let within : Outer = outer_behind inner (inner_at at tag) false begun in
    let y : Open = opened_by outside tag at in
    let z : Open = with_word y (word_behind inner (inner_at at tag) y.word) in
    let within_opens : within.opens ≡ z ∷ [] = opens_behind inner begun y [] (inner_at at tag) false (started_opens outside tag at) in
    let shut : (closed within).opens ≡ [] = closed_opens within z [] within_opens in
    let end : ℕ = element_end_at at tag inner gap in
    let size : end ≡ at + length (spell_content (Element tag inner gap Nothing)) = omega (arith, size_of_element at tag gap inner Nothing) in
    let told_in : (p : ℕ) → at ≤ p → p ≤ end → told p ≡ is_in p (spans (inner_at at tag) inner) = λ p low high. here p low (omega (arith, high, size)) ∙ ap (is_in p) (append-nil (spans (inner_at at tag) inner)) in
    subst (λ w. Along (IsPlacedBy told) (state at (mode.Content n ret) outside) w) (root_back tag gap (write_content inner) (write_content after))
    (element_placed told at n ret outside tag inner gap (write_content after) not_behind_outside a.0 b.0 c.0
    (λ p low high. told_in p low (omega (arith, high)) ∙ none_before inner (inner_at at tag) p high)
    (λ p low high. told_in p (omega (arith, low)) high ∙ none_behind inner (inner_at at tag) p low)
    (content_placed told inner (inner_at at tag) 0 false begun y [] (started_opens outside tag at) b.0 (fits_none inner) (λ p low high. told_in p (omega (arith, low)) (omega (arith, high))))
    (misc_behind told (closed within) end after shut misc (λ p low high. later p (omega (arith, low, size)) (omega (arith, high, size)) ∙ ap (λ q. is_in p (spans q after)) (sym size))))
root_placed told at n ret (Element tag inner gap (Text p rest)) after one lawful misc here later = absurd (both_ways false refl one)
root_placed told at n ret (Element tag inner gap (Section cs rest)) after one lawful misc here later = absurd (both_ways false refl one)
root_placed told at n ret (Element tag inner gap (Comment cs rest)) after one lawful misc here later = absurd (both_ways false refl one)
root_placed told at n ret (Element tag inner gap (Hollow t rest)) after one lawful misc here later = absurd (both_ways false refl one)
root_placed told at n ret (Element tag inner gap (Element t i g rest)) after one lawful misc here later = absurd (both_ways false refl one)

-- Where the prolog is, the reader stands so that a document type may be told apart.
abbrev IsEarly : Document → State → Type 0
IsEarly d t = IsInProlog d t.at → is_within t.mode ≡ false → is_early t ≡ true

late_along : (d : Document) (s : State) (cs : List ℕ) → length (spell_prolog d) < s.at → Along (IsEarly d) s cs
late_along d s cs h =
    let places : Along (IsFrom s.at (s.at + length (encode_utf8_all cs))) s cs = along_places s.at (s.at + length (encode_utf8_all cs)) s cs (omega arith) (omega arith) in
    along_both (IsFrom s.at (s.at + length (encode_utf8_all cs))) (IsFrom s.at (s.at + length (encode_utf8_all cs))) (IsEarly d) (λ t from same inside out. absurd (omega (arith, h, from.0, inside.before))) s cs places places

early_tail : (d : Document) (m : ℕ) (back : Bool) (cs : List ℕ) → Along (IsEarly d) (state (length (spell_prolog d)) (mode.Content m back) outside) cs
early_tail d m back [] = λ inside out. refl
early_tail d m back (c ∷ cs) = (λ inside out. refl, by (next (mode.Content m back) outside (length (spell_prolog d)) c))
  where
    by : (n : Option (Mode × Outer)) → then_along (option_map (λ x. record { at = length (spell_prolog d) + length (encode_utf8 c); mode = x.0; outer = x.1 }) n) (λ u. Along (IsEarly d) u cs)
    by None = tt
    by (Some x) = late_along d (record { at = length (spell_prolog d) + length (encode_utf8 c); mode = x.0; outer = x.1 }) cs (omega (arith, length-encode c, (len_utf8_bounds c).0))

-- The places that are told in a document.
abbrev told_in : Document → ℕ → Bool
told_in d p = is_inside d p

prolog_size : (d : Document) → length (spell_prolog d) ≡ length (spell_head d) + length (spell_content d.before)
prolog_size d = length-append (spell_head d) (spell_content d.before)

three_told : (d : Document) (p : ℕ) → told_in d p ≡ (is_in p (spans (length (spell_head d)) d.before) || (is_in p (spans (length (spell_prolog d)) d.root) || is_in p (spans (length (spell_prolog d) + length (spell_content d.root)) d.after)))
three_told d p =
    in_both p (spans (length (spell_head d)) d.before) (spans (length (spell_prolog d)) d.root ++ spans (length (spell_prolog d) + length (spell_content d.root)) d.after)
    ∙ ap (λ z. is_in p (spans (length (spell_head d)) d.before) || z) (in_both p (spans (length (spell_prolog d)) d.root) (spans (length (spell_prolog d) + length (spell_content d.root)) d.after))

only_first : (a b c : Bool) → b ≡ false → c ≡ false → (a || (b || c)) ≡ a
only_first true b c h g = refl
only_first false true c h g = cc
only_first false false c h g = g

only_second : (a b c : Bool) → a ≡ false → c ≡ false → (a || (b || c)) ≡ b
only_second true b c h g = cc
only_second false true c h g = refl
only_second false false c h g = g

only_third : (a b c : Bool) → a ≡ false → b ≡ false → (a || (b || c)) ≡ c
only_third true b c h g = cc
only_third false true c h g = cc
only_third false false c h g = refl

told_first : (d : Document) → Agrees (told_in d) 0 (length (spell_prolog d)) (spans (length (spell_head d)) d.before)
told_first d p low high = three_told d p ∙ only_first _ _ _ (none_before d.root (length (spell_prolog d)) p high) (none_before d.after (length (spell_prolog d) + length (spell_content d.root)) p (omega (arith, high)))

told_second : (d : Document) → Agrees (told_in d) (length (spell_prolog d)) (length (spell_prolog d) + length (spell_content d.root)) (spans (length (spell_prolog d)) d.root)
told_second d p low high = three_told d p ∙ only_second _ _ _ (none_behind d.before (length (spell_head d)) p (omega (arith, low, prolog_size d))) (none_before d.after (length (spell_prolog d) + length (spell_content d.root)) p high)

told_third : (d : Document) (high : ℕ) → Agrees (told_in d) (length (spell_prolog d) + length (spell_content d.root)) high (spans (length (spell_prolog d) + length (spell_content d.root)) d.after)
told_third d top p low high = three_told d p ∙ only_third _ _ _ (none_behind d.before (length (spell_head d)) p (omega (arith, low, prolog_size d))) (none_behind d.root (length (spell_prolog d)) p low)

abbrev Stands : Document → State → Type 0
Stands d t = IsPlacedBy (told_in d) t × IsEarly d t

abbrev tail_of : Document → List ℕ
tail_of d = write_content d.before ++ (write_content d.root ++ write_content d.after)

early_so : (m : Mode) → is_misc_mode m ≡ true → is_within m ≡ false → (is_early_in m && true) ≡ true
early_so m may out = by (is_early_in m) (is_within m) may out
  where
    by : (a b : Bool) → (a || b) ≡ true → b ≡ false → (a && true) ≡ true
    by true b h g = refl
    by false b h g = absurd (both_ways b g h)

along_tail : (d : Document) → is_misc d.before ≡ true → is_root d.root ≡ true → is_content d.root ≡ true → is_misc d.after ≡ true → Along (Stands d) (state (length (spell_head d)) (mode.Content 0 false) outside) (tail_of d)
along_tail d before one lawful after =
    misc_then (Stands d) (told_in d) (length (spell_head d)) outside refl (λ p m low may h. (h, λ inside out. early_so m may out)) d.before (length (spell_head d)) 0 (length (spell_prolog d)) false (write_content d.root ++ write_content d.after) (omega arith) (prolog_size d) before
    (λ p low high. told_first d p (omega arith) high)
    (λ m back. along_both (IsPlacedBy (told_in d)) (IsEarly d) (Stands d) (λ t a b. (a, b)) (state (length (spell_prolog d)) (mode.Content m back) outside) (write_content d.root ++ write_content d.after)
    (root_placed (told_in d) (length (spell_prolog d)) m back d.root d.after one lawful after (told_second d) (told_third d (length (spell_prolog d) + length (spell_content d.root) + length (spell_content d.after))))
    (early_tail d m back (write_content d.root ++ write_content d.after)))

-- From the start of a text on.
start_white : (marked : Bool) (at c : ℕ) → is_white c ≡ true → step (state at (mode.Start marked) outside) c ≡ Some (state (at + length (encode_utf8 c)) (mode.Content 0 false) outside)
unfolding next
start_white marked at c white = rw white refl

start_opens : (marked : Bool) (at : ℕ) → step (state at (mode.Start marked) outside) 60 ≡ Some (state (at + 1) (mode.HeadOpened at) outside)
unfolding next encode
start_opens marked at = refl

head_step : (at c : ℕ) → (c == 63) ≡ false → step (state (at + 1) (mode.HeadOpened at) outside) c ≡ step (state (at + 1) (mode.Opened at) outside) c
head_step at c h = ap (option_map (λ x. record { at = at + 1 + length (encode_utf8 c); mode = x.0; outer = x.1 })) (fresh_opened at c h)

fresh_along : (Q : State → Type 0) (marked : Bool) (at : ℕ) (cs : List ℕ) → may_follow cs ≡ true → Q (state at (mode.Start marked) outside) → (Q (state (at + 1) (mode.Opened at) outside) → Q (state (at + 1) (mode.HeadOpened at) outside)) → Along Q (state at (mode.Content 0 false) outside) cs → Along Q (state at (mode.Start marked) outside) cs
fresh_along Q marked at [] may q head a = q
fresh_along Q marked at (c ∷ []) may q head a =
    on_to Q (state at (mode.Start marked) outside) (state (at + length (encode_utf8 c)) (mode.Content 0 false) outside) c [] q (start_white marked at c may)
    (subst (λ z. then_along z (λ u. Along Q u [])) (white_here at 0 false outside c refl may) a.1)
fresh_along Q marked at (c ∷ e ∷ cs) may q head a = by (is_white c) (c == 60) refl (eqb-true c 60) may
  where
    opened : (e == 63) ≡ false → Along Q (state (at + 1) (mode.Opened at) outside) (e ∷ cs) → Along Q (state at (mode.Start marked) outside) (60 ∷ e ∷ cs)
    opened other b = on_to Q (state at (mode.Start marked) outside) (state (at + 1) (mode.HeadOpened at) outside) 60 (e ∷ cs) q (start_opens marked at) (head b.0, subst (λ z. then_along z (λ u. Along Q u cs)) (sym (head_step at e other)) b.1)

    tag : c ≡ 60 → (e == 63) ≡ false → Along Q (state at (mode.Start marked) outside) (c ∷ e ∷ cs)
    tag same other =
        let b : Along Q (state at (mode.Content 0 false) outside) (60 ∷ e ∷ cs) = subst (λ z. Along Q (state at (mode.Content 0 false) outside) (z ∷ e ∷ cs)) same a in
        subst (λ z. Along Q (state at (mode.Start marked) outside) (z ∷ e ∷ cs)) (sym same) (opened other (subst (λ z. then_along z (λ u. Along Q u (e ∷ cs))) (opens_here at 0 false outside) b.1))

    by : (w o : Bool) → is_white c ≡ w → (o ≡ true → c ≡ 60) → (w || (o && not (e == 63))) ≡ true → Along Q (state at (mode.Start marked) outside) (c ∷ e ∷ cs)
    by true o white opens h =
        on_to Q (state at (mode.Start marked) outside) (state (at + length (encode_utf8 c)) (mode.Content 0 false) outside) c (e ∷ cs) q (start_white marked at c white)
        (subst (λ z. then_along z (λ u. Along Q u (e ∷ cs))) (white_here at 0 false outside c refl white) a.1)
    by false true white opens h = tag (opens refl) (not-true (e == 63) h)
    by false false white opens h = absurd (both_ways false refl h)

-- what may follow the head
follow_white : (c : ℕ) (cs : List ℕ) → is_white c ≡ true → may_follow (c ∷ cs) ≡ true
follow_white c [] h = h
follow_white c (e ∷ cs) h = ap (λ z. z || (c == 60 && not (e == 63))) h

follow_misc : (c : Content) (cs : List ℕ) → is_misc c ≡ true → may_follow cs ≡ true → may_follow (write_content c ++ cs) ≡ true
unfolding comment_start
follow_misc Nothing cs h g = g
follow_misc (Text (Char c) rest) cs h g = follow_white c (write_content rest ++ cs) (and_parts (is_white c) (is_misc rest) h).0
follow_misc (Text (Entity e) rest) cs h g = absurd (both_ways false refl h)
follow_misc (Text (Decimal e) rest) cs h g = absurd (both_ways false refl h)
follow_misc (Text (Hexadecimal e) rest) cs h g = absurd (both_ways false refl h)
follow_misc (Section chars rest) cs h g = absurd (both_ways false refl h)
follow_misc (Comment chars rest) cs h g = refl
follow_misc (Hollow tag rest) cs h g = absurd (both_ways false refl h)
follow_misc (Element tag inner gap rest) cs h g = absurd (both_ways false refl h)

follow_name : (name cs : List ℕ) → is_name name ≡ true → may_follow (60 ∷ (name ++ cs)) ≡ true
unfolding is_name name_start_ranges
follow_name [] cs h = absurd (both_ways false refl h)
follow_name (c ∷ name) cs h = not_from_false (c == 63) (apart is_name_start 63 c refl (and_parts (is_name_start c) _ h).0)

name_in : (tag : Tag) → is_tag tag ≡ true → is_name tag.name ≡ true
name_in tag h = (and_parts (is_name tag.name) (list_all is_attribute tag.attributes && list_all is_white tag.gap) h).0

follow_root : (c : Content) (cs : List ℕ) → is_root c ≡ true → is_content c ≡ true → may_follow (write_content c ++ cs) ≡ true
follow_root Nothing cs h g = absurd (both_ways false refl h)
follow_root (Text p rest) cs h g = absurd (both_ways false refl h)
follow_root (Section chars rest) cs h g = absurd (both_ways false refl h)
follow_root (Comment chars rest) cs h g = absurd (both_ways false refl h)
follow_root (Hollow tag rest) cs h g =
    ap (λ z. may_follow (60 ∷ z)) (append_assoc (write_tag tag) (47 ∷ 62 ∷ write_content rest) cs ∙ append_assoc tag.name (flat_map write_attribute tag.attributes ++ tag.gap) ((47 ∷ 62 ∷ write_content rest) ++ cs))
    ∙ follow_name tag.name ((flat_map write_attribute tag.attributes ++ tag.gap) ++ ((47 ∷ 62 ∷ write_content rest) ++ cs)) (name_in tag (and_parts (is_tag tag) (is_content rest) g).0)
follow_root (Element tag inner gap rest) cs h g =
    let more : List ℕ = 62 ∷ (write_content inner ++ 60 ∷ 47 ∷ (tag.name ++ (gap ++ 62 ∷ write_content rest))) in
    ap (λ z. may_follow (60 ∷ z)) (append_assoc (write_tag tag) more cs ∙ append_assoc tag.name (flat_map write_attribute tag.attributes ++ tag.gap) (more ++ cs))
    ∙ follow_name tag.name ((flat_map write_attribute tag.attributes ++ tag.gap) ++ (more ++ cs)) (name_in tag (and_parts (is_tag tag) (is_content inner && (list_all is_white gap && is_content rest)) g).0)

-- Declarations are outside.
abbrev SaysOther : (List ℕ → Bool) → Type 0
SaysOther allowed = (v : List ℕ) → allowed v ≡ true → list_all is_other v ≡ true

pseudo_other : (allowed : List ℕ → Bool) (word : List ℕ) (p : Pseudo) → SaysOther allowed → list_all is_other word ≡ true → is_pseudo allowed p ≡ true → list_all is_other (write_pseudo word p) ≡ true
pseudo_other allowed word p says plain h =
    let p0 = and_parts (not (bytes_eq p.gap []) && list_all is_white p.gap) (list_all is_white p.before && (list_all is_white p.after && (is_quote p.quote && allowed p.value))) h in
    let p1 = and_parts (list_all is_white p.before) (list_all is_white p.after && (is_quote p.quote && allowed p.value)) p0.1 in
    let p2 = and_parts (list_all is_white p.after) (is_quote p.quote && allowed p.value) p1.1 in
    let p3 = and_parts (is_quote p.quote) (allowed p.value) p2.1 in
    let quote : is_other p.quote ≡ true = not_from_false (p.quote == 60) (apart is_quote 60 p.quote refl p3.0) in
    let last : List ℕ = p.quote ∷ (p.value ++ p.quote ∷ []) in
    let last_is : list_all is_other last ≡ true = and_from (is_other p.quote) (list_all is_other (p.value ++ p.quote ∷ [])) quote (join_other p.value (p.quote ∷ []) (says p.value p3.1) (and_from (is_other p.quote) true quote refl)) in
    join_other p.gap (word ++ (p.before ++ 61 ∷ (p.after ++ last))) (white_other p.gap (and_parts (not (bytes_eq p.gap [])) (list_all is_white p.gap) p0.0).1)
    (join_other word (p.before ++ 61 ∷ (p.after ++ last)) plain (join_other p.before (61 ∷ (p.after ++ last)) (white_other p.before p1.0) (join_other p.after last (white_other p.after p2.0) last_is)))

optional_other : (allowed : List ℕ → Bool) (word : List ℕ) (p : Option Pseudo) → SaysOther allowed → list_all is_other word ≡ true → is_optional allowed p ≡ true → list_all is_other (write_optional word p) ≡ true
optional_other allowed word None says plain h = refl
optional_other allowed word (Some p) says plain h = pseudo_other allowed word p says plain h

one_other : (w v : List ℕ) → list_all is_other w ≡ true → bytes_eq v w ≡ true → list_all is_other v ≡ true
one_other w v h e = ap (list_all is_other) ((bytes_decides v w).0 e) ∙ h

either_other : SaysOther (λ v. bytes_eq v (codes "yes") || bytes_eq v (codes "no"))
either_other v h = by (or_cases (bytes_eq v (codes "yes")) (bytes_eq v (codes "no")) h)
  where
    by : (bytes_eq v (codes "yes") ≡ true) ⊎ (bytes_eq v (codes "no") ≡ true) → list_all is_other v ≡ true
    by (inl e) = one_other (codes "yes") v refl e
    by (inr e) = one_other (codes "no") v refl e

lower_others : (v w : List ℕ) → str_to_ascii_lowercase v ≡ w → list_all is_other w ≡ true → list_all is_other v ≡ true
lower_others [] w e h = refl
lower_others (c ∷ v) [] e h = cc
lower_others (c ∷ v) (g ∷ w) e h =
    let parts = and_parts (is_other g) (list_all is_other w) h in
    let first : to_ascii_lowercase c ≡ g = cc in
    let rest : str_to_ascii_lowercase v ≡ w = cc in
    let other : (c == 60) ≡ false = ne_eqb c 60 (λ same. eqb-false g 60 (not-true (g == 60) parts.0) (sym first ∙ ap to_ascii_lowercase same)) in
    and_from (is_other c) (list_all is_other v) (not_from_false (c == 60) other) (lower_others v w rest parts.1)

declaration_other : (d : Declaration) → is_declaration (Some d) ≡ true → list_all is_other (write_pseudo (codes "version") d.version ++ (write_optional (codes "encoding") d.encoding ++ (write_optional (codes "standalone") d.standalone ++ (d.gap ++ codes "?>")))) ≡ true
declaration_other d h =
    let p0 = and_parts (is_pseudo (λ v. bytes_eq v (codes "1.0")) d.version) (is_optional (λ v. bytes_eq (str_to_ascii_lowercase v) (codes "utf-8")) d.encoding && (is_optional (λ v. bytes_eq v (codes "yes") || bytes_eq v (codes "no")) d.standalone && list_all is_white d.gap)) h in
    let p1 = and_parts (is_optional (λ v. bytes_eq (str_to_ascii_lowercase v) (codes "utf-8")) d.encoding) (is_optional (λ v. bytes_eq v (codes "yes") || bytes_eq v (codes "no")) d.standalone && list_all is_white d.gap) p0.1 in
    let p2 = and_parts (is_optional (λ v. bytes_eq v (codes "yes") || bytes_eq v (codes "no")) d.standalone) (list_all is_white d.gap) p1.1 in
    join_other (write_pseudo (codes "version") d.version) (write_optional (codes "encoding") d.encoding ++ (write_optional (codes "standalone") d.standalone ++ (d.gap ++ codes "?>"))) (pseudo_other (λ v. bytes_eq v (codes "1.0")) (codes "version") d.version (λ v e. one_other (codes "1.0") v refl e) refl p0.0)
    (join_other (write_optional (codes "encoding") d.encoding) (write_optional (codes "standalone") d.standalone ++ (d.gap ++ codes "?>")) (optional_other (λ v. bytes_eq (str_to_ascii_lowercase v) (codes "utf-8")) (codes "encoding") d.encoding (λ v e. lower_others v (codes "utf-8") ((bytes_decides (str_to_ascii_lowercase v) (codes "utf-8")).0 e) refl) refl p1.0)
    (join_other (write_optional (codes "standalone") d.standalone) (d.gap ++ codes "?>") (optional_other (λ v. bytes_eq v (codes "yes") || bytes_eq v (codes "no")) (codes "standalone") d.standalone either_other refl p2.0) (join_other d.gap (codes "?>") (white_other d.gap p2.1) refl)))

declaration_out : (marked : Bool) (at : ℕ) (d : Declaration) → is_declaration (Some d) ≡ true → Along IsOut (state at (mode.Start marked) outside) (write_declaration (Some d))
declaration_out marked at d lawful =
    let more : List ℕ = write_pseudo (codes "version") d.version ++ (write_optional (codes "encoding") d.encoding ++ (write_optional (codes "standalone") d.standalone ++ (d.gap ++ codes "?>"))) in
    on_to IsOut (state at (mode.Start marked) outside) (state (at + 1) (mode.HeadOpened at) outside) 60 (63 ∷ 120 ∷ 109 ∷ 108 ∷ more) refl (start_opens marked at) (along_head_opened (at + 1) at outside 63 (120 ∷ 109 ∷ 108 ∷ more) refl (declaration_other d lawful))

-- all states before the last are at earlier places
along_last : (s t : State) (cs : List ℕ) → run s cs ≡ Some t → Along (λ u. (u.at < t.at) ⊎ (u ≡ t)) s cs
unfolding run
along_last s t [] r = inr cc
along_last s t (c ∷ cs) r =
    let place : t.at ≡ s.at + length (encode_utf8_all (c ∷ cs)) = counts (c ∷ cs) s t r in
    (inl (omega (arith, place, length-append (encode_utf8 c) (encode_utf8_all cs), length-encode c, (len_utf8_bounds c).0)), by (step s c) r (λ u h. along_last u t cs h))
  where
    by : (o : Option State) → then_run o (λ u. run u cs) ≡ Some t → ((u : State) → run u cs ≡ Some t → Along (λ u. (u.at < t.at) ⊎ (u ≡ t)) u cs) → then_along o (λ u. Along (λ u. (u.at < t.at) ⊎ (u ≡ t)) u cs)
    by None h again = tt
    by (Some u) h again = again u h

-- a declaration, and what follows it
declared_along : (d : Document) (marked : Bool) (at : ℕ) (e : Declaration) (cs : List ℕ) → is_declaration (Some e) ≡ true → at + length (spell_declaration (Some e)) ≡ length (spell_head d) → Along (Stands d) (state (length (spell_head d)) (mode.Content 0 false) outside) cs → Along (Stands d) (state at (mode.Start marked) outside) (write_declaration (Some e) ++ cs)
declared_along d marked at e cs lawful size more =
    let s : State = state at (mode.Start marked) outside in
    let t : State = state (length (spell_head d)) (mode.Content 0 false) outside in
    let taken_so : run s (write_declaration (Some e)) ≡ Some t = (whole_declaration marked at e lawful).runs ∙ ap (λ p. Some (state p (mode.Content 0 false) outside)) size in
    along_append (Stands d) s t (write_declaration (Some e)) cs
    (along_both (IsPlacedBy (told_in d)) (λ u. (u.at < t.at) ⊎ (u ≡ t)) (Stands d) (λ u a b. (a, early u b)) s (write_declaration (Some e))
    (out_along (told_in d) s t (write_declaration (Some e)) (declaration_out marked at e lawful) taken_so (λ p low high. told_first d p (omega arith) (omega (arith, high, prolog_size d)) ∙ none_before d.before (length (spell_head d)) p high))
    (along_last s t (write_declaration (Some e)) taken_so)) taken_so more
  where
    early : (u : State) → (u.at < length (spell_head d)) ⊎ (u ≡ state (length (spell_head d)) (mode.Content 0 false) outside) → IsEarly d u
    early u (inl h) = λ inside out. absurd (omega (arith, h, inside.behind))
    early u (inr h) = subst (IsEarly d) (sym h) (λ inside out. refl)

fresh_stands : (d : Document) (marked : Bool) (cs : List ℕ) → may_follow cs ≡ true → Along (Stands d) (state (length (spell_head d)) (mode.Content 0 false) outside) cs → Along (Stands d) (state (length (spell_head d)) (mode.Start marked) outside) cs
fresh_stands d marked cs may a =
    fresh_along (Stands d) marked (length (spell_head d)) cs may
    (told_first d (length (spell_head d)) (omega arith) (omega (arith, prolog_size d)) ∙ none_before d.before (length (spell_head d)) (length (spell_head d)) (omega arith), λ inside out. refl)
    (λ q. (q.0, λ inside out. refl)) a

head_told : (d : Document) (p : ℕ) → p ≤ length (spell_head d) → told_in d p ≡ false
head_told d p low = told_first d p (omega arith) (omega (arith, low, prolog_size d)) ∙ none_before d.before (length (spell_head d)) p low

mark_step : step start 0xFEFF ≡ Some (state 3 (mode.Start false) outside)
unfolding next encode
mark_step = refl

by_head : (d : Document) (m : Bool) (e : Option Declaration) → d.mark ≡ m → d.declaration ≡ e → is_declaration d.declaration ≡ true → may_follow (tail_of d) ≡ true → Along (Stands d) (state (length (spell_head d)) (mode.Content 0 false) outside) (tail_of d) → Along (Stands d) start (write d)
by_head d m e marked declared lawful may more = by m e writes size (ap is_declaration (sym declared) ∙ lawful)
  where
    writes : write d ≡ ((cond m (0xFEFF ∷ []) [] ++ write_declaration e) ++ write_content d.before) ++ (write_content d.root ++ write_content d.after)
    writes = λ i. ((cond (marked i) (0xFEFF ∷ []) [] ++ write_declaration (declared i)) ++ write_content d.before) ++ (write_content d.root ++ write_content d.after)

    size : length (spell_head d) ≡ length (cond m byte_order_mark [] ++ spell_declaration e)
    size = λ i. length (cond (marked i) byte_order_mark [] ++ spell_declaration (declared i))

    regroup : (x : List ℕ) → (x ++ write_content d.before) ++ (write_content d.root ++ write_content d.after) ≡ x ++ tail_of d
    regroup x = append_assoc x (write_content d.before) (write_content d.root ++ write_content d.after)

    begun : Stands d start
    begun = (head_told d 0 (omega arith), λ inside out. refl)

    by : (m : Bool) (e : Option Declaration) → write d ≡ ((cond m (0xFEFF ∷ []) [] ++ write_declaration e) ++ write_content d.before) ++ (write_content d.root ++ write_content d.after) → length (spell_head d) ≡ length (cond m byte_order_mark [] ++ spell_declaration e) → is_declaration e ≡ true → Along (Stands d) start (write d)
    by false None w n h = subst (λ z. Along (Stands d) start z) (sym w) (subst (λ p. Along (Stands d) (state p (mode.Start true) outside) (tail_of d)) n (fresh_stands d true (tail_of d) may more))
    by true None w n h =
        subst (λ z. Along (Stands d) start z) (sym w)
        (on_to (Stands d) start (state 3 (mode.Start false) outside) 0xFEFF (tail_of d) begun mark_step (subst (λ p. Along (Stands d) (state p (mode.Start false) outside) (tail_of d)) n (fresh_stands d false (tail_of d) may more)))
    by false (Some x) w n h =
        subst (λ z. Along (Stands d) start z) (sym (w ∙ regroup (write_declaration (Some x))))
        (declared_along d true 0 x (tail_of d) h (omega (arith, n)) more)
    by true (Some x) w n h =
        subst (λ z. Along (Stands d) start z) (sym (w ∙ ap (λ z. 0xFEFF ∷ z) (regroup (write_declaration (Some x)))))
        (on_to (Stands d) start (state 3 (mode.Start false) outside) 0xFEFF (write_declaration (Some x) ++ tail_of d) begun mark_step (declared_along d false 3 x (tail_of d) h (omega (arith, n)) more))

pub along_document : (d : Document) → is_document d ≡ true → Along (Stands d) start (write d)
along_document d lawful =
    let a = and_parts (is_declaration d.declaration) (is_misc d.before && ((is_root d.root && is_content d.root) && is_misc d.after)) lawful in
    let b = and_parts (is_misc d.before) ((is_root d.root && is_content d.root) && is_misc d.after) a.1 in
    let c = and_parts (is_root d.root && is_content d.root) (is_misc d.after) b.1 in
    let e = and_parts (is_root d.root) (is_content d.root) c.0 in
    by_head d d.mark d.declaration refl refl a.0 (follow_misc d.before (write_content d.root ++ write_content d.after) b.0 (follow_root d.root (write_content d.after) e.0 e.1)) (along_tail d b.0 e.0 e.1 c.1)

pub runs_are_placed : RunsArePlaced
runs_are_placed d front rest s h e r =
    let stands : Stands d s = along_at (Stands d) start s (write d) front rest (along_document d h) e r in
    record { inside = stands.0; early = stands.1 }

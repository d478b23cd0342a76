-- The states along content, by their places.
use Rattle.std.proofs.Common.{◌≡◌, ◌≢◌, ℕ, ◌+◌, ◌<◌, ◌≤◌, nat_le, nat_lt, Bool, true, false, not, ◌&&◌, ◌||◌, List, [], ◌∷◌, ◌++◌, length, refl, ap, subst, sym, ◌∙◌, arith, length-append, append_assoc, Some, inl, inr}
use Rattle.std.specs.Prelude.{◌⊎◌, encode_utf8_all}
use Rattle.std.specs.List.{list_all}
use Rattle.std.proofs.lemmas.Bool.{and_parts, and_right, not-true, or_from, cases_lt, lt-leb, le-leb, lt-ltb, le-ltb}
use Rattle.pws_mark.specs.Bindings.{piece_char, is_char}
use Rattle.pws_mark.specs.Documents.{Tag, Content, Nothing, Text, Section, Comment, Hollow, Element, spell_piece, spell_content, section_start, section_end, comment_start, comment_end}
use Rattle.pws_mark.specs.Faults.{open_length, close_length}
use Rattle.pws_mark.specs.Grammar.{is_content, is_tag, begins_with}
use Rattle.pws_mark.specs.Places.{spans}
use Rattle.pws_mark.specs.Scan.{run, then_run, step, region, region_in, is_within}
use Rattle.pws_mark.specs.Spelling.{write_piece, write_tag, write_content}
use Rattle.pws_mark.specs.States.{Open, Outer, State, started, hollowed, ended, taken, spoiled, with_char}
use Rattle.pws_mark.specs.TokenLaws.{state, tag_read, brackets_behind, piece_bytes, all_taken}
use Rattle.pws_mark.specs.Tokens.{is_white, is_name, is_piece, is_text_char, is_section, is_comment, is_attribute}
use Rattle.pws_mark.specs.declared.modes.Mode.TheVariants as mode
use Rattle.pws_mark.specs.declared.modes.Region.TheVariants as region_is
use Rattle.pws_mark.proofs.Counted.{counts}
use Rattle.pws_mark.proofs.Following.{section_end_at, comment_end_at, hollow_end_at, inner_at, close_at, element_end_at, marks_behind, return_behind, closed_in, closed, outer_behind, word_behind, word_behind_chars, spoiled_word, with_word, taken_opens, chars_opens, spoiled_opens, opened_by, started_opens, closed_opens, hollowed_opens, opens_behind, Fits, fits_none, piece_free, fits_behind, content_goes}
use Rattle.pws_mark.proofs.TakesComments.{comments_are_taken}
use Rattle.pws_mark.proofs.TakesEnds.{ends_are_taken}
use Rattle.pws_mark.proofs.TakesPieces.{pieces_are_taken}
use Rattle.pws_mark.proofs.TakesSections.{sections_are_taken}
use Rattle.pws_mark.proofs.TakesTags.{starts_are_taken, hollows_are_taken}
use Rattle.pws_mark.proofs.PlacedModes.{Along, along_append, along_both, IsFrom, along_places, IsOut}
use Rattle.pws_mark.proofs.PlacedTokens.{along_piece, along_tag, along_end, along_comment, along_section, IsPast, opens_here}
use Rattle.pws_mark.proofs.PlacedSpans.{is_in, in_both, size_of_element, size_of_hollow, size_of_section, size_of_comment, none_before, none_behind}

-- a place that is told to be in a comment or a section is one where the reader is within
abbrev pub IsPlacedBy : (ℕ → Bool) → State → Type 0
IsPlacedBy told t = told t.at ≡ is_within t.mode

-- the places from here to there are told by these spans
abbrev pub Agrees : (ℕ → Bool) → ℕ → ℕ → List (ℕ × ℕ) → Type 0
Agrees told low high all = (p : ℕ) → low ≤ p → p ≤ high → told p ≡ is_in p all

-- a token outside
pub out_along : (told : ℕ → Bool) (s t : State) (cs : List ℕ) → Along IsOut s cs → run s cs ≡ Some t → Agrees told s.at t.at [] → Along (IsPlacedBy told) s cs
out_along told s t cs a r agrees =
    along_both IsOut (IsFrom s.at t.at) (IsPlacedBy told) (λ u out from. agrees u.at from.0 from.1 ∙ sym out) s cs a
    (along_places s.at t.at s cs (omega arith) (omega (arith, counts cs s t r)))

-- a token that is a comment or a section
pub past_along : (told : ℕ → Bool) (begin end : ℕ) (s t : State) (cs : List ℕ) → Along (IsPast begin end) s cs → run s cs ≡ Some t → Agrees told s.at t.at ((begin, end) ∷ []) → Along (IsPlacedBy told) s cs
past_along told begin end s t cs a r agrees =
    along_both (IsPast begin end) (IsFrom s.at t.at) (IsPlacedBy told) (λ u past from. agrees u.at from.0 from.1 ∙ (same u.at ∙ sym past)) s cs a
    (along_places s.at t.at s cs (omega arith) (omega (arith, counts cs s t r)))
  where
    same : (p : ℕ) → ((nat_le begin p && nat_lt p end) || false) ≡ (not (nat_lt p begin) && nat_lt p end)
    same p = by (cases_lt p begin)
      where
        ends : (b : Bool) → (b || false) ≡ b
        ends true = refl
        ends false = refl

        by : (p < begin) ⊎ (begin ≤ p) → ((nat_le begin p && nat_lt p end) || false) ≡ (not (nat_lt p begin) && nat_lt p end)
        by (inl h) = ap (λ z. (z && nat_lt p end) || false) (lt-leb begin p h) ∙ ap (λ z. not z && nat_lt p end) (sym (lt-ltb p begin h))
        by (inr h) = ap (λ z. (z && nat_lt p end) || false) (le-leb begin p h) ∙ (ends (nat_lt p end) ∙ ap (λ z. not z && nat_lt p end) (sym (le-ltb p begin h)))

or_false : (b : Bool) → (b || false) ≡ b
or_false true = refl
or_false false = refl

not_behind : (o : Outer) (x : Open) (xs : List Open) → o.opens ≡ x ∷ xs → region o ≢ region_is.Behind
not_behind o x xs h e = let i : region o ≡ region_is.Inside = ap (λ os. region_in os o.behind) h in absurd cc

-- a place behind a span
pub gone : (begin end p : ℕ) (b : Bool) → end ≤ p → ((nat_le begin p && nat_lt p end) || b) ≡ b
gone begin end p b h = ap (λ z. z || b) (and_right (nat_le begin p) (nat_lt p end) (le-ltb p end h))

run_on : (s u t : State) (c : ℕ) (cs : List ℕ) → step s c ≡ Some u → run u cs ≡ Some t → run s (c ∷ cs) ≡ Some t
unfolding run
run_on s u t c cs e r = ap (λ z. then_run z (λ v. run v cs)) e ∙ r

comment_back : (chars cs : List ℕ) → (comment_start ++ (chars ++ comment_end)) ++ cs ≡ comment_start ++ (chars ++ (comment_end ++ cs))
comment_back chars cs = append_assoc comment_start (chars ++ comment_end) cs ∙ ap (λ z. comment_start ++ z) (append_assoc chars comment_end cs)

section_back : (chars cs : List ℕ) → (section_start ++ (chars ++ section_end)) ++ cs ≡ section_start ++ (chars ++ (section_end ++ cs))
section_back chars cs = append_assoc section_start (chars ++ section_end) cs ∙ ap (λ z. section_start ++ z) (append_assoc chars section_end cs)

element_back : (tag : Tag) (gap inner rest : List ℕ) → (60 ∷ (write_tag tag ++ 62 ∷ [])) ++ (inner ++ ((60 ∷ 47 ∷ (tag.name ++ (gap ++ 62 ∷ []))) ++ rest)) ≡ 60 ∷ (write_tag tag ++ 62 ∷ (inner ++ 60 ∷ 47 ∷ (tag.name ++ (gap ++ 62 ∷ rest))))
element_back tag gap inner rest =
    ap (λ z. 60 ∷ z) (append_assoc (write_tag tag) (62 ∷ []) (inner ++ ((60 ∷ 47 ∷ (tag.name ++ (gap ++ 62 ∷ []))) ++ rest)))
    ∙ ap (λ z. 60 ∷ (write_tag tag ++ 62 ∷ (inner ++ 60 ∷ 47 ∷ z))) (append_assoc tag.name (gap ++ 62 ∷ []) rest ∙ ap (λ z. tag.name ++ z) (append_assoc gap (62 ∷ []) rest))

-- a comment, and then others
pub comment_placed : (told : ℕ → Bool) (at n : ℕ) (ret : Bool) (o : Outer) (chars cs : List ℕ) → is_comment chars ≡ true → Agrees told at (comment_end_at at chars) ((at + 4, comment_end_at at chars) ∷ []) → Along (IsPlacedBy told) (state (comment_end_at at chars) (mode.Content 0 false) o) cs → Along (IsPlacedBy told) (state at (mode.Content n ret) o) (comment_start ++ (chars ++ (comment_end ++ cs)))
unfolding comment_start comment_end
comment_placed told at n ret o chars cs lawful agrees more =
    let end : ℕ = comment_end_at at chars in
    let s : State = state at (mode.Content n ret) o in
    let t : State = state end (mode.Content 0 false) o in
    let taken_so : run s (comment_start ++ (chars ++ comment_end)) ≡ Some t = (comments_are_taken o at n ret chars lawful).runs in
    subst (λ z. Along (IsPlacedBy told) s z) (comment_back chars cs)
    (along_append (IsPlacedBy told) s t (comment_start ++ (chars ++ comment_end)) cs
    (past_along told (at + 4) end s t (comment_start ++ (chars ++ comment_end)) (along_comment at n end ret o chars lawful (omega (arith, length-append (encode_utf8_all chars) comment_end))) taken_so agrees) taken_so more)

section_placed : (told : ℕ → Bool) (at n : ℕ) (ret : Bool) (o : Outer) (x : Open) (xs : List Open) (chars cs : List ℕ) → o.opens ≡ x ∷ xs → is_section chars ≡ true → Agrees told at (section_end_at at chars) ((at + 9, section_end_at at chars) ∷ []) → Along (IsPlacedBy told) (state (section_end_at at chars) (mode.Content 0 false) (all_taken o (at + length section_start) false chars)) cs → Along (IsPlacedBy told) (state at (mode.Content n ret) o) (section_start ++ (chars ++ (section_end ++ cs)))
unfolding section_start section_end
section_placed told at n ret o x xs chars cs opens lawful agrees more =
    let end : ℕ = section_end_at at chars in
    let s : State = state at (mode.Content n ret) o in
    let t : State = state end (mode.Content 0 false) (all_taken o (at + length section_start) false chars) in
    let taken_so : run s (section_start ++ (chars ++ section_end)) ≡ Some t = (sections_are_taken o at n ret chars (ap (λ os. region_in os o.behind) opens) lawful).runs in
    subst (λ z. Along (IsPlacedBy told) s z) (section_back chars cs)
    (along_append (IsPlacedBy told) s t (section_start ++ (chars ++ section_end)) cs
    (past_along told (at + 9) end s t (section_start ++ (chars ++ section_end)) (along_section at n end ret o x xs chars opens lawful (omega (arith, length-append (encode_utf8_all chars) section_end))) taken_so agrees) taken_so more)

pub hollow_placed : (told : ℕ → Bool) (at n : ℕ) (ret : Bool) (o : Outer) (tag : Tag) (cs : List ℕ) → region o ≢ region_is.Behind → is_tag tag ≡ true → Agrees told at (hollow_end_at at tag) [] → Along (IsPlacedBy told) (state (hollow_end_at at tag) (mode.Content 0 false) (hollowed o (tag_read at tag))) cs → Along (IsPlacedBy told) (state at (mode.Content n ret) o) (60 ∷ (write_tag tag ++ 47 ∷ 62 ∷ cs))
hollow_placed told at n ret o tag cs here lawful agrees more =
    let s : State = state at (mode.Content n ret) o in
    let t : State = state (hollow_end_at at tag) (mode.Content 0 false) (hollowed o (tag_read at tag)) in
    let token : List ℕ = 60 ∷ (write_tag tag ++ 47 ∷ 62 ∷ []) in
    let taken_so : run s token ≡ Some t = run_on s (state (at + 1) (mode.Opened at) o) t 60 (write_tag tag ++ 47 ∷ 62 ∷ []) (opens_here at n ret o) (hollows_are_taken o at tag here lawful).runs in
    subst (λ z. Along (IsPlacedBy told) s (60 ∷ z)) (append_assoc (write_tag tag) (47 ∷ 62 ∷ []) cs)
    (along_append (IsPlacedBy told) s t token cs (out_along told s t token (along_tag at n ret o tag (47 ∷ 62 ∷ []) lawful refl) taken_so agrees) taken_so more)

-- an element, its content and then others
pub element_placed : (told : ℕ → Bool) (at n : ℕ) (ret : Bool) (o : Outer) (tag : Tag) (inner : Content) (gap cs : List ℕ) → region o ≢ region_is.Behind → is_tag tag ≡ true → is_content inner ≡ true → list_all is_white gap ≡ true →
    Agrees told at (inner_at at tag) [] → Agrees told (close_at at tag inner) (element_end_at at tag inner gap) [] →
    Along (IsPlacedBy told) (state (inner_at at tag) (mode.Content 0 false) (started o (tag_read at tag))) (write_content inner) →
    Along (IsPlacedBy told) (state (element_end_at at tag inner gap) (mode.Content 0 false) (closed (outer_behind inner (inner_at at tag) false (started o (tag_read at tag))))) cs →
    Along (IsPlacedBy told) (state at (mode.Content n ret) o) (60 ∷ (write_tag tag ++ 62 ∷ (write_content inner ++ 60 ∷ 47 ∷ (tag.name ++ (gap ++ 62 ∷ cs)))))
element_placed told at n ret o tag inner gap cs here lawful content white first last deep more =
    let begun : Outer = started o (tag_read at tag) in
    let within : Outer = outer_behind inner (inner_at at tag) false begun in
    let y : Open = opened_by o tag at in
    let z : Open = with_word y (word_behind inner (inner_at at tag) y.word) in
    let within_opens : within.opens ≡ z ∷ spoiled o.opens = opens_behind inner begun y (spoiled o.opens) (inner_at at tag) false (started_opens o tag at) in
    let shut_is : ended z (spoiled o.opens) within.events within.text ≡ closed within = ap (λ os. closed_in os within) (sym within_opens) in
    let name = and_parts (is_name tag.name) (list_all is_attribute tag.attributes && list_all is_white tag.gap) lawful in
    let s : State = state at (mode.Content n ret) o in
    let t : State = state (inner_at at tag) (mode.Content 0 false) begun in
    let u : State = state (close_at at tag inner) (mode.Content (marks_behind inner 0) (return_behind inner false)) within in
    let v : State = state (element_end_at at tag inner gap) (mode.Content 0 false) (closed within) in
    let open_token : List ℕ = 60 ∷ (write_tag tag ++ 62 ∷ []) in
    let end_token : List ℕ = 60 ∷ 47 ∷ (tag.name ++ (gap ++ 62 ∷ [])) in
    let opened : run s open_token ≡ Some t = run_on s (state (at + 1) (mode.Opened at) o) t 60 (write_tag tag ++ 62 ∷ []) (opens_here at n ret o) (starts_are_taken o at tag here lawful).runs in
    let inside : run t (write_content inner) ≡ Some u = (content_goes inner (inner_at at tag) 0 false begun y (spoiled o.opens) (started_opens o tag at) content (fits_none inner)).runs in
    let ends : run u end_token ≡ Some v = (ends_are_taken within z (spoiled o.opens) (close_at at tag inner) (marks_behind inner 0) (return_behind inner false) gap within_opens name.0 white).runs ∙ (λ i. Some (state (element_end_at at tag inner gap) (mode.Content 0 false) (shut_is i))) in
    subst (λ w. Along (IsPlacedBy told) s w) (element_back tag gap (write_content inner) cs)
    (along_append (IsPlacedBy told) s t open_token (write_content inner ++ (end_token ++ cs)) (out_along told s t open_token (along_tag at n ret o tag (62 ∷ []) lawful refl) opened first) opened
    (along_append (IsPlacedBy told) t u (write_content inner) (end_token ++ cs) deep inside
    (along_append (IsPlacedBy told) u v end_token cs (out_along told u v end_token (along_end (close_at at tag inner) (marks_behind inner 0) (return_behind inner false) within tag.name gap name.0 white) ends last) ends more)))

-- Content inside of an element.
pub content_placed : (told : ℕ → Bool) (c : Content) (at n : ℕ) (ret : Bool) (o : Outer) (x : Open) (xs : List Open) → o.opens ≡ x ∷ xs → is_content c ≡ true → Fits n c → Agrees told at (at + length (spell_content c)) (spans at c) → Along (IsPlacedBy told) (state at (mode.Content n ret) o) (write_content c)
unfolding section_start comment_start
content_placed told Nothing at n ret o x xs opens lawful fits agrees = agrees at (omega arith) (omega arith)
content_placed told (Text piece rest) at n ret o x xs opens lawful fits agrees =
    let one = and_parts (is_piece is_text_char piece) (not (begins_with section_end (Text piece rest)) && is_content rest) lawful in
    let two = and_parts (not (begins_with section_end (Text piece rest))) (is_content rest) one.1 in
    let end : ℕ = at + length (spell_piece piece) in
    let around : Outer = taken o at (piece_char piece) (piece_bytes ret piece) in
    let s : State = state at (mode.Content n ret) o in
    let t : State = state end (mode.Content (brackets_behind n piece) (is_char 13 piece)) around in
    let size : length (spell_content (Text piece rest)) ≡ length (spell_piece piece) + length (spell_content rest) = length-append (spell_piece piece) (spell_content rest) in
    let taken_so : run s (write_piece piece) ≡ Some t = (pieces_are_taken o at n ret piece (ap (λ os. region_in os o.behind) opens) one.0 (piece_free n piece rest fits)).runs in
    along_append (IsPlacedBy told) s t (write_piece piece) (write_content rest)
    (out_along told s t (write_piece piece) (along_piece at n ret o piece one.0) taken_so (λ p low high. agrees p low (omega (arith, high, size)) ∙ none_before rest end p high)) taken_so
    (content_placed told rest end (brackets_behind n piece) (is_char 13 piece) around (with_word x (with_char x.word at (piece_char piece))) xs (taken_opens o x xs at (piece_char piece) (piece_bytes ret piece) opens) two.1 (fits_behind n piece rest fits (not-true _ two.0))
    (λ p low high. agrees p (omega (arith, low)) (omega (arith, high, size))))
content_placed told (Section chars rest) at n ret o x xs opens lawful fits agrees =
    let parts = and_parts (is_section chars) (is_content rest) lawful in
    let end : ℕ = section_end_at at chars in
    let around : Outer = all_taken o (at + length section_start) false chars in
    let size = size_of_section at chars rest in
    section_placed told at n ret o x xs chars (write_content rest) opens parts.0
    (λ p low high. agrees p low (omega (arith, high, size)) ∙ ap (λ z. (nat_le (at + 9) p && nat_lt p end) || z) (none_before rest end p high))
    (content_placed told rest end 0 false around (with_word x (word_behind_chars x.word (at + length section_start) chars)) xs (chars_opens chars o x xs (at + length section_start) false opens) parts.1 (fits_none rest)
    (λ p low high. agrees p (omega (arith, low)) (omega (arith, high, size)) ∙ gone (at + 9) end p (is_in p (spans end rest)) low))
content_placed told (Comment chars rest) at n ret o x xs opens lawful fits agrees =
    let parts = and_parts (is_comment chars) (is_content rest) lawful in
    let end : ℕ = comment_end_at at chars in
    let size = size_of_comment at chars rest in
    comment_placed told at n ret o chars (write_content rest) parts.0
    (λ p low high. agrees p low (omega (arith, high, size)) ∙ ap (λ z. (nat_le (at + 4) p && nat_lt p end) || z) (none_before rest end p high))
    (content_placed told rest end 0 false o x xs opens parts.1 (fits_none rest)
    (λ p low high. agrees p (omega (arith, low)) (omega (arith, high, size)) ∙ gone (at + 4) end p (is_in p (spans end rest)) low))
content_placed told (Hollow tag rest) at n ret o x xs opens lawful fits agrees =
    let parts = and_parts (is_tag tag) (is_content rest) lawful in
    let end : ℕ = hollow_end_at at tag in
    let size = size_of_hollow at tag rest in
    let same : end ≡ at + (open_length tag + 1) = omega arith in
    hollow_placed told at n ret o tag (write_content rest) (not_behind o x xs opens) parts.0
    (λ p low high. agrees p low (omega (arith, high, size)) ∙ none_before rest (at + (open_length tag + 1)) p (omega (arith, high)))
    (content_placed told rest end 0 false (hollowed o (tag_read at tag)) (with_word x (spoiled_word x.word)) xs (hollowed_opens o x xs tag at opens) parts.1 (fits_none rest)
    (λ p low high. agrees p (omega (arith, low)) (omega (arith, high, size)) ∙ ap (λ z. is_in p (spans z rest)) (sym same)))
content_placed told (Element tag inner gap rest) at n ret o x xs opens lawful fits agrees =
    let one = and_parts (is_tag tag) (is_content inner && (list_all is_white gap && is_content rest)) lawful in
    let two = and_parts (is_content inner) (list_all is_white gap && is_content rest) one.1 in
    let three = and_parts (list_all is_white gap) (is_content rest) two.1 in
    let begun : Outer = started o (tag_read at tag) in
    let within : Outer = outer_behind inner (inner_at at tag) false begun in
    let y : Open = opened_by o tag at in
    let z : Open = with_word y (word_behind inner (inner_at at tag) y.word) in
    let within_opens : within.opens ≡ z ∷ spoiled o.opens = opens_behind inner begun y (spoiled o.opens) (inner_at at tag) false (started_opens o tag at) in
    let shut_opens : (closed within).opens ≡ with_word x (spoiled_word x.word) ∷ xs = closed_opens within z (spoiled o.opens) within_opens ∙ spoiled_opens o.opens x xs opens in
    let rest_at : ℕ = inner_at at tag + (length (spell_content inner) + close_length tag gap) in
    let same : element_end_at at tag inner gap ≡ rest_at = omega arith in
    let size = size_of_element at tag gap inner rest in
    let both : (p : ℕ) → at ≤ p → p ≤ at + length (spell_content (Element tag inner gap rest)) → told p ≡ (is_in p (spans (inner_at at tag) inner) || is_in p (spans rest_at rest)) = λ p low high. agrees p low high ∙ in_both p (spans (inner_at at tag) inner) (spans rest_at rest) in
    element_placed told at n ret o tag inner gap (write_content rest) (not_behind o x xs opens) one.0 two.0 three.0
    (λ p low high. both p low (omega (arith, high, size)) ∙ or_from (is_in p (spans (inner_at at tag) inner)) (is_in p (spans rest_at rest)) (none_before inner (inner_at at tag) p high) (none_before rest rest_at p (omega (arith, high))))
    (λ p low high. both p (omega (arith, low)) (omega (arith, high, size)) ∙ or_from (is_in p (spans (inner_at at tag) inner)) (is_in p (spans rest_at rest)) (none_behind inner (inner_at at tag) p low) (none_before rest rest_at p (omega (arith, high))))
    (content_placed told inner (inner_at at tag) 0 false begun y (spoiled o.opens) (started_opens o tag at) two.0 (fits_none inner)
    (λ p low high. both p (omega (arith, low)) (omega (arith, high, size)) ∙ (ap (λ w. is_in p (spans (inner_at at tag) inner) || w) (none_before rest rest_at p (omega (arith, high))) ∙ or_false (is_in p (spans (inner_at at tag) inner)))))
    (content_placed told rest (element_end_at at tag inner gap) 0 false (closed within) (with_word x (spoiled_word x.word)) xs shut_opens three.1 (fits_none rest)
    (λ p low high. both p (omega (arith, low)) (omega (arith, high, size)) ∙ (ap (λ w. w || is_in p (spans rest_at rest)) (none_behind inner (inner_at at tag) p (omega (arith, low))) ∙ ap (λ w. is_in p (spans w rest)) (sym same))))

-- The states along tokens: outside of comments and sections but behind what opens one.
use Rattle.std.proofs.Common.{◌≡◌, ℕ, zero, suc, ◌+◌, ◌-◌, ◌<◌, ◌≤◌, nat_lt, replicate, Bool, true, false, not, ◌&&◌, cond, List, [], ◌∷◌, ◌++◌, length, refl, ap, subst, sym, ◌∙◌, arith, length-append, Some}
use Rattle.std.specs.Prelude.{◌==◌, nat_eq, option_map, encode_utf8, encode_utf8_all, if◌then◌else◌}
use Rattle.std.specs.List.{flat_map, list_all, starts_with}
use Rattle.std.specs.Str.{bytes_eq}
use Rattle.std.proofs.lemmas.Bool.{and_parts, and_from, both_ways, not-true, not_from_false, or_parts, eqb-true, lt-ltb, le-ltb}
use Rattle.std.proofs.lemmas.List.Folds.{list_all-append}
use lib.Utf8.{encode}
use Rattle.pws_tree.specs.Characters.{is_xml_char, is_name_start, xml_ranges, name_start_ranges, name_more_ranges}
use Rattle.pws_mark.specs.Digits.{is_digit, is_hexadecimal}
use Rattle.pws_mark.specs.Documents.{Piece, Char, Entity, Decimal, Hexadecimal, Attribute, Tag, section_start, section_end, comment_start, comment_end}
use Rattle.pws_mark.specs.Grammar.{is_tag}
use Rattle.pws_mark.specs.Scan.{next, step, is_within, marks_after, region_in, stays, bang_step, brackets_taken, text_bytes, section_word}
use Rattle.pws_mark.specs.Spelling.{write_piece, write_attribute, write_tag}
use Rattle.pws_mark.specs.States.{Open, Outer, State, taken}
use Rattle.pws_mark.specs.TokenLaws.{state}
use Rattle.pws_mark.specs.Tokens.{is_white, is_name, is_piece, is_text_char, is_value_char, is_quote, is_attribute, is_section, is_comment, has_within}
use Rattle.pws_mark.specs.declared.modes.Mode.{Mode}
use Rattle.pws_mark.specs.declared.modes.Mode.TheVariants as mode
use Rattle.pws_mark.proofs.PlainNames.{apart}
use Rattle.pws_mark.proofs.WrittenGrammar.{is_word_char, word_of}
use Rattle.pws_mark.proofs.PlacedModes.{then_along, Along, along_both, IsFrom, along_places, IsOut, is_other, along_quiet, along_opened}

-- No < in tokens.
other_all : (p : ℕ → Bool) → p 60 ≡ false → (cs : List ℕ) → list_all p cs ≡ true → list_all is_other cs ≡ true
other_all p none [] h = refl
other_all p none (c ∷ cs) h =
    let parts = and_parts (p c) (list_all p cs) h in
    and_from (is_other c) (list_all is_other cs) (not_from_false (c == 60) (apart p 60 c none parts.0)) (other_all p none cs parts.1)

pub word_other : (cs : List ℕ) → is_name cs ≡ true → list_all is_other cs ≡ true
unfolding is_name name_start_ranges name_more_ranges
word_other cs h = other_all is_word_char refl cs (word_of cs true h)

pub white_other : (cs : List ℕ) → list_all is_white cs ≡ true → list_all is_other cs ≡ true
white_other cs h = other_all is_white refl cs h

pub join_other : (xs ys : List ℕ) → list_all is_other xs ≡ true → list_all is_other ys ≡ true → list_all is_other (xs ++ ys) ≡ true
join_other xs ys h g = list_all-append is_other xs ys ∙ and_from (list_all is_other xs) (list_all is_other ys) h g

not_text : is_text_char 60 ≡ false
unfolding xml_ranges
not_text = refl

pub piece_other : (p : ℕ → Bool) → p 60 ≡ false → (x : Piece) → is_piece p x ≡ true → list_all is_other (write_piece x) ≡ true
piece_other p none (Char c) h = and_from (is_other c) true (not_from_false (c == 60) (apart p 60 c none h)) refl
piece_other p none (Entity name) h = join_other name (59 ∷ []) (word_other name h) refl
piece_other p none (Decimal digits) h = join_other digits (59 ∷ []) (other_all is_digit refl digits (and_parts (not (bytes_eq digits [])) (list_all is_digit digits) h).1) refl
piece_other p none (Hexadecimal digits) h = join_other digits (59 ∷ []) (other_all is_hexadecimal refl digits (and_parts (not (bytes_eq digits [])) (list_all is_hexadecimal digits) h).1) refl

pieces_other : (p : ℕ → Bool) → p 60 ≡ false → (xs : List Piece) → list_all (is_piece p) xs ≡ true → list_all is_other (flat_map write_piece xs) ≡ true
pieces_other p none [] h = refl
pieces_other p none (x ∷ xs) h =
    let parts = and_parts (is_piece p x) (list_all (is_piece p) xs) h in
    join_other (write_piece x) (flat_map write_piece xs) (piece_other p none x parts.0) (pieces_other p none xs parts.1)

value_not : (q : ℕ) → is_value_char q 60 ≡ false
unfolding xml_ranges
value_not q = refl

attribute_other : (a : Attribute) → is_attribute a ≡ true → list_all is_other (write_attribute a) ≡ true
attribute_other a h =
    let p0 = and_parts (not (bytes_eq a.gap []) && list_all is_white a.gap) (is_name a.name && (list_all is_white a.before && (list_all is_white a.after && (is_quote a.quote && list_all (is_piece (is_value_char a.quote)) a.value)))) h in
    let p1 = and_parts (is_name a.name) (list_all is_white a.before && (list_all is_white a.after && (is_quote a.quote && list_all (is_piece (is_value_char a.quote)) a.value))) p0.1 in
    let p2 = and_parts (list_all is_white a.before) (list_all is_white a.after && (is_quote a.quote && list_all (is_piece (is_value_char a.quote)) a.value)) p1.1 in
    let p3 = and_parts (list_all is_white a.after) (is_quote a.quote && list_all (is_piece (is_value_char a.quote)) a.value) p2.1 in
    let p4 = and_parts (is_quote a.quote) (list_all (is_piece (is_value_char a.quote)) a.value) p3.1 in
    let quote : is_other a.quote ≡ true = not_from_false (a.quote == 60) (apart is_quote 60 a.quote refl p4.0) in
    let value : List ℕ = flat_map write_piece a.value in
    let last : List ℕ = a.quote ∷ (value ++ a.quote ∷ []) in
    let last_is : list_all is_other last ≡ true = and_from (is_other a.quote) (list_all is_other (value ++ a.quote ∷ [])) quote (join_other value (a.quote ∷ []) (pieces_other (is_value_char a.quote) (value_not a.quote) a.value p4.1) (and_from (is_other a.quote) true quote refl)) in
    join_other a.gap (a.name ++ (a.before ++ 61 ∷ (a.after ++ last))) (white_other a.gap (and_parts (not (bytes_eq a.gap [])) (list_all is_white a.gap) p0.0).1)
    (join_other a.name (a.before ++ 61 ∷ (a.after ++ last)) (word_other a.name p1.0)
    (join_other a.before (61 ∷ (a.after ++ last)) (white_other a.before p2.0) (join_other a.after last (white_other a.after p3.0) last_is)))

attributes_other : (attributes : List Attribute) → list_all is_attribute attributes ≡ true → list_all is_other (flat_map write_attribute attributes) ≡ true
attributes_other [] h = refl
attributes_other (a ∷ more) h =
    let parts = and_parts (is_attribute a) (list_all is_attribute more) h in
    join_other (write_attribute a) (flat_map write_attribute more) (attribute_other a parts.0) (attributes_other more parts.1)

pub tag_other : (tag : Tag) (last : List ℕ) → is_tag tag ≡ true → list_all is_other last ≡ true → list_all is_other (write_tag tag ++ last) ≡ true
tag_other tag last h g =
    let p0 = and_parts (is_name tag.name) (list_all is_attribute tag.attributes && list_all is_white tag.gap) h in
    let p1 = and_parts (list_all is_attribute tag.attributes) (list_all is_white tag.gap) p0.1 in
    join_other (write_tag tag) last
    (join_other tag.name (flat_map write_attribute tag.attributes ++ tag.gap) (word_other tag.name p0.0) (join_other (flat_map write_attribute tag.attributes) tag.gap (attributes_other tag.attributes p1.0) (white_other tag.gap p1.1))) g

-- Tags, from content on.
pub opens_here : (at n : ℕ) (ret : Bool) (o : Outer) → step (state at (mode.Content n ret) o) 60 ≡ Some (state (at + 1) (mode.Opened at) o)
unfolding next encode xml_ranges
opens_here at n ret o = by o.opens o.behind
  where
    by : (opens : List Open) (behind : Bool) → step (state at (mode.Content n ret) (record { opens = opens; behind = behind; events = o.events; text = o.text })) 60 ≡ Some (state (at + 1) (mode.Opened at) (record { opens = opens; behind = behind; events = o.events; text = o.text }))
    by [] false = refl
    by [] true = refl
    by (x ∷ xs) behind = refl

-- a < and then no !
pub along_markup : (at n : ℕ) (ret : Bool) (o : Outer) (c : ℕ) (cs : List ℕ) → (c == 33) ≡ false → list_all is_other cs ≡ true → Along IsOut (state at (mode.Content n ret) o) (60 ∷ c ∷ cs)
along_markup at n ret o c cs e h = (refl, subst (λ z. then_along z (λ t. Along IsOut t (c ∷ cs))) (sym (opens_here at n ret o)) (along_opened (at + 1) at o c cs e h))

pub along_tag : (at n : ℕ) (ret : Bool) (o : Outer) (tag : Tag) (last : List ℕ) → is_tag tag ≡ true → list_all is_other last ≡ true → Along IsOut (state at (mode.Content n ret) o) (60 ∷ (write_tag tag ++ last))
unfolding is_name name_start_ranges
along_tag at n ret o tag last h g = by tag.name (and_parts (is_name tag.name) (list_all is_attribute tag.attributes && list_all is_white tag.gap) h).0 (tag_other tag last h g)
  where
    by : (name : List ℕ) → is_name name ≡ true → list_all is_other ((name ++ (flat_map write_attribute tag.attributes ++ tag.gap)) ++ last) ≡ true → Along IsOut (state at (mode.Content n ret) o) (60 ∷ ((name ++ (flat_map write_attribute tag.attributes ++ tag.gap)) ++ last))
    by [] named others = absurd (both_ways false refl named)
    by (c ∷ name) named others =
        along_markup at n ret o c ((name ++ (flat_map write_attribute tag.attributes ++ tag.gap)) ++ last) (apart is_name_start 33 c refl (first_start name named)) (and_parts (is_other c) (list_all is_other ((name ++ (flat_map write_attribute tag.attributes ++ tag.gap)) ++ last)) others).1
      where
        first_start : (cs : List ℕ) → is_name (c ∷ cs) ≡ true → is_name_start c ≡ true
        first_start cs x = (and_parts (is_name_start c) _ x).0

pub along_piece : (at n : ℕ) (ret : Bool) (o : Outer) (p : Piece) → is_piece is_text_char p ≡ true → Along IsOut (state at (mode.Content n ret) o) (write_piece p)
along_piece at n ret o p h = along_quiet (state at (mode.Content n ret) o) (write_piece p) refl (piece_other is_text_char not_text p h)

pub along_end : (at n : ℕ) (ret : Bool) (o : Outer) (name gap : List ℕ) → is_name name ≡ true → list_all is_white gap ≡ true → Along IsOut (state at (mode.Content n ret) o) (60 ∷ 47 ∷ (name ++ (gap ++ 62 ∷ [])))
along_end at n ret o name gap h g = along_markup at n ret o 47 (name ++ (gap ++ 62 ∷ [])) refl (join_other name (gap ++ 62 ∷ []) (word_other name h) (join_other gap (62 ∷ []) (white_other gap g) refl))

pub on_to : (Q : State → Type 0) (s t : State) (c : ℕ) (cs : List ℕ) → Q s → step s c ≡ Some t → Along Q t cs → Along Q s (c ∷ cs)
on_to Q s t c cs q e a = (q, subst (λ z. then_along z (λ u. Along Q u cs)) (sym e) a)

-- Comments and sections: within up to the end.
abbrev pub IsUntil : ℕ → State → Type 0
IsUntil end t = is_within t.mode ≡ nat_lt t.at end

before_end : (p end : ℕ) → p < end → true ≡ nat_lt p end
before_end p end h = sym (lt-ltb p end h)

at_end : (p end : ℕ) → end ≤ p → false ≡ nat_lt p end
at_end p end h = sym (le-ltb p end h)

after_hyphen : (n c : ℕ) (rest : List ℕ) → n < 2 → has_within (45 ∷ 45 ∷ []) (replicate n 45 ++ (c ∷ rest)) ≡ false → (marks_after 45 n c < 2) × (has_within (45 ∷ 45 ∷ []) (replicate (marks_after 45 n c) 45 ++ rest) ≡ false)
after_hyphen zero c rest small none = by (c == 45) (eqb-true c 45)
  where
    by : (b : Bool) → (b ≡ true → c ≡ 45) → ((if b then 1 else 0) < 2) × (has_within (45 ∷ 45 ∷ []) (replicate (if b then 1 else 0) 45 ++ rest) ≡ false)
    by true same = (omega arith, subst (λ d. has_within (45 ∷ 45 ∷ []) (d ∷ rest) ≡ false) (same refl) none)
    by false same = (omega arith, (or_parts _ _ none).1)
after_hyphen (suc zero) c rest small none = by (c == 45) (eqb-true c 45) (or_parts (starts_with nat_eq (45 ∷ c ∷ rest) (45 ∷ 45 ∷ [])) (has_within (45 ∷ 45 ∷ []) (c ∷ rest)) none)
  where
    by : (b : Bool) → (b ≡ true → c ≡ 45) → (starts_with nat_eq (45 ∷ c ∷ rest) (45 ∷ 45 ∷ []) ≡ false) × (has_within (45 ∷ 45 ∷ []) (c ∷ rest) ≡ false) → ((if b then 2 else 0) < 2) × (has_within (45 ∷ 45 ∷ []) (replicate (if b then 2 else 0) 45 ++ rest) ≡ false)
    by true same parts = let bad : starts_with nat_eq (45 ∷ 45 ∷ rest) (45 ∷ 45 ∷ []) ≡ false = subst (λ d. starts_with nat_eq (45 ∷ d ∷ rest) (45 ∷ 45 ∷ []) ≡ false) (same refl) parts.0 in absurd cc
    by false same parts = (omega arith, (or_parts _ _ parts.1).1)
after_hyphen (suc (suc n)) c rest small none = absurd (omega arith)

comment_step_is : (o : Outer) (at n c : ℕ) → n < 2 → is_xml_char c ≡ true → step (state at (mode.Comment n) o) c ≡ Some (state (at + length (encode_utf8 c)) (mode.Comment (marks_after 45 n c)) o)
unfolding next
comment_step_is o at zero c small xml = rw xml refl
comment_step_is o at (suc zero) c small xml = rw xml refl
comment_step_is o at (suc (suc n)) c small xml = absurd (omega arith)

-- what holds of comments before the end and of the end holds along
comment_last : (Q : State → Type 0) (o : Outer) (at end : ℕ) → ((p n : ℕ) → p < end → Q (state p (mode.Comment n) o)) → Q (state end (mode.Content 0 false) o) → end ≡ at + 1 + 1 + 1 → Along Q (state at (mode.Comment 0) o) comment_end
unfolding next comment_end xml_ranges encode
comment_last Q o at end in_it last e = (in_it at 0 (omega arith), (in_it (at + 1) 1 (omega arith), (in_it (at + 1 + 1) 2 (omega arith), subst (λ p. Q (state p (mode.Content 0 false) o)) e last)))

through_comment : (Q : State → Type 0) (o : Outer) (cs : List ℕ) (at n end : ℕ) → ((p n : ℕ) → p < end → Q (state p (mode.Comment n) o)) → Q (state end (mode.Content 0 false) o) → n < 2 → list_all is_xml_char cs ≡ true → has_within (45 ∷ 45 ∷ []) (replicate n 45 ++ (cs ++ 45 ∷ [])) ≡ false → end ≡ at + (length (encode_utf8_all cs) + 3) → Along Q (state at (mode.Comment n) o) (cs ++ comment_end)
through_comment Q o [] at zero end in_it last small xml none e = comment_last Q o at end in_it last (omega (arith, e))
through_comment Q o [] at (suc zero) end in_it last small xml none e = absurd cc
through_comment Q o [] at (suc (suc n)) end in_it last small xml none e = absurd (omega arith)
through_comment Q o (c ∷ cs) at n end in_it last small xml none e =
    let parts = and_parts (is_xml_char c) (list_all is_xml_char cs) xml in
    let more = after_hyphen n c (cs ++ 45 ∷ []) small none in
    let size : length (encode_utf8_all (c ∷ cs)) ≡ length (encode_utf8 c) + length (encode_utf8_all cs) = length-append (encode_utf8 c) (encode_utf8_all cs) in
    on_to Q (state at (mode.Comment n) o) (state (at + length (encode_utf8 c)) (mode.Comment (marks_after 45 n c)) o) c (cs ++ comment_end) (in_it at n (omega (arith, e, size))) (comment_step_is o at n c small parts.0)
    (through_comment Q o cs (at + length (encode_utf8 c)) (marks_after 45 n c) end in_it last more.0 parts.1 more.1 (omega (arith, e, size)))

abbrev pub IsPast : ℕ → ℕ → State → Type 0
IsPast begin end t = is_within t.mode ≡ (not (nat_lt t.at begin) && nat_lt t.at end)

-- before the place behind what opens it
not_yet : (p begin end : ℕ) → p < begin → false ≡ (not (nat_lt p begin) && nat_lt p end)
not_yet p begin end h = ap (λ z. not z && nat_lt p end) (sym (lt-ltb p begin h))

past_open : (begin end : ℕ) (t : State) → IsUntil end t → begin ≤ t.at → IsPast begin end t
past_open begin end t u h = u ∙ ap (λ z. not z && nat_lt t.at end) (sym (le-ltb t.at begin h))

to_past : (begin end : ℕ) (s : State) (cs : List ℕ) → begin ≤ s.at → Along (IsUntil end) s cs → Along (IsPast begin end) s cs
to_past begin end s cs h a = along_both (IsUntil end) (IsFrom begin (s.at + length (encode_utf8_all cs))) (IsPast begin end) (λ t u f. past_open begin end t u f.0) s cs a (along_places begin (s.at + length (encode_utf8_all cs)) s cs h (omega arith))

bang_here : (p q : ℕ) (o : Outer) → step (state p (mode.Opened q) o) 33 ≡ Some (state (p + 1) mode.Bang o)
unfolding next encode name_start_ranges
bang_here p q o = by o.opens o.behind
  where
    by : (opens : List Open) (behind : Bool) → step (state p (mode.Opened q) (record { opens = opens; behind = behind; events = o.events; text = o.text })) 33 ≡ Some (state (p + 1) mode.Bang (record { opens = opens; behind = behind; events = o.events; text = o.text }))
    by [] false = refl
    by [] true = refl
    by (x ∷ xs) behind = refl

dash_here : (p : ℕ) (o : Outer) → step (state p mode.Bang o) 45 ≡ Some (state (p + 1) mode.Dash o)
unfolding next encode
dash_here p o = by o.opens o.behind
  where
    by : (opens : List Open) (behind : Bool) → step (state p mode.Bang (record { opens = opens; behind = behind; events = o.events; text = o.text })) 45 ≡ Some (state (p + 1) mode.Dash (record { opens = opens; behind = behind; events = o.events; text = o.text }))
    by [] false = refl
    by [] true = refl
    by (x ∷ xs) behind = refl

comment_here : (p : ℕ) (o : Outer) → step (state p mode.Dash o) 45 ≡ Some (state (p + 1) (mode.Comment 0) o)
unfolding next encode
comment_here p o = refl

-- behind <!
after_bang : (Q : State → Type 0) (at n : ℕ) (ret : Bool) (o : Outer) (cs : List ℕ) → Q (state at (mode.Content n ret) o) → Q (state (at + 1) (mode.Opened at) o) → Along Q (state (at + 1 + 1) mode.Bang o) cs → Along Q (state at (mode.Content n ret) o) (60 ∷ 33 ∷ cs)
after_bang Q at n ret o cs a b more =
    on_to Q (state at (mode.Content n ret) o) (state (at + 1) (mode.Opened at) o) 60 (33 ∷ cs) a (opens_here at n ret o)
    (on_to Q (state (at + 1) (mode.Opened at) o) (state (at + 1 + 1) mode.Bang o) 33 cs b (bang_here (at + 1) at o) more)

-- a comment's characters
comment_xml : (cs : List ℕ) → is_comment cs ≡ true → (list_all is_xml_char cs ≡ true) × (has_within (45 ∷ 45 ∷ []) (cs ++ 45 ∷ []) ≡ false)
comment_xml cs h =
    let parts = and_parts (list_all is_xml_char cs) (not (has_within (45 ∷ 45 ∷ []) (cs ++ 45 ∷ []))) h in
    (parts.0, not-true (has_within (45 ∷ 45 ∷ []) (cs ++ 45 ∷ [])) parts.1)

-- what holds of the states of a comment holds along it
pub along_comment_any : (Q : State → Type 0) (at n end : ℕ) (ret : Bool) (o : Outer) (cs : List ℕ) → Q (state at (mode.Content n ret) o) → Q (state (at + 1) (mode.Opened at) o) → Q (state (at + 1 + 1) mode.Bang o) → Q (state (at + 1 + 1 + 1) mode.Dash o) → ((p n : ℕ) → at + 4 ≤ p → p < end → Q (state p (mode.Comment n) o)) → Q (state end (mode.Content 0 false) o) → is_comment cs ≡ true → end ≡ at + (length (encode_utf8_all cs) + 7) → Along Q (state at (mode.Content n ret) o) (comment_start ++ (cs ++ comment_end))
unfolding comment_start
along_comment_any Q at n end ret o cs a b c d in_it last h e =
    let xml = comment_xml cs h in
    let four : ℕ = at + 1 + 1 + 1 + 1 in
    let inside : Along (λ t. (at + 4 ≤ t.at) → Q t) (state four (mode.Comment 0) o) (cs ++ comment_end) =
    through_comment (λ t. (at + 4 ≤ t.at) → Q t) o cs four 0 end (λ p m low high. in_it p m high low) (λ low. last) (omega arith) xml.0 xml.1 (omega (arith, e)) in
    after_bang Q at n ret o (45 ∷ 45 ∷ (cs ++ comment_end)) a b
    (on_to Q (state (at + 1 + 1) mode.Bang o) (state (at + 1 + 1 + 1) mode.Dash o) 45 (45 ∷ (cs ++ comment_end)) c (dash_here (at + 1 + 1) o)
    (on_to Q (state (at + 1 + 1 + 1) mode.Dash o) (state four (mode.Comment 0) o) 45 (cs ++ comment_end) d (comment_here (at + 1 + 1 + 1) o)
    (along_both (λ t. (at + 4 ≤ t.at) → Q t) (IsFrom (at + 4) (four + length (encode_utf8_all (cs ++ comment_end)))) Q (λ t q from. q from.0) (state four (mode.Comment 0) o) (cs ++ comment_end) inside (along_places (at + 4) (four + length (encode_utf8_all (cs ++ comment_end))) (state four (mode.Comment 0) o) (cs ++ comment_end) (omega arith) (omega arith)))))

pub along_comment : (at n end : ℕ) (ret : Bool) (o : Outer) (cs : List ℕ) → is_comment cs ≡ true → end ≡ at + (length (encode_utf8_all cs) + 7) → Along (IsPast (at + 4) end) (state at (mode.Content n ret) o) (comment_start ++ (cs ++ comment_end))
along_comment at n end ret o cs h e =
    along_comment_any (IsPast (at + 4) end) at n end ret o cs (not_yet at (at + 4) end (omega arith)) (not_yet (at + 1) (at + 4) end (omega arith)) (not_yet (at + 1 + 1) (at + 4) end (omega arith)) (not_yet (at + 1 + 1 + 1) (at + 4) end (omega arith))
    (λ p m low high. sym (ap (λ z. not z && nat_lt p end) (le-ltb p (at + 4) low) ∙ lt-ltb p end high))
    (sym (ap (λ z. not z && nat_lt end end) (le-ltb end (at + 4) (omega arith)) ∙ le-ltb end end (omega arith))) h e

-- Sections.
brackets : ℕ → ℕ → ℕ
brackets n c = cond (c == 93) (cond (n == 2) 2 (n + 1)) 0

past_one : (c : ℕ) (cs : List ℕ) → has_within section_end (c ∷ cs) ≡ false → has_within section_end cs ≡ false
past_one c cs none = (or_parts (starts_with nat_eq (c ∷ cs) section_end) (has_within section_end cs) none).1

after_bracket : (n c : ℕ) (rest : List ℕ) → n < 3 → has_within section_end (replicate n 93 ++ (c ∷ rest)) ≡ false → (brackets n c < 3) × (has_within section_end (replicate (brackets n c) 93 ++ rest) ≡ false) × ((n == 2 && c == 62) ≡ false)
unfolding brackets section_end
after_bracket zero c rest small none = by (c == 93) (eqb-true c 93)
  where
    by : (b : Bool) → (b ≡ true → c ≡ 93) → (cond b 1 0 < 3) × (has_within section_end (replicate (cond b 1 0) 93 ++ rest) ≡ false) × (false ≡ false)
    by true same = (omega arith, subst (λ d. has_within section_end (d ∷ rest) ≡ false) (same refl) none, refl)
    by false same = (omega arith, past_one c rest none, refl)
after_bracket (suc zero) c rest small none = by (c == 93) (eqb-true c 93)
  where
    by : (b : Bool) → (b ≡ true → c ≡ 93) → (cond b 2 0 < 3) × (has_within section_end (replicate (cond b 2 0) 93 ++ rest) ≡ false) × (false ≡ false)
    by true same = (omega arith, subst (λ d. has_within section_end (93 ∷ d ∷ rest) ≡ false) (same refl) none, refl)
    by false same = (omega arith, past_one c rest (past_one 93 (c ∷ rest) none), refl)
after_bracket (suc (suc zero)) c rest small none = by (c == 93) (c == 62) (eqb-true c 93) (eqb-true c 62)
  where
    closed : c ≡ 62 → ⊥
    closed e = let bad : has_within section_end (93 ∷ 93 ∷ 62 ∷ rest) ≡ false = subst (λ d. has_within section_end (93 ∷ 93 ∷ d ∷ rest) ≡ false) e none in both_ways true bad refl

    by : (b d : Bool) → (b ≡ true → c ≡ 93) → (d ≡ true → c ≡ 62) → (cond b 2 0 < 3) × (has_within section_end (replicate (cond b 2 0) 93 ++ rest) ≡ false) × (d ≡ false)
    by b true same end = absurd (closed (end refl))
    by true false same end = (omega arith, subst (λ d. has_within section_end (93 ∷ d ∷ rest) ≡ false) (same refl) (past_one 93 (93 ∷ c ∷ rest) none), refl)
    by false false same end = (omega arith, past_one c rest (past_one 93 (c ∷ rest) (past_one 93 (93 ∷ c ∷ rest) none)), refl)
after_bracket (suc (suc (suc n))) c rest small none = absurd (omega arith)

record TakesInSection (o : Outer) (at n : ℕ) (ret : Bool) (c : ℕ) : Type 0 where
  returned : Bool
  outer : Outer
  is : step (state at (mode.Section n ret) o) c ≡ Some (state (at + length (encode_utf8 c)) (mode.Section (brackets n c) returned) outer)

takes_in_section : (o : Outer) (at n : ℕ) (ret : Bool) (c : ℕ) → is_xml_char c ≡ true → (n == 2 && c == 62) ≡ false → TakesInSection o at n ret c
unfolding brackets next
takes_in_section o at n ret c xml free = by (c == 93) (n == 2) refl refl
  where
    by : (b d : Bool) → (c == 93) ≡ b → (n == 2) ≡ d → TakesInSection o at n ret c
    by true true e f = record { returned = false; outer = taken o (at - 2) (Some 93) (93 ∷ []); is = rw (e, f) refl }
    by true false e f = record { returned = ret; outer = o; is = rw (e, f) refl }
    by false d e f = record { returned = c == 13; outer = taken (brackets_taken o at n) at (Some c) (text_bytes (n == 0 && ret) c); is = rw (e, free, xml) refl }

through_section : (o : Outer) (cs : List ℕ) (at n end : ℕ) (ret : Bool) → n < 3 → list_all is_xml_char cs ≡ true → has_within section_end (replicate n 93 ++ cs) ≡ false → end ≡ at + (length (encode_utf8_all cs) + 3) → Along (IsUntil end) (state at (mode.Section n ret) o) (cs ++ section_end)
unfolding next section_end xml_ranges encode
through_section o [] at zero end ret small xml none e = (before_end at end (omega arith), (before_end (at + 1) end (omega arith), (before_end (at + 1 + 1) end (omega arith), at_end (at + 1 + 1 + 1) end (omega arith))))
through_section o [] at (suc zero) end ret small xml none e = (before_end at end (omega arith), (before_end (at + 1) end (omega arith), (before_end (at + 1 + 1) end (omega arith), at_end (at + 1 + 1 + 1) end (omega arith))))
through_section o [] at (suc (suc zero)) end ret small xml none e = (before_end at end (omega arith), (before_end (at + 1) end (omega arith), (before_end (at + 1 + 1) end (omega arith), at_end (at + 1 + 1 + 1) end (omega arith))))
through_section o [] at (suc (suc (suc n))) end ret small xml none e = absurd (omega arith)
through_section o (c ∷ cs) at n end ret small xml none e =
    let parts = and_parts (is_xml_char c) (list_all is_xml_char cs) xml in
    let more = after_bracket n c cs small none in
    let t : TakesInSection o at n ret c = takes_in_section o at n ret c parts.0 more.2 in
    let size : length (encode_utf8_all (c ∷ cs)) ≡ length (encode_utf8 c) + length (encode_utf8_all cs) = length-append (encode_utf8 c) (encode_utf8_all cs) in
    on_to (IsUntil end) (state at (mode.Section n ret) o) (state (at + length (encode_utf8 c)) (mode.Section (brackets n c) t.returned) t.outer) c (cs ++ section_end) (before_end at end (omega (arith, e, size))) t.is
    (through_section t.outer cs (at + length (encode_utf8 c)) (brackets n c) end t.returned more.0 parts.1 more.1 (omega (arith, e, size)))

section_here : (p : ℕ) (o : Outer) (x : Open) (xs : List Open) → o.opens ≡ x ∷ xs → step (state p mode.Bang o) 91 ≡ Some (state (p + 1) (mode.SectionWord 0) o)
unfolding next encode
section_here p o x xs h = ap (λ os. option_map (λ m. state (p + 1) m.0 m.1) (stays o (bang_step (region_in os o.behind) 91))) h

-- behind <![
through_word : (Q : State → Type 0) (p : ℕ) (o : Outer) (cs : List ℕ) → ((m : Mode) (q : ℕ) → is_within m ≡ false → q < p + 6 → Q (state q m o)) → Along Q (state (p + 1 + 1 + 1 + 1 + 1 + 1) (mode.Section 0 false) o) cs → Along Q (state p (mode.SectionWord 0) o) (67 ∷ 68 ∷ 65 ∷ 84 ∷ 65 ∷ 91 ∷ cs)
unfolding next encode section_word
through_word Q p o cs out last =
    (out (mode.SectionWord 0) p refl (omega arith), (out (mode.SectionWord 1) (p + 1) refl (omega arith), (out (mode.SectionWord 2) (p + 1 + 1) refl (omega arith), (out (mode.SectionWord 3) (p + 1 + 1 + 1) refl (omega arith), (out (mode.SectionWord 4) (p + 1 + 1 + 1 + 1) refl (omega arith), (out (mode.SectionWord 5) (p + 1 + 1 + 1 + 1 + 1) refl (omega arith), last))))))

pub along_section : (at n end : ℕ) (ret : Bool) (o : Outer) (x : Open) (xs : List Open) (cs : List ℕ) → o.opens ≡ x ∷ xs → is_section cs ≡ true → end ≡ at + (length (encode_utf8_all cs) + 12) → Along (IsPast (at + 9) end) (state at (mode.Content n ret) o) (section_start ++ (cs ++ section_end))
unfolding section_start
along_section at n end ret o x xs cs inside h e =
    let parts = and_parts (list_all is_xml_char cs) (not (has_within section_end cs)) h in
    let p : ℕ = at + 1 + 1 + 1 in
    let nine : ℕ = p + 1 + 1 + 1 + 1 + 1 + 1 in
    let last : Along (IsPast (at + 9) end) (state nine (mode.Section 0 false) o) (cs ++ section_end) = to_past (at + 9) end (state nine (mode.Section 0 false) o) (cs ++ section_end) (omega arith) (through_section o cs nine 0 end false (omega arith) parts.0 (not-true (has_within section_end cs) parts.1) (omega arith)) in
    after_bang (IsPast (at + 9) end) at n ret o (91 ∷ 67 ∷ 68 ∷ 65 ∷ 84 ∷ 65 ∷ 91 ∷ (cs ++ section_end)) (not_yet at (at + 9) end (omega arith)) (not_yet (at + 1) (at + 9) end (omega arith))
    (on_to (IsPast (at + 9) end) (state (at + 1 + 1) mode.Bang o) (state p (mode.SectionWord 0) o) 91 (67 ∷ 68 ∷ 65 ∷ 84 ∷ 65 ∷ 91 ∷ (cs ++ section_end)) (not_yet (at + 1 + 1) (at + 9) end (omega arith)) (section_here (at + 1 + 1) o x xs inside)
    (through_word (IsPast (at + 9) end) p o (cs ++ section_end) (λ m q out low. out ∙ not_yet q (at + 9) end (omega (arith, low))) last))

-- The reader takes an end tag.
use Rattle.std.proofs.Common.{◌≡◌, ℕ, ◌+◌, Bool, true, false, not, ◌&&◌, List, [], ◌∷◌, ◌++◌, length, refl, ap, subst, sym, ◌∙◌, arith, length-append, append_assoc, append-nil, Some, slice_get}
use Rattle.std.specs.Prelude.{◌==◌, encode_utf8, encode_utf8_all, if◌then◌else◌}
use Rattle.std.specs.List.{list_all}
use Rattle.std.proofs.lemmas.Bool.{and_parts, and_from, not_from_false, eq-eqb, eqb-true}
use Rattle.std.proofs.lemmas.Option.{slice_get_past}
use lib.Utf8.{encode}
use Rattle.pws_tree.specs.Characters.{is_name_start, is_name_char, xml_ranges, name_start_ranges, name_more_ranges}
use Rattle.pws_mark.specs.Noted.{noted, finds, end_finds}
use Rattle.pws_mark.specs.Scan.{run, next, has_at}
use Rattle.pws_mark.specs.States.{Open, Outer, ended}
use Rattle.pws_mark.specs.TokenLaws.{Goes, state, ending, EndsAreTaken}
use Rattle.pws_mark.specs.Tokens.{is_white, is_name, goes_on}
use Rattle.pws_mark.specs.declared.modes.Event.{Event}
use Rattle.pws_mark.specs.declared.modes.Mode.TheVariants as mode
use Rattle.pws_mark.proofs.Going.{goes_on_to, goes_at, goes_until, goes_once, goes_quietly, goes_round, goes_nowhere, other}

-- the character behind so many
pub get_behind : (done rest : List ℕ) (c : ℕ) → slice_get (done ++ c ∷ rest) (length done) ≡ Some c
get_behind [] rest c = refl
get_behind (d ∷ done) rest c = get_behind done rest c

pub has_behind : (done rest : List ℕ) (c : ℕ) → has_at (done ++ c ∷ rest) (length done) c ≡ true
has_behind done rest c = rw (get_behind done rest c) (eq-eqb c c refl)

pub has_none_behind : (name : List ℕ) (c : ℕ) → has_at name (length name) c ≡ false
has_none_behind name c = rw (slice_get_past name (length name) (omega arith)) refl

-- no character of a name ends a tag
name_is_inner : (starts : Bool) (cs : List ℕ) → goes_on starts cs ≡ true → list_all (λ c. not (c == 62)) cs ≡ true
unfolding name_start_ranges name_more_ranges
name_is_inner starts [] h = refl
name_is_inner true (c ∷ cs) h =
    let parts = and_parts (is_name_start c) (goes_on false cs) h in
    and_from (not (c == 62)) (list_all (λ d. not (d == 62)) cs) (not_from_false (c == 62) (other is_name_start c 62 parts.0 refl)) (name_is_inner false cs parts.1)
name_is_inner false (c ∷ cs) h = by (c == 58) (eqb-true c 58) h (λ starts. name_is_inner starts cs)
  where
    by : (b : Bool) → (b ≡ true → c ≡ 58) → (if b then goes_on true cs else is_name_char c && goes_on false cs) ≡ true → ((starts : Bool) → goes_on starts cs ≡ true → list_all (λ d. not (d == 62)) cs ≡ true) → list_all (λ d. not (d == 62)) (c ∷ cs) ≡ true
    by true same g again = subst (λ d. list_all (λ e. not (e == 62)) (d ∷ cs) ≡ true) (sym (same refl)) (again true g)
    by false same g again =
        let parts = and_parts (is_name_char c) (goes_on false cs) g in
        and_from (not (c == 62)) (list_all (λ d. not (d == 62)) cs) (not_from_false (c == 62) (other is_name_char c 62 parts.0 refl)) (again false parts.1)

-- the innermost open element, and what is around it
abbrev around : Open → List Open → Bool → List Event → List ℕ → Outer
around x xs behind events text = record { opens = x ∷ xs; behind = behind; events = events; text = text }

end_name_goes : (x : Open) (xs : List Open) (behind : Bool) (events : List Event) (text todo done : List ℕ) (at : ℕ) → x.name ≡ done ++ todo → list_all (λ c. not (c == 62)) todo ≡ true →
    Goes (state at (mode.EndName (length done)) (around x xs behind events text)) todo (state (at + length (encode_utf8_all todo)) (mode.EndName (length x.name)) (around x xs behind events text)) []
unfolding next finds
end_name_goes x xs behind events text [] done at name inner =
    let o = around x xs behind events text in
    subst (λ n. Goes (state at (mode.EndName (length done)) o) [] (state (at + 0) (mode.EndName (length n)) o) []) (sym (name ∙ append-nil done))
    (goes_at (state at (mode.EndName (length done)) o) [] (mode.EndName (length done)) o [] at (at + 0) (omega arith) (goes_nowhere (state at (mode.EndName (length done)) o)))
end_name_goes x xs behind events text (c ∷ todo) done at name inner =
    let o = around x xs behind events text in
    let parts = and_parts (not (c == 62)) (list_all (λ d. not (d == 62)) todo) inner in
    let here : has_at x.name (length done) c ≡ true = rw name (has_behind done todo c) in
    let size : length (done ++ c ∷ []) ≡ length done + 1 = length-append done (c ∷ []) in
    let stepped : next (mode.EndName (length done)) o at c ≡ Some (mode.EndName (length (done ++ c ∷ [])), o) = rw here (ap (λ n. Some (mode.EndName n, o)) (sym size)) in
    let found : finds (mode.EndName (length done)) o c ≡ [] = rw here refl in
    goes_quietly (mode.EndName (length done)) (mode.EndName (length (done ++ c ∷ []))) (mode.EndName (length x.name)) o o o at c todo [] stepped found
    (end_name_goes x xs behind events text todo (done ++ c ∷ []) (at + length (encode_utf8 c)) (name ∙ sym (append_assoc done (c ∷ []) todo)) parts.1)

white_ends_nothing : (c : ℕ) → is_white c ≡ true → (c == 62) ≡ false
white_ends_nothing c white = other is_white c 62 white refl

-- white space, and the end
end_gap_goes : (x : Open) (xs : List Open) (behind : Bool) (events : List Event) (text gap : List ℕ) (at : ℕ) → list_all is_white gap ≡ true →
    Goes (state at mode.EndGap (around x xs behind events text)) (gap ++ 62 ∷ []) (state (at + (length (encode_utf8_all gap) + 1)) (mode.Content 0 false) (ended x xs events text)) (ending (at + (length (encode_utf8_all gap) + 1)) (end_finds (x ∷ xs)))
unfolding next finds encode
end_gap_goes x xs behind events text gap at white =
    let o = around x xs behind events text in
    goes_until (state at mode.EndGap o) (gap ++ 62 ∷ []) (mode.Content 0 false) (ended x xs events text) (end_finds (x ∷ xs)) (at + length (encode_utf8_all gap) + 1) (at + (length (encode_utf8_all gap) + 1)) (omega arith)
    (goes_on_to _ _ _ gap (62 ∷ []) [] (ending (at + length (encode_utf8_all gap) + 1) (end_finds (x ∷ xs)))
    (goes_round mode.EndGap o is_white (λ p c w. rw w refl) (λ c w. rw (white_ends_nothing c w) refl) gap at white)
    (goes_once mode.EndGap (mode.Content 0 false) o (ended x xs events text) (at + length (encode_utf8_all gap)) 62 (end_finds (x ∷ xs)) refl refl))

-- the same right behind the name
ends_behind_name : (x : Open) (xs : List Open) (behind : Bool) (events : List Event) (text gap : List ℕ) (at : ℕ) → list_all is_white gap ≡ true →
    Goes (state at (mode.EndName (length x.name)) (around x xs behind events text)) (gap ++ 62 ∷ []) (state (at + (length (encode_utf8_all gap) + 1)) (mode.Content 0 false) (ended x xs events text)) (ending (at + (length (encode_utf8_all gap) + 1)) (end_finds (x ∷ xs)))
unfolding next finds encode
ends_behind_name x xs behind events text [] at white =
    let o = around x xs behind events text in
    let stepped : next (mode.EndName (length x.name)) o at 62 ≡ Some (mode.Content 0 false, ended x xs events text) = rw (has_none_behind x.name 62, eq-eqb (length x.name) (length x.name) refl) refl in
    goes_until (state at (mode.EndName (length x.name)) o) (62 ∷ []) (mode.Content 0 false) (ended x xs events text) (end_finds (x ∷ xs)) (at + 1) (at + (0 + 1)) (omega arith)
    (goes_once (mode.EndName (length x.name)) (mode.Content 0 false) o (ended x xs events text) at 62 (end_finds (x ∷ xs)) stepped (rw (has_none_behind x.name 62) refl))
ends_behind_name x xs behind events text (c ∷ gap) at white =
    let o = around x xs behind events text in
    let parts = and_parts (is_white c) (list_all is_white gap) white in
    let stepped : next (mode.EndName (length x.name)) o at c ≡ Some (mode.EndGap, o) = rw (has_none_behind x.name c, eq-eqb (length x.name) (length x.name) refl, parts.0) refl in
    let found : finds (mode.EndName (length x.name)) o c ≡ [] = rw (has_none_behind x.name c, white_ends_nothing c parts.0) refl in
    goes_until (state at (mode.EndName (length x.name)) o) (c ∷ (gap ++ 62 ∷ [])) (mode.Content 0 false) (ended x xs events text) (end_finds (x ∷ xs)) (at + length (encode_utf8 c) + (length (encode_utf8_all gap) + 1)) (at + (length (encode_utf8 c ++ encode_utf8_all gap) + 1))
    (omega (arith, length-append (encode_utf8 c) (encode_utf8_all gap)))
    (goes_on_to _ _ _ (c ∷ []) (gap ++ 62 ∷ []) [] (ending (at + length (encode_utf8 c) + (length (encode_utf8_all gap) + 1)) (end_finds (x ∷ xs)))
    (goes_once (mode.EndName (length x.name)) mode.EndGap o o at c [] stepped found)
    (end_gap_goes x xs behind events text gap (at + length (encode_utf8 c)) parts.1))

end_begins : (x : Open) (xs : List Open) (behind : Bool) (events : List Event) (text : List ℕ) (at n : ℕ) (after_return : Bool) →
    Goes (state at (mode.Content n after_return) (around x xs behind events text)) (60 ∷ 47 ∷ []) (state (at + 2) (mode.EndName 0) (around x xs behind events text)) []
unfolding next finds encode run noted name_start_ranges xml_ranges
end_begins x xs behind events text at n after_return = record { runs = ap (λ p. Some (state p (mode.EndName 0) (around x xs behind events text))) two; notes = refl }
  where
    two : at + 1 + 1 ≡ at + 2
    two = omega arith

end_goes : (x : Open) (xs : List Open) (behind : Bool) (events : List Event) (text gap : List ℕ) (at n : ℕ) (after_return : Bool) → is_name x.name ≡ true → list_all is_white gap ≡ true →
    let end = at + (3 + length (encode_utf8_all x.name ++ encode_utf8_all gap)) in
    Goes (state at (mode.Content n after_return) (around x xs behind events text)) (60 ∷ 47 ∷ (x.name ++ (gap ++ 62 ∷ []))) (state end (mode.Content 0 false) (ended x xs events text)) (ending end (end_finds (x ∷ xs)))
unfolding is_name
end_goes x xs behind events text gap at n after_return name white =
    let o = around x xs behind events text in
    let long : at + 2 + length (encode_utf8_all x.name) + (length (encode_utf8_all gap) + 1) ≡ at + (3 + length (encode_utf8_all x.name ++ encode_utf8_all gap)) = omega (arith, length-append (encode_utf8_all x.name) (encode_utf8_all gap)) in
    let last = at + 2 + length (encode_utf8_all x.name) + (length (encode_utf8_all gap) + 1) in
    goes_until (state at (mode.Content n after_return) o) (60 ∷ 47 ∷ (x.name ++ (gap ++ 62 ∷ []))) (mode.Content 0 false) (ended x xs events text) (end_finds (x ∷ xs)) last (at + (3 + length (encode_utf8_all x.name ++ encode_utf8_all gap))) long
    (goes_on_to _ _ _ (60 ∷ 47 ∷ []) (x.name ++ (gap ++ 62 ∷ [])) [] (ending last (end_finds (x ∷ xs))) (end_begins x xs behind events text at n after_return)
    (goes_on_to _ _ _ x.name (gap ++ 62 ∷ []) [] (ending last (end_finds (x ∷ xs))) (end_name_goes x xs behind events text x.name [] (at + 2) refl (name_is_inner true x.name name))
    (ends_behind_name x xs behind events text gap (at + 2 + length (encode_utf8_all x.name)) white)))

pub ends_are_taken : EndsAreTaken
ends_are_taken o x xs at n after_return gap opens name white =
    let end = at + (3 + length (encode_utf8_all x.name ++ encode_utf8_all gap)) in
    subst (λ os. Goes (state at (mode.Content n after_return) (record { opens = os; behind = o.behind; events = o.events; text = o.text })) (60 ∷ 47 ∷ (x.name ++ (gap ++ 62 ∷ []))) (state end (mode.Content 0 false) (ended x xs o.events o.text)) (ending end (end_finds os))) (sym opens)
    (end_goes x xs o.behind o.events o.text gap at n after_return name white)

-- What the reader does over content: what is around it behind the content, and the faults that it notes.
use Rattle.std.proofs.Common.{◌≡◌, ◌≢◌, ℕ, ◌+◌, ◌≤◌, Bool, true, false, not, ◌&&◌, List, [], ◌∷◌, ◌++◌, length, refl, ap, subst, sym, ◌∙◌, arith, length-append, append_assoc, Option, Some, None}
use Rattle.std.specs.Prelude.{◌==◌, option_map, encode_utf8, encode_utf8_all, if◌then◌else◌}
use Rattle.std.specs.List.{list_all}
use Rattle.std.proofs.lemmas.Bool.{and_parts, not-true, eqb-true}
use lib.Utf8.{encode}
use Rattle.pws_tree.specs.Characters.{xml_ranges}
use Rattle.pws_mark.specs.Bindings.{piece_char, is_char}
use Rattle.pws_mark.specs.Documents.{Piece, Char, Entity, Decimal, Hexadecimal, Tag, Content, Nothing, Text, Section, Comment, Hollow, Element, spell_piece, spell_tag, spell_content, section_start, section_end, comment_start, comment_end}
use Rattle.pws_mark.specs.Faults.{Fault, piece_faults, open_length, close_length}
use Rattle.pws_mark.specs.Grammar.{is_content, is_tag, begins_with}
use Rattle.pws_mark.specs.Noted.{finds, start_finds, hollow_finds, end_finds}
use Rattle.pws_mark.specs.Scan.{next, region, region_in, content_step}
use Rattle.pws_mark.specs.Spelling.{write_piece, write_tag, write_content}
use Rattle.pws_mark.specs.States.{Open, Outer, State, bound_at, read_bound, word_in, started, hollowed, ended, taken, spoiled, with_char}
use Rattle.pws_mark.specs.TokenLaws.{Goes, state, ending, tag_read, early_faults, brackets_behind, piece_bytes, all_taken}
use Rattle.pws_mark.specs.Tokens.{is_white, is_name, is_piece, is_text_char, is_section, is_comment}
use Rattle.pws_mark.specs.Values.{Marked}
use Rattle.pws_mark.specs.declared.modes.Mode.TheVariants as mode
use Rattle.pws_mark.specs.declared.modes.Region.TheVariants as region_is
use Rattle.pws_mark.proofs.Going.{goes_on_to, goes_at, goes_once, goes_nowhere}
use Rattle.pws_mark.proofs.TakesComments.{comments_are_taken}
use Rattle.pws_mark.proofs.TakesEnds.{ends_are_taken}
use Rattle.pws_mark.proofs.TakesPieces.{pieces_are_taken}
use Rattle.pws_mark.proofs.TakesSections.{sections_are_taken}
use Rattle.pws_mark.proofs.TakesTags.{starts_are_taken, hollows_are_taken}

-- where things end that begin at this place
abbrev pub section_end_at : ℕ → List ℕ → ℕ
section_end_at at chars = at + length (section_start ++ (encode_utf8_all chars ++ section_end))

abbrev pub comment_end_at : ℕ → List ℕ → ℕ
comment_end_at at chars = at + length (comment_start ++ (encode_utf8_all chars ++ comment_end))

abbrev pub hollow_end_at : ℕ → Tag → ℕ
hollow_end_at at tag = at + (3 + length (spell_tag tag))

abbrev pub inner_at : ℕ → Tag → ℕ
inner_at at tag = at + open_length tag

abbrev pub close_at : ℕ → Tag → Content → ℕ
close_at at tag inner = inner_at at tag + length (spell_content inner)

abbrev pub element_end_at : ℕ → Tag → Content → List ℕ → ℕ
element_end_at at tag inner gap = close_at at tag inner + close_length tag gap

-- how many of ]] stand there behind content, and whether a CR does
abbrev pub marks_behind : Content → ℕ → ℕ
marks_behind Nothing n = n
marks_behind (Text piece rest) n = marks_behind rest (brackets_behind n piece)
marks_behind (Section chars rest) n = marks_behind rest 0
marks_behind (Comment chars rest) n = marks_behind rest 0
marks_behind (Hollow tag rest) n = marks_behind rest 0
marks_behind (Element tag inner gap rest) n = marks_behind rest 0

abbrev pub return_behind : Content → Bool → Bool
return_behind Nothing ret = ret
return_behind (Text piece rest) ret = return_behind rest (is_char 13 piece)
return_behind (Section chars rest) ret = return_behind rest false
return_behind (Comment chars rest) ret = return_behind rest false
return_behind (Hollow tag rest) ret = return_behind rest false
return_behind (Element tag inner gap rest) ret = return_behind rest false

-- the innermost open element is closed
abbrev pub closed_in : List Open → Outer → Outer
closed_in [] o = o
closed_in (x ∷ xs) o = ended x xs o.events o.text

abbrev pub closed : Outer → Outer
closed o = closed_in o.opens o

-- what is around behind content
abbrev pub outer_behind : Content → ℕ → Bool → Outer → Outer
outer_behind Nothing at ret o = o
outer_behind (Text piece rest) at ret o = outer_behind rest (at + length (spell_piece piece)) (is_char 13 piece) (taken o at (piece_char piece) (piece_bytes ret piece))
outer_behind (Section chars rest) at ret o = outer_behind rest (section_end_at at chars) false (all_taken o (at + length section_start) false chars)
outer_behind (Comment chars rest) at ret o = outer_behind rest (comment_end_at at chars) false o
outer_behind (Hollow tag rest) at ret o = outer_behind rest (hollow_end_at at tag) false (hollowed o (tag_read at tag))
outer_behind (Element tag inner gap rest) at ret o = outer_behind rest (element_end_at at tag inner gap) false (closed (outer_behind inner (inner_at at tag) false (started o (tag_read at tag))))

-- the faults that are noted over content
abbrev pub found_in : Content → ℕ → Bool → Outer → List Fault
found_in Nothing at ret o = []
found_in (Text piece rest) at ret o = piece_faults at piece ++ found_in rest (at + length (spell_piece piece)) (is_char 13 piece) (taken o at (piece_char piece) (piece_bytes ret piece))
found_in (Section chars rest) at ret o = found_in rest (section_end_at at chars) false (all_taken o (at + length section_start) false chars)
found_in (Comment chars rest) at ret o = found_in rest (comment_end_at at chars) false o
found_in (Hollow tag rest) at ret o =
    (early_faults (length o.opens) at tag ++ ending (hollow_end_at at tag) (hollow_finds o (tag_read at tag)))
    ++ found_in rest (hollow_end_at at tag) false (hollowed o (tag_read at tag))
found_in (Element tag inner gap rest) at ret o =
    let within = outer_behind inner (inner_at at tag) false (started o (tag_read at tag)) in
    (early_faults (length o.opens) at tag ++ ending (inner_at at tag) (start_finds o (tag_read at tag)))
    ++ (found_in inner (inner_at at tag) false (started o (tag_read at tag))
    ++ (ending (element_end_at at tag inner gap) (end_finds within.opens)
    ++ found_in rest (element_end_at at tag inner gap) false (closed within)))

-- what the content of Value may become behind characters, and behind content
abbrev pub word_behind_chars : Option (Option Marked) → ℕ → List ℕ → Option (Option Marked)
word_behind_chars w at [] = w
word_behind_chars w at (c ∷ cs) = word_behind_chars (with_char w at (Some c)) (at + length (encode_utf8 c)) cs

abbrev pub spoiled_word : Option (Option Marked) → Option (Option Marked)
spoiled_word w = option_map (λ v. None) w

abbrev pub word_behind : Content → ℕ → Option (Option Marked) → Option (Option Marked)
word_behind Nothing at w = w
word_behind (Text piece rest) at w = word_behind rest (at + length (spell_piece piece)) (with_char w at (piece_char piece))
word_behind (Section chars rest) at w = word_behind rest (section_end_at at chars) (word_behind_chars w (at + length section_start) chars)
word_behind (Comment chars rest) at w = word_behind rest (comment_end_at at chars) w
word_behind (Hollow tag rest) at w = word_behind rest (hollow_end_at at tag) (spoiled_word w)
word_behind (Element tag inner gap rest) at w = word_behind rest (element_end_at at tag inner gap) (spoiled_word w)

abbrev pub with_word : Open → Option (Option Marked) → Open
with_word x w = record { name = x.name; at = x.at; bound = x.bound; word = w }

pub taken_opens : (o : Outer) (x : Open) (xs : List Open) (at : ℕ) (c : Option ℕ) (bytes : List ℕ) → o.opens ≡ x ∷ xs → (taken o at c bytes).opens ≡ with_word x (with_char x.word at c) ∷ xs
unfolding taken
taken_opens o x xs at c bytes h = ap (λ os. (taken (record { opens = os; behind = o.behind; events = o.events; text = o.text }) at c bytes).opens) h

pub chars_opens : (chars : List ℕ) (o : Outer) (x : Open) (xs : List Open) (at : ℕ) (ret : Bool) → o.opens ≡ x ∷ xs → (all_taken o at ret chars).opens ≡ with_word x (word_behind_chars x.word at chars) ∷ xs
chars_opens [] o x xs at ret h = h
chars_opens (c ∷ cs) o x xs at ret h = chars_opens cs _ (with_word x (with_char x.word at (Some c))) xs (at + length (encode_utf8 c)) (c == 13) (taken_opens o x xs at (Some c) _ h)

pub spoiled_opens : (os : List Open) (x : Open) (xs : List Open) → os ≡ x ∷ xs → spoiled os ≡ with_word x (spoiled_word x.word) ∷ xs
spoiled_opens os x xs h = ap spoiled h

-- the element that a start tag opens
abbrev pub opened_by : Outer → Tag → ℕ → Open
opened_by o tag at = record { name = tag.name; at = at; bound = read_bound (tag_read at tag).attributes (bound_at o.opens); word = word_in (read_bound (tag_read at tag).attributes (bound_at o.opens)) tag.name }

pub started_opens : (o : Outer) (tag : Tag) (at : ℕ) → (started o (tag_read at tag)).opens ≡ opened_by o tag at ∷ spoiled o.opens
unfolding started
started_opens o tag at = refl

pub closed_opens : (o : Outer) (x : Open) (xs : List Open) → o.opens ≡ x ∷ xs → (closed o).opens ≡ xs
unfolding ended
closed_opens o x xs h = ap (λ os. (closed_in os o).opens) h

pub hollowed_opens : (o : Outer) (x : Open) (xs : List Open) (tag : Tag) (at : ℕ) → o.opens ≡ x ∷ xs → (hollowed o (tag_read at tag)).opens ≡ with_word x (spoiled_word x.word) ∷ xs
unfolding hollowed
hollowed_opens o x xs tag at h = spoiled_opens o.opens x xs h

-- content leaves the open elements, but for what the innermost one's content may become
pub opens_behind : (c : Content) (o : Outer) (x : Open) (xs : List Open) (at : ℕ) (ret : Bool) → o.opens ≡ x ∷ xs → (outer_behind c at ret o).opens ≡ with_word x (word_behind c at x.word) ∷ xs
opens_behind Nothing o x xs at ret h = h
opens_behind (Text piece rest) o x xs at ret h = opens_behind rest _ (with_word x (with_char x.word at (piece_char piece))) xs _ _ (taken_opens o x xs at (piece_char piece) _ h)
opens_behind (Section chars rest) o x xs at ret h = opens_behind rest _ (with_word x (word_behind_chars x.word (at + length section_start) chars)) xs _ _ (chars_opens chars o x xs (at + length section_start) false h)
opens_behind (Comment chars rest) o x xs at ret h = opens_behind rest o x xs _ _ h
opens_behind (Hollow tag rest) o x xs at ret h = opens_behind rest _ (with_word x (spoiled_word x.word)) xs _ _ (hollowed_opens o x xs tag at h)
opens_behind (Element tag inner gap rest) o x xs at ret h =
    let within = outer_behind inner (inner_at at tag) false (started o (tag_read at tag)) in
    let y = opened_by o tag at in
    let opens : within.opens ≡ with_word y (word_behind inner (inner_at at tag) y.word) ∷ spoiled o.opens = opens_behind inner (started o (tag_read at tag)) y (spoiled o.opens) (inner_at at tag) false (started_opens o tag at) in
    let shut : (closed within).opens ≡ with_word x (spoiled_word x.word) ∷ xs = closed_opens within _ (spoiled o.opens) opens ∙ spoiled_opens o.opens x xs h in
    opens_behind rest (closed within) (with_word x (spoiled_word x.word)) xs (element_end_at at tag inner gap) false shut

-- the brackets that stand before content don't go on to ]]>
pub record Fits (n : ℕ) (c : Content) : Type 0 where
  pub last : n ≡ 2 → begins_with (62 ∷ []) c ≡ false
  pub more : 1 ≤ n → begins_with (93 ∷ 62 ∷ []) c ≡ false

pub fits_none : (c : Content) → Fits 0 c
fits_none c = record { last = λ e. absurd (omega arith); more = λ e. absurd (omega arith) }

-- the test of a piece, what follows it
pub piece_free : (n : ℕ) (piece : Piece) (rest : Content) → Fits n (Text piece rest) → (n == 2 && is_char 62 piece) ≡ false
piece_free n (Char c) rest fits = by (n == 2) (62 == c) (eqb-true n 2) refl
  where
    by : (s t : Bool) → (s ≡ true → n ≡ 2) → (62 == c) ≡ t → (s && t) ≡ false
    by false t h e = refl
    by true false h e = refl
    by true true h e = let bad : begins_with (62 ∷ []) (Text (Char c) rest) ≡ false = fits.last (h refl) in absurd (let worse : ((62 == c) && true) ≡ false = bad in let same : ((62 == c) && true) ≡ true = rw e refl in cc)
piece_free n (Entity name) rest fits = never (n == 2)
  where
    never : (b : Bool) → (b && false) ≡ false
    never true = refl
    never false = refl
piece_free n (Decimal digits) rest fits = never (n == 2)
  where
    never : (b : Bool) → (b && false) ≡ false
    never true = refl
    never false = refl
piece_free n (Hexadecimal digits) rest fits = never (n == 2)
  where
    never : (b : Bool) → (b && false) ≡ false
    never true = refl
    never false = refl

pub fits_behind : (n : ℕ) (piece : Piece) (rest : Content) → Fits n (Text piece rest) → begins_with section_end (Text piece rest) ≡ false → Fits (brackets_behind n piece) rest
unfolding section_end
fits_behind n (Char c) rest fits none = by (93 == c) refl
  where
    second : (a b : Bool) → a ≡ true → (a && b) ≡ false → b ≡ false
    second true b h g = g
    second false b h g = absurd cc

    number : (two : Bool) → (two ≡ true → n ≡ 2) → (1 ≤ n → begins_with (62 ∷ []) rest ≡ false) → begins_with (93 ∷ 62 ∷ []) rest ≡ false → Fits (if two then 2 else n + 1) rest
    number true same last more = record { last = λ h. last (omega (arith, same refl)); more = λ h. more }
    number false same last more = record { last = λ h. last (omega arith); more = λ h. more }

    by : (b : Bool) → (93 == c) ≡ b → Fits (if b then (if n == 2 then 2 else n + 1) else 0) rest
    by false e = fits_none rest
    by true e = number (n == 2) (eqb-true n 2) (λ some. second (93 == c) (begins_with (62 ∷ []) rest) e (fits.more some)) (second (93 == c) (begins_with (93 ∷ 62 ∷ []) rest) e none)
fits_behind n (Entity name) rest fits none = fits_none rest
fits_behind n (Decimal digits) rest fits none = fits_none rest
fits_behind n (Hexadecimal digits) rest fits none = fits_none rest

inside : (o : Outer) (x : Open) (xs : List Open) → o.opens ≡ x ∷ xs → region o ≡ region_is.Inside
inside o x xs h = ap (λ os. region_in os o.behind) h

not_behind : (o : Outer) (x : Open) (xs : List Open) → o.opens ≡ x ∷ xs → region o ≢ region_is.Behind
not_behind o x xs h e = let i : region o ≡ region_is.Inside = inside o x xs h in absurd cc

-- a < in content
tag_opens : (o : Outer) (x : Open) (xs : List Open) (at n : ℕ) (ret : Bool) → o.opens ≡ x ∷ xs → Goes (state at (mode.Content n ret) o) (60 ∷ []) (state (at + 1) (mode.Opened at) o) []
unfolding next finds encode xml_ranges
tag_opens o x xs at n ret h = goes_once (mode.Content n ret) (mode.Opened at) o o at 60 [] (ap (λ r. content_step r o at n ret 60) (inside o x xs h)) refl

abbrev ContentGoes : Content → ℕ → ℕ → Bool → Outer → Type 0
ContentGoes c at n ret o = Goes (state at (mode.Content n ret) o) (write_content c) (state (at + length (spell_content c)) (mode.Content (marks_behind c n) (return_behind c ret)) (outer_behind c at ret o)) (found_in c at ret o)

-- something, and then content
goes_then : (s : State) (cs : List ℕ) (rest : Content) (size end at n : ℕ) (ret : Bool) (o : Outer) (fs : List Fault) → end + length (spell_content rest) ≡ at + size → Goes s cs (state end (mode.Content n ret) o) fs → ContentGoes rest end n ret o →
    Goes s (cs ++ write_content rest) (state (at + size) (mode.Content (marks_behind rest n) (return_behind rest ret)) (outer_behind rest end ret o)) (fs ++ found_in rest end ret o)
goes_then s cs rest size end at n ret o fs place one more =
    goes_at s (cs ++ write_content rest) (mode.Content (marks_behind rest n) (return_behind rest ret)) (outer_behind rest end ret o) (fs ++ found_in rest end ret o) (end + length (spell_content rest)) (at + size) place
    (goes_on_to _ _ _ cs (write_content rest) fs (found_in rest end ret o) one more)

pub comment_back : (chars cs : List ℕ) → (comment_start ++ (chars ++ comment_end)) ++ cs ≡ comment_start ++ (chars ++ (comment_end ++ cs))
comment_back chars cs = append_assoc comment_start (chars ++ comment_end) cs ∙ ap (λ z. comment_start ++ z) (append_assoc chars comment_end cs)

section_back : (chars cs : List ℕ) → (section_start ++ (chars ++ section_end)) ++ cs ≡ section_start ++ (chars ++ (section_end ++ cs))
section_back chars cs = append_assoc section_start (chars ++ section_end) cs ∙ ap (λ z. section_start ++ z) (append_assoc chars section_end cs)

pub element_back : (tag : Tag) (gap inner rest : List ℕ) → (60 ∷ (write_tag tag ++ 62 ∷ [])) ++ (inner ++ ((60 ∷ 47 ∷ (tag.name ++ (gap ++ 62 ∷ []))) ++ rest)) ≡ 60 ∷ (write_tag tag ++ 62 ∷ (inner ++ 60 ∷ 47 ∷ (tag.name ++ (gap ++ 62 ∷ rest))))
element_back tag gap inner rest =
    ap (λ z. 60 ∷ z) (append_assoc (write_tag tag) (62 ∷ []) (inner ++ ((60 ∷ 47 ∷ (tag.name ++ (gap ++ 62 ∷ []))) ++ rest)))
    ∙ ap (λ z. 60 ∷ (write_tag tag ++ 62 ∷ (inner ++ 60 ∷ 47 ∷ z))) (append_assoc tag.name (gap ++ 62 ∷ []) rest ∙ ap (λ z. tag.name ++ z) (append_assoc gap (62 ∷ []) rest))

pub element_size : (tag : Tag) (gap inner rest : List ℕ) (at : ℕ) → at + open_length tag + length inner + close_length tag gap + length rest ≡ at + length (60 ∷ (spell_tag tag ++ 62 ∷ (inner ++ 60 ∷ 47 ∷ (encode_utf8_all tag.name ++ (encode_utf8_all gap ++ 62 ∷ rest)))))
element_size tag gap inner rest at =
    omega (arith, length-append (spell_tag tag) (62 ∷ (inner ++ 60 ∷ 47 ∷ (encode_utf8_all tag.name ++ (encode_utf8_all gap ++ 62 ∷ rest)))), length-append inner (60 ∷ 47 ∷ (encode_utf8_all tag.name ++ (encode_utf8_all gap ++ 62 ∷ rest))), length-append (encode_utf8_all tag.name) (encode_utf8_all gap ++ 62 ∷ rest), length-append (encode_utf8_all gap) (62 ∷ rest), length-append (encode_utf8_all tag.name) (encode_utf8_all gap))

pub content_goes : (c : Content) (at n : ℕ) (ret : Bool) (o : Outer) (x : Open) (xs : List Open) → o.opens ≡ x ∷ xs → is_content c ≡ true → Fits n c → ContentGoes c at n ret o
content_goes Nothing at n ret o x xs opens lawful fits = goes_at (state at (mode.Content n ret) o) [] (mode.Content n ret) o [] at (at + 0) (omega arith) (goes_nowhere (state at (mode.Content n ret) o))
content_goes (Text piece rest) at n ret o x xs opens lawful fits =
    let one = and_parts (is_piece is_text_char piece) (not (begins_with section_end (Text piece rest)) && is_content rest) lawful in
    let two = and_parts (not (begins_with section_end (Text piece rest))) (is_content rest) one.1 in
    let end = at + length (spell_piece piece) in
    goes_then (state at (mode.Content n ret) o) (write_piece piece) rest (length (spell_piece piece ++ spell_content rest)) end at (brackets_behind n piece) (is_char 13 piece) (taken o at (piece_char piece) (piece_bytes ret piece)) (piece_faults at piece)
    (omega (arith, length-append (spell_piece piece) (spell_content rest)))
    (pieces_are_taken o at n ret piece (inside o x xs opens) one.0 (piece_free n piece rest fits))
    (content_goes rest end (brackets_behind n piece) (is_char 13 piece) (taken o at (piece_char piece) (piece_bytes ret piece)) (with_word x (with_char x.word at (piece_char piece))) xs (taken_opens o x xs at (piece_char piece) (piece_bytes ret piece) opens) two.1 (fits_behind n piece rest fits (not-true _ two.0)))
content_goes (Section chars rest) at n ret o x xs opens lawful fits =
    let parts = and_parts (is_section chars) (is_content rest) lawful in
    let end = section_end_at at chars in
    let around = all_taken o (at + length section_start) false chars in
    let size = length (spell_content (Section chars rest)) in
    subst (λ cs. Goes (state at (mode.Content n ret) o) cs (state (at + size) (mode.Content (marks_behind rest 0) (return_behind rest false)) (outer_behind rest end false around)) (found_in rest end false around)) (section_back chars (write_content rest))
    (goes_then (state at (mode.Content n ret) o) (section_start ++ (chars ++ section_end)) rest size end at 0 false around []
    (omega (arith, ap length (section_back (encode_utf8_all chars) (spell_content rest)), length-append (section_start ++ (encode_utf8_all chars ++ section_end)) (spell_content rest)))
    (sections_are_taken o at n ret chars (inside o x xs opens) parts.0)
    (content_goes rest end 0 false around (with_word x (word_behind_chars x.word (at + length section_start) chars)) xs (chars_opens chars o x xs (at + length section_start) false opens) parts.1 (fits_none rest)))
content_goes (Comment chars rest) at n ret o x xs opens lawful fits =
    let parts = and_parts (is_comment chars) (is_content rest) lawful in
    let end = comment_end_at at chars in
    let size = length (spell_content (Comment chars rest)) in
    subst (λ cs. Goes (state at (mode.Content n ret) o) cs (state (at + size) (mode.Content (marks_behind rest 0) (return_behind rest false)) (outer_behind rest end false o)) (found_in rest end false o)) (comment_back chars (write_content rest))
    (goes_then (state at (mode.Content n ret) o) (comment_start ++ (chars ++ comment_end)) rest size end at 0 false o []
    (omega (arith, ap length (comment_back (encode_utf8_all chars) (spell_content rest)), length-append (comment_start ++ (encode_utf8_all chars ++ comment_end)) (spell_content rest)))
    (comments_are_taken o at n ret chars parts.0)
    (content_goes rest end 0 false o x xs opens parts.1 (fits_none rest)))
content_goes (Hollow tag rest) at n ret o x xs opens lawful fits =
    let parts = and_parts (is_tag tag) (is_content rest) lawful in
    let end = hollow_end_at at tag in
    let around = hollowed o (tag_read at tag) in
    let fs = early_faults (length o.opens) at tag ++ ending end (hollow_finds o (tag_read at tag)) in
    let size = length (spell_content (Hollow tag rest)) in
    subst (λ cs. Goes (state at (mode.Content n ret) o) (60 ∷ cs) (state (at + size) (mode.Content (marks_behind rest 0) (return_behind rest false)) (outer_behind rest end false around)) (fs ++ found_in rest end false around)) (append_assoc (write_tag tag) (47 ∷ 62 ∷ []) (write_content rest))
    (goes_then (state at (mode.Content n ret) o) (60 ∷ (write_tag tag ++ 47 ∷ 62 ∷ [])) rest size end at 0 false around fs
    (omega (arith, length-append (spell_tag tag) (47 ∷ 62 ∷ spell_content rest)))
    (goes_on_to _ _ _ (60 ∷ []) (write_tag tag ++ 47 ∷ 62 ∷ []) [] fs (tag_opens o x xs at n ret opens) (hollows_are_taken o at tag (not_behind o x xs opens) parts.0))
    (content_goes rest end 0 false around (with_word x (spoiled_word x.word)) xs (hollowed_opens o x xs tag at opens) parts.1 (fits_none rest)))
content_goes (Element tag inner gap rest) at n ret o x xs opens lawful fits =
    let one = and_parts (is_tag tag) (is_content inner && (list_all is_white gap && is_content rest)) lawful in
    let two = and_parts (is_content inner) (list_all is_white gap && is_content rest) one.1 in
    let three = and_parts (list_all is_white gap) (is_content rest) two.1 in
    let name = and_parts (is_name tag.name) _ one.0 in
    let begun = started o (tag_read at tag) in
    let within = outer_behind inner (inner_at at tag) false begun in
    let y = opened_by o tag at in
    let z = with_word y (word_behind inner (inner_at at tag) y.word) in
    let within_opens : within.opens ≡ z ∷ spoiled o.opens = opens_behind inner begun y (spoiled o.opens) (inner_at at tag) false (started_opens o tag at) in
    let shut_is : ended z (spoiled o.opens) within.events within.text ≡ closed within = ap (λ os. closed_in os within) (sym within_opens) in
    let shut_opens : (closed within).opens ≡ with_word x (spoiled_word x.word) ∷ xs = closed_opens within z (spoiled o.opens) within_opens ∙ spoiled_opens o.opens x xs opens in
    let end = element_end_at at tag inner gap in
    let fs = early_faults (length o.opens) at tag ++ ending (inner_at at tag) (start_finds o (tag_read at tag)) in
    let gs = found_in inner (inner_at at tag) false begun in
    let hs = ending end (end_finds within.opens) in
    let rest_faults = found_in rest end false (closed within) in
    let size = length (spell_content (Element tag inner gap rest)) in
    let last = 60 ∷ 47 ∷ (tag.name ++ (gap ++ 62 ∷ [])) in
    let ends : Goes (state (close_at at tag inner) (mode.Content (marks_behind inner 0) (return_behind inner false)) within) last (state end (mode.Content 0 false) (closed within)) hs =
    subst (λ w. Goes (state (close_at at tag inner) (mode.Content (marks_behind inner 0) (return_behind inner false)) within) last (state end (mode.Content 0 false) w) hs) shut_is
    (ends_are_taken within z (spoiled o.opens) (close_at at tag inner) (marks_behind inner 0) (return_behind inner false) gap within_opens name.0 three.0) in
    subst (λ cs. Goes (state at (mode.Content n ret) o) cs (state (at + size) (mode.Content (marks_behind rest 0) (return_behind rest false)) (outer_behind rest end false (closed within))) (fs ++ (gs ++ (hs ++ rest_faults)))) (element_back tag gap (write_content inner) (write_content rest))
    (goes_on_to _ _ _ (60 ∷ (write_tag tag ++ 62 ∷ [])) (write_content inner ++ (last ++ write_content rest)) fs (gs ++ (hs ++ rest_faults))
    (goes_on_to _ _ _ (60 ∷ []) (write_tag tag ++ 62 ∷ []) [] fs (tag_opens o x xs at n ret opens) (starts_are_taken o at tag (not_behind o x xs opens) one.0))
    (goes_on_to _ _ _ (write_content inner) (last ++ write_content rest) gs (hs ++ rest_faults) (content_goes inner (inner_at at tag) 0 false begun y (spoiled o.opens) (started_opens o tag at) two.0 (fits_none inner))
    (goes_then (state (close_at at tag inner) (mode.Content (marks_behind inner 0) (return_behind inner false)) within) last rest size end at 0 false (closed within) hs
    (element_size tag gap (spell_content inner) (spell_content rest) at)
    ends
    (content_goes rest end 0 false (closed within) (with_word x (spoiled_word x.word)) xs shut_opens three.1 (fits_none rest)))))

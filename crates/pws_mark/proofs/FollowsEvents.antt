-- What the reader builds over content is what the content stands for.
use Rattle.std.proofs.Common.{◌≡◌, ℕ, suc, ◌+◌, Bool, true, false, not, ◌&&◌, List, [], ◌∷◌, ◌++◌, take, drop, length, zero, refl, ap, sym, ◌∙◌, arith, append_assoc, append-nil, Option, Some, None}
use Rattle.std.specs.Prelude.{◌==◌, option_map, unwrap_or, take_while, encode_utf8, encode_utf8_all, if◌then◌else◌}
use Rattle.std.specs.List.{list_all, filter_map, cons_option, prefix_len}
use Rattle.std.specs.Option.{option_and_then}
use Rattle.std.proofs.lemmas.List.{map-append}
use lib.Utf8.{encode}
use Rattle.pws_tree.specs.Names.{is_value, envelope_space}
use Rattle.pws_tree.specs.Trees.{Nodes, NoNode, TextThen, QualifiedThen, ElementThen}
use Rattle.pws_tree.specs.declared.texts.Name.{Name}
use Rattle.pws_mark.specs.Bindings.{Bindings, piece_char, is_char, bound_by, has_two_colons, element_name}
use Rattle.pws_mark.specs.Documents.{Piece, Attribute, Tag, Content, Nothing, Text, Section, Comment, Hollow, Element, spell_piece, spell_attribute, spell_content, section_start}
use Rattle.pws_mark.specs.Faults.{Fault, open_length, is_value_name, content_faults_of, element_faults, tag_faults, piece_faults, faults_in, close_length}
use Rattle.pws_mark.specs.Meaning.{with_text, joined, nodes_in, name_of, attrs_of, attr_of, in_order, qualified_in, name_within, line_ends, char_text, no_name}
use Rattle.pws_mark.specs.ReaderLaws.{read_event, read_events}
use Rattle.pws_mark.specs.Scan.{text_bytes}
use Rattle.pws_mark.specs.States.{Open, Outer, read_attrs, read_attr, flushed, word_of, word_in, with_char, text_after, qualified_event, started, hollowed, ended, taken, spoiled}
use Rattle.pws_mark.specs.TokenLaws.{attributes_read, tag_read, all_taken, piece_bytes}
use Rattle.pws_mark.specs.Tokens.{is_white, is_name}
use Rattle.pws_mark.specs.Values.{Marked, marked, then_marked, placed, behind_white, first_word, letters, is_one_name}
use Rattle.pws_mark.specs.declared.modes.Event.{Event}
use Rattle.pws_mark.specs.declared.modes.Event.TheVariants as event
use Rattle.pws_mark.proofs.Following.{taken_opens, chars_opens, hollowed_opens, spoiled_opens, spoiled_word, outer_behind, word_behind, word_behind_chars, with_word, opened_by, opens_behind, started_opens, closed, closed_in, closed_opens, inner_at, element_end_at, hollow_end_at, section_end_at, comment_end_at}
use Rattle.pws_mark.proofs.FollowsFaults.{bound_around, word_none, word_whole}

-- what events stand for before these nodes, from the right
abbrev pub read_on : List Event → List Nodes → List Nodes
read_on [] stack = stack
read_on (e ∷ es) stack = read_event e (read_on es stack)

pub read_events_on : (es : List Event) → read_events es ≡ read_on es (NoNode ∷ [])
unfolding read_events
read_events_on [] = refl
read_events_on (e ∷ es) = ap (read_event e) (read_events_on es)

pub read_on_append : (es fs : List Event) (stack : List Nodes) → read_on (es ++ fs) stack ≡ read_on es (read_on fs stack)
read_on_append [] fs stack = refl
read_on_append (e ∷ es) fs stack = ap (read_event e) (read_on_append es fs stack)

abbrev is_text : Nodes → Bool
is_text NoNode = false
is_text (TextThen t rest) = true
is_text (QualifiedThen n rest) = false
is_text (ElementThen n attrs inner rest) = false

joined_is : (t : List ℕ) (n : Nodes) → is_text n ≡ false → TextThen t n ≡ joined t n
joined_is t NoNode h = refl
joined_is t (TextThen u rest) h = absurd cc
joined_is t (QualifiedThen n rest) h = refl
joined_is t (ElementThen n attrs inner rest) h = refl

-- the text that is kept stands before nodes that begin with none
pub flushed_on : (es : List Event) (t : List ℕ) (n : Nodes) (stack : List Nodes) → is_text n ≡ false → read_on (flushed es t) (n ∷ stack) ≡ read_on es (with_text t n ∷ stack)
unfolding with_text
flushed_on es [] n stack h = refl
flushed_on es (b ∷ bs) n stack h = read_on_append es (event.Text (b ∷ bs) ∷ []) (n ∷ stack) ∙ ap (λ z. read_on es (z ∷ stack)) (joined_is (b ∷ bs) n h)

pub no_text : (n : Nodes) → with_text [] n ≡ n
unfolding with_text
no_text n = refl

texts_joined : (t u : List ℕ) (n : Nodes) → joined (t ++ u) n ≡ joined t (joined u n)
texts_joined t u NoNode = refl
texts_joined t u (TextThen v rest) = ap (λ z. TextThen z rest) (append_assoc t u v)
texts_joined t u (QualifiedThen n rest) = refl
texts_joined t u (ElementThen n attrs inner rest) = refl

-- a text in two parts
pub two_texts : (t u : List ℕ) (n : Nodes) → with_text (t ++ u) n ≡ with_text t (with_text u n)
unfolding with_text
two_texts [] u n = refl
two_texts (b ∷ bs) [] n = ap (λ z. joined (b ∷ z) n) (append-nil bs)
two_texts (b ∷ bs) (c ∷ cs) n = texts_joined (b ∷ bs) (c ∷ cs) n

taken_events : (o : Outer) (x : Open) (xs : List Open) (at : ℕ) (c : Option ℕ) (bytes : List ℕ) → o.opens ≡ x ∷ xs → (taken o at c bytes).events ≡ o.events
unfolding taken
taken_events o x xs at c bytes h = ap (λ os. (taken (record { opens = os; behind = o.behind; events = o.events; text = o.text }) at c bytes).events) h

taken_text : (o : Outer) (x : Open) (xs : List Open) (at : ℕ) (c : Option ℕ) (bytes : List ℕ) → o.opens ≡ x ∷ xs → (taken o at c bytes).text ≡ text_after x.word o.text bytes
unfolding taken
taken_text o x xs at c bytes h = ap (λ os. (taken (record { opens = os; behind = o.behind; events = o.events; text = o.text }) at c bytes).text) h

chars_events : (chars : List ℕ) (o : Outer) (x : Open) (xs : List Open) (at : ℕ) (ret : Bool) → o.opens ≡ x ∷ xs → (all_taken o at ret chars).events ≡ o.events
chars_events [] o x xs at ret h = refl
chars_events (c ∷ cs) o x xs at ret h = chars_events cs _ (with_word x (with_char x.word at (Some c))) xs (at + length (encode_utf8 c)) (c == 13) (taken_opens o x xs at (Some c) _ h) ∙ taken_events o x xs at (Some c) _ h

chars_text : (chars : List ℕ) (o : Outer) (x : Open) (xs : List Open) (at : ℕ) (ret : Bool) → o.opens ≡ x ∷ xs → x.word ≡ None → (all_taken o at ret chars).text ≡ o.text ++ encode_utf8_all (line_ends ret chars)
unfolding encode
chars_text [] o x xs at ret h w = sym (append-nil o.text)
chars_text (c ∷ cs) o x xs at ret h w =
    let y = with_word x (with_char x.word at (Some c)) in
    let plain : y.word ≡ None = ap (λ z. with_char z at (Some c)) w in
    let first : (taken o at (Some c) (text_bytes ret c)).text ≡ o.text ++ text_bytes ret c = taken_text o x xs at (Some c) (text_bytes ret c) h ∙ ap (λ z. text_after z o.text (text_bytes ret c)) w in
    chars_text cs _ y xs (at + length (encode_utf8 c)) (c == 13) (taken_opens o x xs at (Some c) (text_bytes ret c) h) plain
    ∙ (ap (λ z. z ++ encode_utf8_all (line_ends (c == 13) cs)) first ∙ (append_assoc o.text (text_bytes ret c) (encode_utf8_all (line_ends (c == 13) cs)) ∙ ap (λ z. o.text ++ z) (by (c == 13) (ret && c == 10))))
  where
    by : (a b : Bool) → (if a then 10 ∷ [] else if b then [] else encode_utf8 c) ++ encode_utf8_all (line_ends a cs) ≡ encode_utf8_all (if a then 10 ∷ line_ends true cs else if b then line_ends false cs else c ∷ line_ends false cs)
    by true b = refl
    by false true = refl
    by false false = refl

piece_text : (m : Bindings) (ret : Bool) (piece : Piece) (rest : Content) → with_text (piece_bytes ret piece) (nodes_in m (is_char 13 piece) rest) ≡ nodes_in m ret (Text piece rest)
piece_text m ret piece rest = by (is_char 13 piece) (ret && is_char 10 piece)
  where
    by : (a b : Bool) → with_text (if a then 10 ∷ [] else if b then [] else char_text (piece_char piece)) (nodes_in m a rest) ≡ (if a then with_text (10 ∷ []) (nodes_in m true rest) else if b then nodes_in m false rest else with_text (char_text (piece_char piece)) (nodes_in m false rest))
    by true b = refl
    by false true = no_text (nodes_in m false rest)
    by false false = refl

-- the attributes of a tag
attrs_read : (m : Bindings) (more : List Attribute) (at : ℕ) → filter_map (read_attr m) (attributes_read at more) ≡ filter_map (attr_of m) more
attrs_read m [] at = refl
attrs_read m (a ∷ more) at = ap (cons_option (attr_of m a)) (attrs_read m more (at + length (spell_attribute a)))

pub attrs_same : (m : Bindings) (tag : Tag) (at : ℕ) → in_order (read_attrs m (tag_read at tag).attributes) ≡ attrs_of m tag
unfolding read_attrs attrs_of
attrs_same m tag at = ap in_order (attrs_read m tag.attributes (at + (1 + length (encode_utf8_all tag.name))))

-- the events of an empty tag and of a start tag
hollowed_events : (o : Outer) (x : Open) (xs : List Open) (tag : Tag) (at : ℕ) → o.opens ≡ x ∷ xs → let m = bound_by tag x.bound in
    (hollowed o (tag_read at tag)).events ≡ flushed o.events o.text ++ event.Open (name_of m tag.name) (read_attrs m (tag_read at tag).attributes) ∷ event.Close ∷ []
unfolding hollowed
hollowed_events o x xs tag at h = ap (λ m. flushed o.events o.text ++ event.Open (name_of m tag.name) (read_attrs m (tag_read at tag).attributes) ∷ event.Close ∷ []) (bound_around o x xs tag at h)

hollowed_text : (o : Outer) (tag : Tag) (at : ℕ) → (hollowed o (tag_read at tag)).text ≡ []
unfolding hollowed
hollowed_text o tag at = refl

started_events : (o : Outer) (m : Bindings) (tag : Tag) (at : ℕ) → (opened_by o tag at).bound ≡ m →
    (started o (tag_read at tag)).events ≡ flushed o.events o.text ++ event.Open (name_of m tag.name) (read_attrs m (tag_read at tag).attributes) ∷ []
unfolding started
started_events o m tag at h = ap (λ n. flushed o.events o.text ++ event.Open (name_of n tag.name) (read_attrs n (tag_read at tag).attributes) ∷ []) h

pub started_text : (o : Outer) (tag : Tag) (at : ℕ) → (started o (tag_read at tag)).text ≡ []
unfolding started
started_text o tag at = refl

pub closed_events : (o : Outer) (x : Open) (xs : List Open) → o.opens ≡ x ∷ xs → (closed o).events ≡ flushed o.events o.text ++ (qualified_event x.bound x.word ++ event.Close ∷ [])
unfolding ended
closed_events o x xs h = ap (λ os. (closed_in os o).events) h

pub closed_text : (o : Outer) (x : Open) (xs : List Open) → o.opens ≡ x ∷ xs → (closed o).text ≡ []
unfolding ended
closed_text o x xs h = ap (λ os. (closed_in os o).text) h

value_tested : (m : Bindings) (name : List ℕ) → is_value (name_of m name) ≡ is_value_name (element_name m name)
unfolding name_of envelope_space
value_tested m name = by (element_name m name)
  where
    by : (n : Option Name) → is_value (unwrap_or n no_name) ≡ is_value_name n
    by None = refl
    by (Some n) = refl

-- what the content of Value says depends on its letters alone
abbrev behind_white_letters : List ℕ → List ℕ
behind_white_letters [] = []
behind_white_letters (c ∷ cs) = if is_white c then behind_white_letters cs else c ∷ cs

white_letters : (w : Marked) → letters (behind_white w) ≡ behind_white_letters (letters w)
white_letters [] = refl
white_letters (c ∷ w) = by (is_white c.0) (white_letters w)
  where
    by : (b : Bool) → letters (behind_white w) ≡ behind_white_letters (letters w) → letters (if b then behind_white w else c ∷ w) ≡ (if b then behind_white_letters (letters w) else c.0 ∷ letters w)
    by true again = again
    by false again = refl

prefix_letters : (w : Marked) → prefix_len (λ c. not (is_white c.0)) w ≡ prefix_len (λ c. not (is_white c)) (letters w)
prefix_letters [] = refl
prefix_letters (c ∷ w) = ap (λ n. if not (is_white c.0) then 1 + n else 0) (prefix_letters w)

take_letters : (n : ℕ) (w : Marked) → letters (take n w) ≡ take n (letters w)
take_letters zero w = refl
take_letters (suc n) [] = refl
take_letters (suc n) (c ∷ w) = ap (λ z. c.0 ∷ z) (take_letters n w)

drop_letters : (n : ℕ) (w : Marked) → letters (drop n w) ≡ drop n (letters w)
drop_letters zero w = refl
drop_letters (suc n) [] = refl
drop_letters (suc n) (c ∷ w) = drop_letters n w

size_letters : (w : Marked) → length w ≡ length (letters w)
size_letters [] = refl
size_letters (c ∷ w) = ap suc (size_letters w)

white_all_letters : (w : Marked) → list_all (λ c. is_white c.0) w ≡ list_all is_white (letters w)
white_all_letters [] = refl
white_all_letters (c ∷ w) = ap (λ z. is_white c.0 && z) (white_all_letters w)

abbrev word_of_letters : List ℕ → List ℕ
word_of_letters cs = take_while (λ c. not (is_white c)) (behind_white_letters cs)

word_letters : (w : Marked) → letters (first_word w) ≡ word_of_letters (letters w)
word_letters w =
    take_letters (prefix_len (λ c. not (is_white c.0)) (behind_white w)) (behind_white w)
    ∙ (ap (λ n. take n (letters (behind_white w))) (prefix_letters (behind_white w)) ∙ ap (λ z. take_while (λ c. not (is_white c)) z) (white_letters w))

abbrev is_one_of_letters : List ℕ → Bool
is_one_of_letters cs =
    is_name (word_of_letters cs) && (not (has_two_colons (word_of_letters cs))
    && list_all is_white (drop (length (word_of_letters cs)) (behind_white_letters cs)))

one_letters : (w : Marked) → is_one_name w ≡ is_one_of_letters (letters w)
one_letters w =
    let rest : list_all (λ c. is_white c.0) (drop (length (first_word w)) (behind_white w)) ≡ list_all is_white (drop (length (word_of_letters (letters w))) (behind_white_letters (letters w))) =
    white_all_letters (drop (length (first_word w)) (behind_white w))
    ∙ (ap (list_all is_white) (drop_letters (length (first_word w)) (behind_white w))
    ∙ (ap (λ n. list_all is_white (drop n (letters (behind_white w)))) (size_letters (first_word w) ∙ ap length (word_letters w))
    ∙ ap (λ z. list_all is_white (drop (length (word_of_letters (letters w))) z)) (white_letters w))) in
    ap (λ z. is_name z && (not (has_two_colons z) && list_all (λ c. is_white c.0) (drop (length (first_word w)) (behind_white w)))) (word_letters w)
    ∙ ap (λ z. is_name (word_of_letters (letters w)) && (not (has_two_colons (word_of_letters (letters w))) && z)) rest

-- the one name among characters, as letters
abbrev name_of_letters : Option (List ℕ) → List ℕ
name_of_letters None = []
name_of_letters (Some cs) = if is_one_of_letters cs then word_of_letters cs else []

named_letters : (w : Option Marked) → letters (unwrap_or (word_of w) []) ≡ name_of_letters (option_map letters w)
named_letters None = refl
named_letters (Some w) = by (is_one_name w) ∙ ap (λ b. if b then word_of_letters (letters w) else []) (one_letters w)
  where
    by : (b : Bool) → letters (unwrap_or (if b then Some (first_word w) else None) []) ≡ (if b then word_of_letters (letters w) else [])
    by true = word_letters w
    by false = refl

placed_letters : (at : ℕ) (cs : List ℕ) → letters (placed at cs) ≡ cs
placed_letters at [] = refl
placed_letters at (c ∷ cs) = ap (λ z. c ∷ z) (placed_letters (at + length (encode_utf8 c)) cs)

-- the letters of content don't depend on its place
abbrev content_letters : Content → Option (List ℕ)
content_letters Nothing = Some []
content_letters (Text piece rest) = option_and_then (λ c. option_map (λ more. c ∷ more) (content_letters rest)) (piece_char piece)
content_letters (Section chars rest) = option_map (λ more. chars ++ more) (content_letters rest)
content_letters (Comment chars rest) = content_letters rest
content_letters (Hollow tag rest) = None
content_letters (Element tag inner gap rest) = None

marked_letters : (c : Content) (at : ℕ) → option_map letters (marked at c) ≡ content_letters c
marked_letters Nothing at = refl
marked_letters (Text piece rest) at = by (piece_char piece) (marked (at + length (spell_piece piece)) rest) (marked_letters rest (at + length (spell_piece piece)))
  where
    by : (d : Option ℕ) (more : Option Marked) → option_map letters more ≡ content_letters rest → option_map letters (then_marked d at more) ≡ option_and_then (λ c. option_map (λ z. c ∷ z) (content_letters rest)) d
    by None None h = refl
    by None (Some more) h = refl
    by (Some c) None h = ap (λ z. option_map (λ y. c ∷ y) z) h
    by (Some c) (Some more) h = ap (λ z. option_map (λ y. c ∷ y) z) h
marked_letters (Section chars rest) at = by (marked (section_end_at at chars) rest) (marked_letters rest (section_end_at at chars))
  where
    by : (more : Option Marked) → option_map letters more ≡ content_letters rest → option_map letters (option_map (λ z. placed (at + length section_start) chars ++ z) more) ≡ option_map (λ z. chars ++ z) (content_letters rest)
    by None h = ap (λ z. option_map (λ y. chars ++ y) z) h
    by (Some more) h = ap (λ z. Some z) (map-append (λ c. c.0) (placed (at + length section_start) chars) more ∙ ap (λ z. z ++ letters more) (placed_letters (at + length section_start) chars)) ∙ ap (λ z. option_map (λ y. chars ++ y) z) h
marked_letters (Comment chars rest) at = marked_letters rest (comment_end_at at chars)
marked_letters (Hollow tag rest) at = refl
marked_letters (Element tag inner gap rest) at = refl

-- so does the name that the content of Value is
qualified_read : (m : Bindings) (c : Content) (at : ℕ) → qualified_event m (Some (marked at c)) ≡ event.Qualified (qualified_in m c) ∷ []
unfolding qualified_in
qualified_read m c at = ap (λ z. event.Qualified (name_of m z) ∷ []) (named_letters (marked at c) ∙ (ap name_of_letters (marked_letters c at ∙ sym (marked_letters c 0)) ∙ sym (named_letters (marked 0 c))))

with_char_some : (w : Option Marked) (at : ℕ) (d : Option ℕ) → (v : Option Marked) × (with_char (Some w) at d ≡ Some v)
with_char_some None at None = (None, refl)
with_char_some None at (Some c) = (None, refl)
with_char_some (Some chars) at None = (None, refl)
with_char_some (Some chars) at (Some c) = (Some (chars ++ (c, at) ∷ []), refl)

quiet_text : (o : Outer) (x : Open) (xs : List Open) (w : Option Marked) (at : ℕ) (c : Option ℕ) (bytes : List ℕ) → o.opens ≡ x ∷ xs → x.word ≡ Some w → (taken o at c bytes).text ≡ o.text
quiet_text o x xs w at c bytes h is = taken_text o x xs at c bytes h ∙ ap (λ z. text_after z o.text bytes) is

chars_quiet : (chars : List ℕ) (o : Outer) (x : Open) (xs : List Open) (w : Option Marked) (at : ℕ) (ret : Bool) → o.opens ≡ x ∷ xs → x.word ≡ Some w → (all_taken o at ret chars).text ≡ o.text
chars_quiet [] o x xs w at ret h is = refl
chars_quiet (c ∷ cs) o x xs w at ret h is =
    let next_word = with_char_some w at (Some c) in
    chars_quiet cs _ (with_word x (with_char x.word at (Some c))) xs next_word.0 (at + length (encode_utf8 c)) (c == 13) (taken_opens o x xs at (Some c) _ h) (ap (λ z. with_char z at (Some c)) is ∙ next_word.1)
    ∙ quiet_text o x xs w at (Some c) _ h is

chars_word_some : (chars : List ℕ) (w : Option Marked) (at : ℕ) → (v : Option Marked) × (word_behind_chars (Some w) at chars ≡ Some v)
chars_word_some [] w at = (w, refl)
chars_word_some (c ∷ cs) w at =
    let one = with_char_some w at (Some c) in
    let more = chars_word_some cs one.0 (at + length (encode_utf8 c)) in
    (more.0, ap (λ z. word_behind_chars z (at + length (encode_utf8 c)) cs) one.1 ∙ more.1)

then_parts : (d : Option ℕ) (at : ℕ) (more : Option Marked) (ws : Marked) → then_marked d at more ≡ Some ws → (vs : Marked) × (more ≡ Some vs)
then_parts None at None ws h = absurd cc
then_parts None at (Some vs) ws h = absurd cc
then_parts (Some c) at None ws h = absurd cc
then_parts (Some c) at (Some vs) ws h = (vs, refl)

map_parts : (f : Marked → Marked) (more : Option Marked) (ws : Marked) → option_map f more ≡ Some ws → (vs : Marked) × (more ≡ Some vs)
map_parts f None ws h = absurd cc
map_parts f (Some vs) ws h = (vs, refl)

-- in the content of Value characters are kept apart
value_quiet : (c : Content) (at : ℕ) (ret : Bool) (o : Outer) (x : Open) (xs : List Open) (w : Option Marked) (ws : Marked) → o.opens ≡ x ∷ xs → x.word ≡ Some w → marked at c ≡ Some ws →
    ((outer_behind c at ret o).events ≡ o.events) × ((outer_behind c at ret o).text ≡ o.text)
value_quiet Nothing at ret o x xs w ws opens is found = (refl, refl)
value_quiet (Text piece rest) at ret o x xs w ws opens is found =
    let end = at + length (spell_piece piece) in
    let bytes = piece_bytes ret piece in
    let next_word = with_char_some w at (piece_char piece) in
    let more = then_parts (piece_char piece) at (marked end rest) ws found in
    let again = value_quiet rest end (is_char 13 piece) (taken o at (piece_char piece) bytes) (with_word x (with_char x.word at (piece_char piece))) xs next_word.0 more.0 (taken_opens o x xs at (piece_char piece) bytes opens) (ap (λ z. with_char z at (piece_char piece)) is ∙ next_word.1) more.1 in
    (again.0 ∙ taken_events o x xs at (piece_char piece) bytes opens, again.1 ∙ quiet_text o x xs w at (piece_char piece) bytes opens is)
value_quiet (Section chars rest) at ret o x xs w ws opens is found =
    let begin = at + length section_start in
    let end = section_end_at at chars in
    let next_word = chars_word_some chars w begin in
    let more = map_parts (λ z. placed begin chars ++ z) (marked end rest) ws found in
    let again = value_quiet rest end false (all_taken o begin false chars) (with_word x (word_behind_chars x.word begin chars)) xs next_word.0 more.0 (chars_opens chars o x xs begin false opens) (ap (λ z. word_behind_chars z begin chars) is ∙ next_word.1) more.1 in
    (again.0 ∙ chars_events chars o x xs begin false opens, again.1 ∙ chars_quiet chars o x xs w begin false opens is)
value_quiet (Comment chars rest) at ret o x xs w ws opens is found = value_quiet rest (comment_end_at at chars) false o x xs w ws opens is found
value_quiet (Hollow tag rest) at ret o x xs w ws opens is found = absurd cc
value_quiet (Element tag inner gap rest) at ret o x xs w ws opens is found = absurd cc

pub none_parts : (fs gs : List Fault) → fs ++ gs ≡ [] → (fs ≡ []) × (gs ≡ [])
none_parts [] gs h = (refl, h)
none_parts (f ∷ fs) gs h = absurd cc

chars_none : (cs : List ℕ) (p : ℕ) → word_behind_chars None p cs ≡ None
chars_none [] p = refl
chars_none (c ∷ cs) p = chars_none cs (p + length (encode_utf8 c))

-- content without a fault is kept as what it stands for
abbrev pub Stands : Content → ℕ → Bool → Outer → Bindings → List Nodes → Type 0
Stands c at ret o m stack = read_on (flushed (outer_behind c at ret o).events (outer_behind c at ret o).text) (NoNode ∷ stack) ≡ read_on o.events (with_text o.text (nodes_in m ret c) ∷ stack)

-- an element that begins with these nodes inside
pub opened_on : (o : Outer) (m : Bindings) (tag : Tag) (at : ℕ) (inner rest : Nodes) (stack : List Nodes) → (opened_by o tag at).bound ≡ m →
    read_on (started o (tag_read at tag)).events (inner ∷ rest ∷ stack) ≡ read_on o.events (with_text o.text (ElementThen (name_of m tag.name) (attrs_of m tag) inner rest) ∷ stack)
opened_on o m tag at inner rest stack bound =
    ap (λ es. read_on es (inner ∷ rest ∷ stack)) (started_events o m tag at bound)
    ∙ (read_on_append (flushed o.events o.text) (event.Open (name_of m tag.name) (read_attrs m (tag_read at tag).attributes) ∷ []) (inner ∷ rest ∷ stack)
    ∙ (ap (λ z. read_on (flushed o.events o.text) (ElementThen (name_of m tag.name) z inner rest ∷ stack)) (attrs_same m tag at)
    ∙ flushed_on o.events o.text (ElementThen (name_of m tag.name) (attrs_of m tag) inner rest) stack refl))

-- what is inside of an element
abbrev pub nodes_inside : Bindings → Tag → Content → Nodes
nodes_inside m tag inner = if is_value (name_of m tag.name) then QualifiedThen (qualified_in m inner) NoNode else nodes_in m false inner

some_marked : (m : Bindings) (at end : ℕ) (w : Option Marked) → content_faults_of m at end (word_of w) ≡ [] → (ws : Marked) × (w ≡ Some ws)
some_marked m at end None h = absurd cc
some_marked m at end (Some ws) h = (ws, refl)

pub element_contents : (o : Outer) (m : Bindings) (tag : Tag) (inner : Content) (at end : ℕ) (nodes : Nodes) (stack : List Nodes) → (opened_by o tag at).bound ≡ m →
    let begin = inner_at at tag in
    let begun = started o (tag_read at tag) in
    let within = outer_behind inner begin false begun in
    let y = opened_by o tag at in
    let z = with_word y (word_behind inner begin y.word) in
    element_faults m at begin end tag inner ≡ [] → (y.word ≡ None → Stands inner begin false begun y.bound (nodes ∷ stack)) →
    read_on (flushed within.events within.text) (read_on (qualified_event z.bound z.word ++ event.Close ∷ []) (nodes ∷ stack)) ≡ read_on begun.events (nodes_inside m tag inner ∷ nodes ∷ stack)
element_contents o m tag inner at end nodes stack bound faultless again =
    by (is_value_name (element_name m tag.name)) refl faultless
  where
    kept : (v : Bool) → is_value_name (element_name m tag.name) ≡ v → (opened_by o tag at).word ≡ (if v then Some (Some []) else None)
    kept v e = ap (λ n. word_in n tag.name) (bound) ∙ ap (λ b. if b then Some (Some []) else None) e

    inside : (v : Bool) → is_value_name (element_name m tag.name) ≡ v → nodes_inside m tag inner ≡ (if v then QualifiedThen (qualified_in m inner) NoNode else nodes_in m false inner)
    inside v e = ap (λ b. if b then QualifiedThen (qualified_in m inner) NoNode else nodes_in m false inner) (value_tested m tag.name ∙ e)

    by : (v : Bool) → is_value_name (element_name m tag.name) ≡ v → (if v then content_faults_of m at end (name_within (inner_at at tag) inner) else []) ≡ [] →
        (let within = outer_behind inner (inner_at at tag) false (started o (tag_read at tag)) in
        let y = opened_by o tag at in
        read_on (flushed within.events within.text) (read_on (qualified_event y.bound (word_behind inner (inner_at at tag) y.word) ++ event.Close ∷ []) (nodes ∷ stack)) ≡ read_on (started o (tag_read at tag)).events (nodes_inside m tag inner ∷ nodes ∷ stack))
    by false e none =
        let begin = inner_at at tag in
        let begun = started o (tag_read at tag) in
        let within = outer_behind inner begin false begun in
        let y = opened_by o tag at in
        let word : y.word ≡ None = kept false e in
        let behind : word_behind inner begin y.word ≡ None = ap (word_behind inner begin) word ∙ word_none inner begin in
        ap (λ w. read_on (flushed within.events within.text) (read_on (qualified_event y.bound w ++ event.Close ∷ []) (nodes ∷ stack))) behind
        ∙ (again word
        ∙ (ap (λ t. read_on begun.events (with_text t (nodes_in y.bound false inner) ∷ nodes ∷ stack)) (started_text o tag at)
        ∙ (ap (λ n. read_on begun.events (n ∷ nodes ∷ stack)) (no_text (nodes_in y.bound false inner))
        ∙ (ap (λ n. read_on begun.events (nodes_in n false inner ∷ nodes ∷ stack)) (bound)
        ∙ ap (λ n. read_on begun.events (n ∷ nodes ∷ stack)) (sym (inside false e))))))
    by true e none =
        let begin = inner_at at tag in
        let begun = started o (tag_read at tag) in
        let within = outer_behind inner begin false begun in
        let y = opened_by o tag at in
        let word : y.word ≡ Some (Some []) = kept true e in
        let behind : word_behind inner begin y.word ≡ Some (marked begin inner) = ap (word_behind inner begin) word ∙ word_whole inner begin in
        let found = some_marked m at end (marked begin inner) none in
        let quiet = value_quiet inner begin false begun y (spoiled o.opens) (Some []) found.0 (started_opens o tag at) word found.1 in
        let kept_events : flushed within.events within.text ≡ begun.events = ap (λ t. flushed within.events t) (quiet.1 ∙ started_text o tag at) ∙ quiet.0 in
        ap (λ w. read_on (flushed within.events within.text) (read_on (qualified_event y.bound w ++ event.Close ∷ []) (nodes ∷ stack))) behind
        ∙ (ap (λ q. read_on (flushed within.events within.text) (read_on (q ++ event.Close ∷ []) (nodes ∷ stack))) (qualified_read y.bound inner begin)
        ∙ (ap (λ es. read_on es (QualifiedThen (qualified_in y.bound inner) NoNode ∷ nodes ∷ stack)) kept_events
        ∙ (ap (λ n. read_on begun.events (QualifiedThen (qualified_in n inner) NoNode ∷ nodes ∷ stack)) (bound)
        ∙ ap (λ n. read_on begun.events (n ∷ nodes ∷ stack)) (sym (inside true e)))))

pub events_same : (c : Content) (at : ℕ) (ret : Bool) (o : Outer) (x : Open) (xs : List Open) → o.opens ≡ x ∷ xs → x.word ≡ None → faults_in x.bound (length (x ∷ xs)) at c ≡ [] → (stack : List Nodes) → Stands c at ret o x.bound stack
events_same Nothing at ret o x xs opens plain faultless stack = flushed_on o.events o.text NoNode stack refl
events_same (Text piece rest) at ret o x xs opens plain faultless stack =
    let end = at + length (spell_piece piece) in
    let bytes = piece_bytes ret piece in
    let around = taken o at (piece_char piece) bytes in
    let parts = none_parts (piece_faults at piece) (faults_in x.bound (length (x ∷ xs)) end rest) faultless in
    let text : around.text ≡ o.text ++ bytes = taken_text o x xs at (piece_char piece) bytes opens ∙ ap (λ z. text_after z o.text bytes) plain in
    events_same rest end (is_char 13 piece) around (with_word x (with_char x.word at (piece_char piece))) xs (taken_opens o x xs at (piece_char piece) bytes opens) (ap (λ z. with_char z at (piece_char piece)) plain) parts.1 stack
    ∙ (ap (λ es. read_on es (with_text around.text (nodes_in x.bound (is_char 13 piece) rest) ∷ stack)) (taken_events o x xs at (piece_char piece) bytes opens)
    ∙ (ap (λ t. read_on o.events (with_text t (nodes_in x.bound (is_char 13 piece) rest) ∷ stack)) text
    ∙ ap (λ n. read_on o.events (n ∷ stack)) (two_texts o.text bytes (nodes_in x.bound (is_char 13 piece) rest) ∙ ap (with_text o.text) (piece_text x.bound ret piece rest))))
events_same (Section chars rest) at ret o x xs opens plain faultless stack =
    let begin = at + length section_start in
    let around = all_taken o begin false chars in
    let text : around.text ≡ o.text ++ encode_utf8_all (line_ends false chars) = chars_text chars o x xs begin false opens plain in
    events_same rest (section_end_at at chars) false around (with_word x (word_behind_chars x.word begin chars)) xs (chars_opens chars o x xs begin false opens) (ap (λ z. word_behind_chars z begin chars) plain ∙ chars_none chars begin) faultless stack
    ∙ (ap (λ es. read_on es (with_text around.text (nodes_in x.bound false rest) ∷ stack)) (chars_events chars o x xs begin false opens)
    ∙ (ap (λ t. read_on o.events (with_text t (nodes_in x.bound false rest) ∷ stack)) text
    ∙ ap (λ n. read_on o.events (n ∷ stack)) (two_texts o.text (encode_utf8_all (line_ends false chars)) (nodes_in x.bound false rest))))
events_same (Comment chars rest) at ret o x xs opens plain faultless stack = events_same rest (comment_end_at at chars) false o x xs opens plain faultless stack
events_same (Hollow tag rest) at ret o x xs opens plain faultless stack =
    let end = hollow_end_at at tag in
    let other_end = at + (open_length tag + 1) in
    let level = length (x ∷ xs) in
    let m = bound_by tag x.bound in
    let around = hollowed o (tag_read at tag) in
    let nodes = nodes_in x.bound false rest in
    let parts = none_parts (tag_faults m level at other_end tag) (element_faults m at other_end other_end tag Nothing ++ faults_in x.bound level other_end rest) faultless in
    let more = none_parts (element_faults m at other_end other_end tag Nothing) (faults_in x.bound level other_end rest) parts.1 in
    let place : end ≡ other_end = omega arith in
    let rest_faultless : faults_in x.bound level end rest ≡ [] = ap (λ p. faults_in x.bound level p rest) place ∙ more.1 in
    events_same rest end false around (with_word x (spoiled_word x.word)) xs (hollowed_opens o x xs tag at opens) (ap spoiled_word plain) rest_faultless stack
    ∙ (ap (λ t. read_on around.events (with_text t nodes ∷ stack)) (hollowed_text o tag at)
    ∙ (ap (λ n. read_on around.events (n ∷ stack)) (no_text nodes)
    ∙ (ap (λ es. read_on es (nodes ∷ stack)) (hollowed_events o x xs tag at opens)
    ∙ (read_on_append (flushed o.events o.text) (event.Open (name_of m tag.name) (read_attrs m (tag_read at tag).attributes) ∷ event.Close ∷ []) (nodes ∷ stack)
    ∙ (ap (λ z. read_on (flushed o.events o.text) (ElementThen (name_of m tag.name) z NoNode nodes ∷ stack)) (attrs_same m tag at)
    ∙ flushed_on o.events o.text (ElementThen (name_of m tag.name) (attrs_of m tag) NoNode nodes) stack refl)))))
events_same (Element tag inner gap rest) at ret o x xs opens plain faultless stack =
    let begin = inner_at at tag in
    let end = element_end_at at tag inner gap in
    let other_end = begin + (length (spell_content inner) + close_length tag gap) in
    let level = length (x ∷ xs) in
    let m = bound_by tag x.bound in
    let begun = started o (tag_read at tag) in
    let within = outer_behind inner begin false begun in
    let y = opened_by o tag at in
    let z = with_word y (word_behind inner begin y.word) in
    let nodes = nodes_in x.bound false rest in
    let within_opens : within.opens ≡ z ∷ spoiled o.opens = opens_behind inner begun y (spoiled o.opens) begin false (started_opens o tag at) in
    let shut_opens : (closed within).opens ≡ with_word x (spoiled_word x.word) ∷ xs = closed_opens within z (spoiled o.opens) within_opens ∙ spoiled_opens o.opens x xs opens in
    let one = none_parts (tag_faults m level at begin tag) (faults_in m (level + 1) begin inner ++ (element_faults m at begin other_end tag inner ++ faults_in x.bound level other_end rest)) faultless in
    let two = none_parts (faults_in m (level + 1) begin inner) (element_faults m at begin other_end tag inner ++ faults_in x.bound level other_end rest) one.1 in
    let three = none_parts (element_faults m at begin other_end tag inner) (faults_in x.bound level other_end rest) two.1 in
    let place : end ≡ other_end = omega arith in
    let rest_faultless : faults_in x.bound level end rest ≡ [] = ap (λ p. faults_in x.bound level p rest) place ∙ three.1 in
    let bound : y.bound ≡ m = bound_around o x xs tag at opens in
    let depth : length (y ∷ spoiled o.opens) ≡ level + 1 = omega (arith, ap length (spoiled_opens o.opens x xs opens)) in
    let inner_faultless : faults_in y.bound (length (y ∷ spoiled o.opens)) begin inner ≡ [] = ap (λ l. faults_in y.bound l begin inner) depth ∙ (ap (λ n. faults_in n (level + 1) begin inner) bound ∙ two.0) in
    let inside = nodes_inside m tag inner in
    let contents : read_on (flushed within.events within.text) (read_on (qualified_event z.bound z.word ++ event.Close ∷ []) (nodes ∷ stack)) ≡ read_on begun.events (inside ∷ nodes ∷ stack) =
    element_contents o m tag inner at other_end nodes stack bound three.0 (λ word. events_same inner begin false begun y (spoiled o.opens) (started_opens o tag at) word inner_faultless (nodes ∷ stack)) in
    events_same rest end false (closed within) (with_word x (spoiled_word x.word)) xs shut_opens (ap spoiled_word plain) rest_faultless stack
    ∙ (ap (λ t. read_on (closed within).events (with_text t nodes ∷ stack)) (closed_text within z (spoiled o.opens) within_opens)
    ∙ (ap (λ n. read_on (closed within).events (n ∷ stack)) (no_text nodes)
    ∙ (ap (λ es. read_on es (nodes ∷ stack)) (closed_events within z (spoiled o.opens) within_opens)
    ∙ (read_on_append (flushed within.events within.text) (qualified_event z.bound z.word ++ event.Close ∷ []) (nodes ∷ stack)
    ∙ (contents ∙ opened_on o m tag at inside nodes stack bound)))))

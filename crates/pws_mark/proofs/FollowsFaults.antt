-- The faults that the reader notes over content are those of the content.
use Rattle.std.proofs.Common.{◌≡◌, ℕ, ◌+◌, Bool, true, false, not, ◌&&◌, ◌||◌, List, [], ◌∷◌, ◌++◌, map, length, refl, ap, subst, sym, ◌∙◌, arith, append_assoc, append-nil, Option, Some, None}
use Rattle.std.specs.Prelude.{option_map, encode_utf8, encode_utf8_all, if◌then◌else◌, filter}
use Rattle.std.specs.List.{list_any, filter_map, cons_option}
use Rattle.std.specs.Str.{bytes_eq}
use Rattle.pws_mark.specs.Bindings.{Bindings, xmlns_word, value_of, piece_char, is_char, is_bound, written_prefix, declared, declared_prefix, bound_by, are_twice, same_name, element_name}
use Rattle.pws_mark.specs.Canonical.{xml_word}
use Rattle.pws_mark.specs.Documents.{Attribute, Tag, Content, Nothing, Text, Section, Comment, Hollow, Element, spell_piece, spell_attribute, spell_content, section_start}
use Rattle.pws_mark.specs.Faults.{Fault, if_wrong, first_place, value_faults, attributes_faults, depth_faults, tag_faults, piece_faults, content_faults_of, is_value_name, is_wrong_attribute, is_wrong_name, element_faults, open_length, close_length, faults_in}
use Rattle.pws_mark.specs.Meaning.{name_within}
use Rattle.pws_mark.specs.Noted.{SameFaults, if_found, attributes_finds, tag_finds, start_finds, hollow_finds, end_finds, content_finds, word_finds, are_read_twice, read_name, is_wrong_read}
use Rattle.pws_mark.specs.States.{Open, Outer, bound_at, prefix_declared, read_declared, read_bound, word_in, with_char, started, hollowed, taken, spoiled}
use Rattle.pws_mark.specs.TokenLaws.{ending, attributes_read, tag_read, values_faults, early_faults, all_taken, piece_bytes}
use Rattle.pws_mark.specs.Tokens.{is_name}
use Rattle.pws_mark.specs.Values.{Marked, letters, marked, then_marked, placed}
use Rattle.pws_mark.specs.declared.errors.MarkKind.{MarkKind}
use Rattle.pws_mark.specs.declared.errors.MarkKind.TheVariants as kind
use Rattle.pws_mark.specs.declared.modes.ReadAttribute.{ReadAttribute}
use Rattle.pws_mark.proofs.SameFaults.{same_faults, then_same, same_by, both_same, same_shuffled, same_regrouped}
use Rattle.pws_mark.proofs.TakesPieces.{ending_found}
use Rattle.pws_mark.proofs.Following.{taken_opens, chars_opens, hollowed_opens, spoiled_opens, spoiled_word, outer_behind, found_in, word_behind, word_behind_chars, with_word, opened_by, opens_behind, started_opens, closed, closed_opens, inner_at, element_end_at, hollow_end_at, section_end_at, comment_end_at}

pub ending_append : (end : ℕ) (xs ys : List (MarkKind × ℕ)) → ending end (xs ++ ys) ≡ ending end xs ++ ending end ys
ending_append end [] ys = refl
ending_append end (x ∷ xs) ys = ap (λ z. record { kind = x.0; at = x.1; end = end } ∷ z) (ending_append end xs ys)

-- two names are twice
abbrev twice_names : Bindings → List ℕ → List ℕ → Bool
twice_names m a b = bytes_eq a b || same_name (read_name m a) (read_name m b)

seen_as_names : (m : Bindings) (a : Attribute) (seen : List Attribute) → list_any (are_twice m a) seen ≡ list_any (twice_names m a.name) (map (λ b. b.name) seen)
seen_as_names m a [] = refl
seen_as_names m a (b ∷ seen) = ap (λ z. are_twice m a b || z) (seen_as_names m a seen)

read_as_names : (m : Bindings) (a : ReadAttribute) (seen : List ReadAttribute) → list_any (are_read_twice m a) seen ≡ list_any (twice_names m a.name) (map (λ b. b.name) seen)
read_as_names m a [] = refl
read_as_names m a (b ∷ seen) = ap (λ z. are_read_twice m a b || z) (read_as_names m a seen)

wrong_same : (m : Bindings) (a : Attribute) (at : ℕ) (d : Option (List ℕ)) → is_wrong_read m (record { name = a.name; at = at; value = value_of a.value }) d ≡ is_wrong_attribute m a d
wrong_same m a at None = refl
wrong_same m a at (Some prefix) = refl

-- what is noted of the names of attributes, in two parts
ending_both : (end at : ℕ) (p t : Bool) (more : List (MarkKind × ℕ)) → ending end (if_found p kind.Prefix at ++ (if_found t kind.Twice at ++ more)) ≡ if_wrong p kind.Prefix at end ++ (if_wrong t kind.Twice at end ++ ending end more)
ending_both end at true true more = refl
ending_both end at true false more = refl
ending_both end at false true more = refl
ending_both end at false false more = refl

attributes_same : (m : Bindings) (end : ℕ) (more : List Attribute) (at : ℕ) (seen : List Attribute) (reads : List ReadAttribute) → map (λ b. b.name) reads ≡ map (λ b. b.name) seen →
    SameFaults (values_faults at more ++ ending end (attributes_finds m reads (attributes_read at more))) (attributes_faults m end at seen more)
attributes_same m end [] at seen reads names = same_faults []
attributes_same m end (a ∷ more) at seen reads names =
    let name_at = at + length (encode_utf8_all a.gap) in
    let value_at = name_at + (length (encode_utf8_all a.name) + (length (encode_utf8_all a.before) + (length (encode_utf8_all a.after) + 2))) in
    let next_at = at + length (spell_attribute a) in
    let r : ReadAttribute = record { name = a.name; at = name_at; value = value_of a.value } in
    let vs = value_faults value_at a.value in
    let ws = values_faults next_at more in
    let finds = attributes_finds m (r ∷ reads) (attributes_read next_at more) in
    let es = ending end finds in
    let ps = if_wrong (is_wrong_attribute m a (declared_prefix a)) kind.Prefix name_at end in
    let ts = if_wrong (list_any (are_twice m a) seen) kind.Twice name_at end in
    let wrong : is_wrong_read m r (prefix_declared a.name) ≡ is_wrong_attribute m a (declared_prefix a) = wrong_same m a name_at (declared_prefix a) in
    let twice : list_any (are_read_twice m r) reads ≡ list_any (are_twice m a) seen = read_as_names m r reads ∙ (ap (list_any (twice_names m a.name)) names ∙ sym (seen_as_names m a seen)) in
    let noted : ending end (if_found (is_wrong_read m r (prefix_declared a.name)) kind.Prefix name_at ++ (if_found (list_any (are_read_twice m r) reads) kind.Twice name_at ++ finds)) ≡ ps ++ (ts ++ es) =
    ending_both end name_at (is_wrong_read m r (prefix_declared a.name)) (list_any (are_read_twice m r) reads) finds
    ∙ (ap (λ b. if_wrong b kind.Prefix name_at end ++ (if_wrong (list_any (are_read_twice m r) reads) kind.Twice name_at end ++ es)) wrong ∙ ap (λ b. ps ++ (if_wrong b kind.Twice name_at end ++ es)) twice) in
    then_same _ ((vs ++ ws) ++ (ps ++ (ts ++ es))) _ (same_by _ _ (ap (λ z. (vs ++ ws) ++ z) noted))
    (then_same _ (ps ++ (ts ++ (vs ++ (ws ++ es)))) _ (same_shuffled vs ws ps ts es)
    (both_same ps ps _ _ (same_faults ps) (both_same ts ts _ _ (same_faults ts) (both_same vs vs _ _ (same_faults vs)
    (attributes_same m end more next_at (a ∷ seen) (r ∷ reads) (ap (λ z. a.name ∷ z) names))))))

pub tag_same : (m : Bindings) (level at end : ℕ) (tag : Tag) → SameFaults (early_faults level at tag ++ ending end (tag_finds m (tag_read at tag))) (tag_faults m level at end tag)
unfolding tag_finds
tag_same m level at end tag =
    let named_at = at + (1 + length (encode_utf8_all tag.name)) in
    let ds = depth_faults level at tag.name in
    let vs = values_faults named_at tag.attributes in
    let finds = attributes_finds m [] (attributes_read named_at tag.attributes) in
    let ns = if_wrong (is_wrong_name m tag.name) kind.Prefix (at + 1) end in
    let noted : ending end (if_found (is_wrong_name m tag.name) kind.Prefix (at + 1) ++ finds) ≡ ns ++ ending end finds = ending_append end (if_found (is_wrong_name m tag.name) kind.Prefix (at + 1)) finds ∙ ap (λ z. z ++ ending end finds) (ending_found (is_wrong_name m tag.name) kind.Prefix (at + 1) end) in
    then_same _ ((ds ++ vs) ++ (ns ++ ending end finds)) _ (same_by _ _ (ap (λ z. (ds ++ vs) ++ z) noted))
    (then_same _ (ds ++ (ns ++ (vs ++ ending end finds))) _ (same_regrouped ds vs ns (ending end finds))
    (both_same ds ds _ _ (same_faults ds) (both_same ns ns _ _ (same_faults ns) (attributes_same m end tag.attributes named_at [] [] refl))))

-- what attributes bind
declared_same : (more : List Attribute) (at : ℕ) → filter_map read_declared (attributes_read at more) ≡ filter_map declared more
declared_same [] at = refl
declared_same (a ∷ more) at = ap (cons_option (declared a)) (declared_same more (at + length (spell_attribute a)))

pub bound_same : (m : Bindings) (tag : Tag) (at : ℕ) → read_bound (tag_read at tag).attributes m ≡ bound_by tag m
unfolding read_bound bound_by
bound_same m tag at = ap (λ z. filter (λ b. not (bytes_eq b.0 xml_word) && not (bytes_eq b.0 xmlns_word)) z ++ m) (declared_same tag.attributes (at + (1 + length (encode_utf8_all tag.name))))

-- the content of a Value, and what it may become
pub word_none : (c : Content) (at : ℕ) → word_behind c at None ≡ None
word_none Nothing at = refl
word_none (Text piece rest) at = word_none rest (at + length (spell_piece piece))
word_none (Section chars rest) at = ap (word_behind rest (section_end_at at chars)) (by chars (at + length section_start)) ∙ word_none rest (section_end_at at chars)
  where
    by : (cs : List ℕ) (p : ℕ) → word_behind_chars None p cs ≡ None
    by [] p = refl
    by (c ∷ cs) p = by cs (p + length (encode_utf8 c))
word_none (Comment chars rest) at = word_none rest (comment_end_at at chars)
word_none (Hollow tag rest) at = word_none rest (hollow_end_at at tag)
word_none (Element tag inner gap rest) at = word_none rest (element_end_at at tag inner gap)

word_spoiled_chars : (cs : List ℕ) (p : ℕ) → word_behind_chars (Some None) p cs ≡ Some None
word_spoiled_chars [] p = refl
word_spoiled_chars (c ∷ cs) p = word_spoiled_chars cs (p + length (encode_utf8 c))

word_spoiled : (c : Content) (at : ℕ) → word_behind c at (Some None) ≡ Some None
word_spoiled Nothing at = refl
word_spoiled (Text piece rest) at = word_spoiled rest (at + length (spell_piece piece))
word_spoiled (Section chars rest) at = ap (word_behind rest (section_end_at at chars)) (word_spoiled_chars chars (at + length section_start)) ∙ word_spoiled rest (section_end_at at chars)
word_spoiled (Comment chars rest) at = word_spoiled rest (comment_end_at at chars)
word_spoiled (Hollow tag rest) at = word_spoiled rest (hollow_end_at at tag)
word_spoiled (Element tag inner gap rest) at = word_spoiled rest (element_end_at at tag inner gap)

word_chars : (cs : List ℕ) (p : ℕ) (before : Marked) → word_behind_chars (Some (Some before)) p cs ≡ Some (Some (before ++ placed p cs))
word_chars [] p before = ap (λ z. Some (Some z)) (sym (append-nil before))
word_chars (c ∷ cs) p before = word_chars cs (p + length (encode_utf8 c)) (before ++ (c, p) ∷ []) ∙ ap (λ z. Some (Some z)) (append_assoc before ((c, p) ∷ []) (placed (p + length (encode_utf8 c)) cs))

word_found : (c : Content) (at : ℕ) (before : Marked) → word_behind c at (Some (Some before)) ≡ Some (option_map (λ z. before ++ z) (marked at c))
word_found Nothing at before = ap (λ z. Some (Some z)) (sym (append-nil before))
word_found (Text piece rest) at before = by (piece_char piece) (λ b. word_found rest (at + length (spell_piece piece)) b)
  where
    joined : (c : ℕ) (more : Option Marked) → option_map (λ z. (before ++ (c, at) ∷ []) ++ z) more ≡ option_map (λ z. before ++ z) (then_marked (Some c) at more)
    joined c None = refl
    joined c (Some more) = ap (λ z. Some z) (append_assoc before ((c, at) ∷ []) more)

    by : (d : Option ℕ) → ((b : Marked) → word_behind rest (at + length (spell_piece piece)) (Some (Some b)) ≡ Some (option_map (λ z. b ++ z) (marked (at + length (spell_piece piece)) rest))) → word_behind rest (at + length (spell_piece piece)) (with_char (Some (Some before)) at d) ≡ Some (option_map (λ z. before ++ z) (then_marked d at (marked (at + length (spell_piece piece)) rest)))
    by None again = word_spoiled rest (at + length (spell_piece piece))
    by (Some c) again = again (before ++ (c, at) ∷ []) ∙ ap (λ z. Some z) (joined c (marked (at + length (spell_piece piece)) rest))
word_found (Section chars rest) at before =
    let end = section_end_at at chars in
    ap (word_behind rest end) (word_chars chars (at + length section_start) before) ∙ (word_found rest end (before ++ placed (at + length section_start) chars) ∙ ap (λ z. Some z) (joined (marked end rest)))
  where
    joined : (more : Option Marked) → option_map (λ z. (before ++ placed (at + length section_start) chars) ++ z) more ≡ option_map (λ z. before ++ z) (option_map (λ z. placed (at + length section_start) chars ++ z) more)
    joined None = refl
    joined (Some more) = ap (λ z. Some z) (append_assoc before (placed (at + length section_start) chars) more)
word_found (Comment chars rest) at before = word_found rest (comment_end_at at chars) before
word_found (Hollow tag rest) at before = word_spoiled rest (hollow_end_at at tag)
word_found (Element tag inner gap rest) at before = word_spoiled rest (element_end_at at tag inner gap)

-- what Value's content becomes
pub word_whole : (c : Content) (at : ℕ) → word_behind c at (Some (Some [])) ≡ Some (marked at c)
word_whole c at = word_found c at [] ∙ ap (λ z. Some z) (by (marked at c))
  where
    by : (w : Option Marked) → option_map (λ z. [] ++ z) w ≡ w
    by None = refl
    by (Some w) = refl

content_noted : (m : Bindings) (at end : ℕ) (w : Option Marked) → ending end (content_finds m at w) ≡ content_faults_of m at end w
content_noted m at end None = refl
content_noted m at end (Some word) = ending_found (not (is_bound m (written_prefix (letters word)))) kind.Prefix (first_place word) end

-- at the end of an element
pub end_noted : (m : Bindings) (name : List ℕ) (at within end : ℕ) (inner : Content) → ending end (word_finds m at (word_behind inner within (word_in m name))) ≡ (if is_value_name (element_name m name) then content_faults_of m at end (name_within within inner) else [])
end_noted m name at within end inner = by (is_value_name (element_name m name))
  where
    by : (v : Bool) → ending end (word_finds m at (word_behind inner within (if v then Some (Some []) else None))) ≡ (if v then content_faults_of m at end (name_within within inner) else [])
    by true = ap (λ w. ending end (word_finds m at w)) (word_whole inner within) ∙ content_noted m at end (name_within within inner)
    by false = ap (λ w. ending end (word_finds m at w)) (word_none inner within)

pub hollow_noted : (m : Bindings) (at end : ℕ) (tag : Tag) → if_wrong (is_value_name (element_name m tag.name)) kind.Syntax at end ≡ element_faults m at end end tag Nothing
unfolding is_name
hollow_noted m at end tag = by (is_value_name (element_name m tag.name))
  where
    by : (v : Bool) → if_wrong v kind.Syntax at end ≡ (if v then content_faults_of m at end (name_within end Nothing) else [])
    by true = refl
    by false = refl

pub regroup : (xs ys zs rs : List Fault) → (xs ++ (ys ++ zs)) ++ rs ≡ (xs ++ ys) ++ (zs ++ rs)
regroup xs ys zs rs = ap (λ z. z ++ rs) (sym (append_assoc xs ys zs)) ∙ append_assoc (xs ++ ys) zs rs

pub bound_around : (o : Outer) (x : Open) (xs : List Open) (tag : Tag) (at : ℕ) → o.opens ≡ x ∷ xs → read_bound (tag_read at tag).attributes (bound_at o.opens) ≡ bound_by tag x.bound
bound_around o x xs tag at opens = ap (λ os. read_bound (tag_read at tag).attributes (bound_at os)) opens ∙ bound_same x.bound tag at

pub faults_same : (c : Content) (at : ℕ) (ret : Bool) (o : Outer) (x : Open) (xs : List Open) → o.opens ≡ x ∷ xs → SameFaults (found_in c at ret o) (faults_in x.bound (length (x ∷ xs)) at c)
faults_same Nothing at ret o x xs opens = same_faults []
faults_same (Text piece rest) at ret o x xs opens =
    both_same (piece_faults at piece) (piece_faults at piece) _ _ (same_faults (piece_faults at piece))
    (faults_same rest (at + length (spell_piece piece)) (is_char 13 piece) (taken o at (piece_char piece) (piece_bytes ret piece)) (with_word x (with_char x.word at (piece_char piece))) xs (taken_opens o x xs at (piece_char piece) (piece_bytes ret piece) opens))
faults_same (Section chars rest) at ret o x xs opens =
    faults_same rest (section_end_at at chars) false (all_taken o (at + length section_start) false chars) (with_word x (word_behind_chars x.word (at + length section_start) chars)) xs (chars_opens chars o x xs (at + length section_start) false opens)
faults_same (Comment chars rest) at ret o x xs opens = faults_same rest (comment_end_at at chars) false o x xs opens
faults_same (Hollow tag rest) at ret o x xs opens =
    let end = hollow_end_at at tag in
    let level = length (x ∷ xs) in
    let m = bound_by tag x.bound in
    let value = if_wrong (is_value_name (element_name m tag.name)) kind.Syntax at end in
    let rest_found = found_in rest end false (hollowed o (tag_read at tag)) in
    let early = early_faults level at tag in
    let deep : early_faults (length o.opens) at tag ≡ early = ap (λ os. early_faults (length os) at tag) opens in
    let found : ending end (hollow_finds o (tag_read at tag)) ≡ ending end (tag_finds m (tag_read at tag)) ++ value =
    ap (λ n. ending end (tag_finds n (tag_read at tag) ++ if_found (is_value_name (element_name n tag.name)) kind.Syntax at)) (bound_around o x xs tag at opens)
    ∙ (ending_append end (tag_finds m (tag_read at tag)) (if_found (is_value_name (element_name m tag.name)) kind.Syntax at) ∙ ap (λ z. ending end (tag_finds m (tag_read at tag)) ++ z) (ending_found (is_value_name (element_name m tag.name)) kind.Syntax at end)) in
    let parted : (early_faults (length o.opens) at tag ++ ending end (hollow_finds o (tag_read at tag))) ++ rest_found ≡ (early ++ ending end (tag_finds m (tag_read at tag))) ++ (value ++ rest_found) =
    ap (λ z. (z ++ ending end (hollow_finds o (tag_read at tag))) ++ rest_found) deep ∙ (ap (λ z. (early ++ z) ++ rest_found) found ∙ regroup early (ending end (tag_finds m (tag_read at tag))) value rest_found) in
    let place : end ≡ at + (open_length tag + 1) = omega arith in
    subst (λ e. SameFaults ((early_faults (length o.opens) at tag ++ ending end (hollow_finds o (tag_read at tag))) ++ rest_found) (tag_faults m level at e tag ++ (element_faults m at e e tag Nothing ++ faults_in x.bound level e rest))) place
    (then_same _ _ _ (same_by _ _ parted)
    (both_same _ (tag_faults m level at end tag) _ _ (tag_same m level at end tag)
    (both_same value (element_faults m at end end tag Nothing) _ _ (same_by _ _ (hollow_noted m at end tag))
    (faults_same rest end false (hollowed o (tag_read at tag)) (with_word x (spoiled_word x.word)) xs (hollowed_opens o x xs tag at opens)))))
faults_same (Element tag inner gap rest) at ret o x xs opens =
    let begin = inner_at at tag in
    let end = element_end_at at tag inner gap in
    let level = length (x ∷ xs) in
    let m = bound_by tag x.bound in
    let begun = started o (tag_read at tag) in
    let within = outer_behind inner begin false begun in
    let y = opened_by o tag at in
    let z = with_word y (word_behind inner begin y.word) in
    let within_opens : within.opens ≡ z ∷ spoiled o.opens = opens_behind inner begun y (spoiled o.opens) begin false (started_opens o tag at) in
    let shut_opens : (closed within).opens ≡ with_word x (spoiled_word x.word) ∷ xs = closed_opens within z (spoiled o.opens) within_opens ∙ spoiled_opens o.opens x xs opens in
    let bound : y.bound ≡ m = bound_around o x xs tag at opens in
    let early = early_faults level at tag in
    let starts : early_faults (length o.opens) at tag ++ ending begin (start_finds o (tag_read at tag)) ≡ early ++ ending begin (tag_finds m (tag_read at tag)) =
    ap (λ os. early_faults (length os) at tag ++ ending begin (start_finds o (tag_read at tag))) opens ∙ ap (λ n. early ++ ending begin (tag_finds n (tag_read at tag))) bound in
    let depth : length (y ∷ spoiled o.opens) ≡ level + 1 = omega (arith, ap length (spoiled_opens o.opens x xs opens)) in
    let inner_same : SameFaults (found_in inner begin false begun) (faults_in m (level + 1) begin inner) =
    subst (λ n. SameFaults (found_in inner begin false begun) (faults_in n (level + 1) begin inner)) bound
    (subst (λ l. SameFaults (found_in inner begin false begun) (faults_in y.bound l begin inner)) depth (faults_same inner begin false begun y (spoiled o.opens) (started_opens o tag at))) in
    let ends : ending end (end_finds within.opens) ≡ element_faults m at begin end tag inner =
    ap (λ os. ending end (end_finds os)) within_opens ∙ (end_noted y.bound tag.name at begin end inner ∙ ap (λ n. if is_value_name (element_name n tag.name) then content_faults_of n at end (name_within begin inner) else []) bound) in
    let place : end ≡ begin + (length (spell_content inner) + close_length tag gap) = omega arith in
    subst (λ e. SameFaults (found_in (Element tag inner gap rest) at ret o) (tag_faults m level at begin tag ++ (faults_in m (level + 1) begin inner ++ (element_faults m at begin e tag inner ++ faults_in x.bound level e rest)))) place
    (both_same _ (tag_faults m level at begin tag) _ _ (then_same _ _ _ (same_by _ _ starts) (tag_same m level at begin tag))
    (both_same _ (faults_in m (level + 1) begin inner) _ _ inner_same
    (both_same _ (element_faults m at begin end tag inner) _ _ (same_by _ _ ends)
    (faults_same rest end false (closed within) (with_word x (spoiled_word x.word)) xs shut_opens))))

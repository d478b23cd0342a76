-- The reader follows whole documents.
use Rattle.std.proofs.Common.{◌≡◌, ◌≢◌, ℕ, ◌+◌, Bool, true, false, ◌&&◌, List, [], ◌∷◌, ◌++◌, length, refl, ap, subst, sym, ◌∙◌, arith, length-append, append_assoc, append-nil, Some}
use Rattle.std.specs.Prelude.{◌==◌, encode_utf8, encode_utf8_all, if◌then◌else◌}
use Rattle.std.specs.List.{list_all}
use Rattle.std.proofs.lemmas.Bool.{and_parts, not_from_false}
use lib.Utf8.{encode}
use Rattle.pws_tree.specs.Characters.{is_name_start, name_start_ranges}
use Rattle.pws_tree.specs.Trees.{NoNode, ElementThen}
use Rattle.pws_mark.specs.Bindings.{bound_by, outermost, element_name}
use Rattle.pws_mark.specs.Documents.{Char, Entity, Decimal, Hexadecimal, Tag, Content, Nothing, Text, Section, Comment, Hollow, Element, spell_tag, spell_content, spell_head, spell_prolog, comment_start, comment_end}
use Rattle.pws_mark.specs.Faults.{Fault, if_wrong, open_length, close_length, tag_faults, element_faults, faults_in, is_value_name, content_faults_of}
use Rattle.pws_mark.specs.Grammar.{is_tag, is_content, is_misc, is_root, is_declaration}
use Rattle.pws_mark.specs.Meaning.{name_of, attrs_of, nodes_in, first_tree, name_within}
use Rattle.pws_mark.specs.Noted.{noted, finds, SameFaults, if_found, tag_finds, start_finds, hollow_finds, end_finds}
use Rattle.pws_mark.specs.ReaderLaws.{DocumentsAreFollowed}
use Rattle.pws_mark.specs.Scan.{next, run, region, region_in, start, outside, is_whole, content_step}
use Rattle.pws_mark.specs.Spelling.{write, write_head, write_content, write_tag}
use Rattle.pws_mark.specs.States.{Open, Outer, read_attrs, started, hollowed, ended, is_empty, qualified_event, flushed}
use Rattle.pws_mark.specs.TokenLaws.{Goes, state, ending, tag_read, early_faults, may_follow}
use Rattle.pws_mark.specs.Tokens.{is_white, is_name, goes_on, is_comment}
use Rattle.pws_mark.specs.declared.errors.MarkKind.TheVariants as kind
use Rattle.pws_mark.specs.declared.modes.Event.TheVariants as event
use Rattle.pws_mark.specs.declared.modes.Mode.TheVariants as mode
use Rattle.pws_mark.specs.declared.modes.Region.{Region}
use Rattle.pws_mark.specs.declared.modes.Region.TheVariants as region_is
use Rattle.pws_mark.proofs.Going.{goes_on_to, goes_at, goes_once, goes_nowhere, other}
use Rattle.pws_mark.proofs.SameFaults.{then_same, same_by, both_same}
use Rattle.pws_mark.proofs.TakesComments.{comments_are_taken}
use Rattle.pws_mark.proofs.TakesEnds.{ends_are_taken}
use Rattle.pws_mark.proofs.TakesHeads.{heads_are_taken}
use Rattle.pws_mark.proofs.TakesTags.{starts_are_taken, hollows_are_taken}
use Rattle.pws_mark.proofs.TakesPieces.{ending_found}
use Rattle.pws_mark.proofs.Following.{outer_behind, found_in, marks_behind, return_behind, word_behind, with_word, opened_by, opens_behind, started_opens, closed, closed_in, closed_opens, inner_at, close_at, element_end_at, hollow_end_at, comment_end_at, content_goes, fits_none, element_back, element_size, comment_back}
use Rattle.pws_mark.proofs.FollowsFaults.{tag_same, end_noted, hollow_noted, ending_append, bound_same, faults_same}
use Rattle.pws_mark.proofs.FollowsEvents.{read_on, read_events_on, read_on_append, no_text, opened_on, nodes_inside, element_contents, closed_events, attrs_same, none_parts, events_same}

outside_of : Region → Bool
outside_of region_is.Inside = false
outside_of _ = true

-- white space outside of the element
space_goes : (o : Outer) (at c : ℕ) → outside_of (region o) ≡ true → is_white c ≡ true → next (mode.Content 0 false) o at c ≡ Some (mode.Content 0 false, o)
unfolding next outside_of
space_goes o at c out white = by (region o) out
  where
    by : (r : Region) → outside_of r ≡ true → content_step r o at 0 false c ≡ Some (mode.Content 0 false, o)
    by region_is.Before h = rw white refl
    by region_is.Behind h = rw white refl
    by region_is.Inside h = absurd cc

misc_goes : (c : Content) (at : ℕ) (o : Outer) → outside_of (region o) ≡ true → is_misc c ≡ true → Goes (state at (mode.Content 0 false) o) (write_content c) (state (at + length (spell_content c)) (mode.Content 0 false) o) []
unfolding finds
misc_goes Nothing at o out lawful = goes_at (state at (mode.Content 0 false) o) [] (mode.Content 0 false) o [] at (at + 0) (omega arith) (goes_nowhere (state at (mode.Content 0 false) o))
misc_goes (Text (Char c) rest) at o out lawful =
    let parts = and_parts (is_white c) (is_misc rest) lawful in
    goes_at (state at (mode.Content 0 false) o) (c ∷ write_content rest) (mode.Content 0 false) o [] (at + length (encode_utf8 c) + length (spell_content rest)) (at + length (encode_utf8 c ++ spell_content rest))
    (omega (arith, length-append (encode_utf8 c) (spell_content rest)))
    (goes_on_to _ _ _ (c ∷ []) (write_content rest) [] [] (goes_once (mode.Content 0 false) (mode.Content 0 false) o o at c [] (space_goes o at c out parts.0) refl) (misc_goes rest (at + length (encode_utf8 c)) o out parts.1))
misc_goes (Text (Entity n) rest) at o out lawful = absurd cc
misc_goes (Text (Decimal n) rest) at o out lawful = absurd cc
misc_goes (Text (Hexadecimal n) rest) at o out lawful = absurd cc
misc_goes (Section chars rest) at o out lawful = absurd cc
misc_goes (Comment chars rest) at o out lawful =
    let parts = and_parts (is_comment chars) (is_misc rest) lawful in
    let end = comment_end_at at chars in
    let size = length (spell_content (Comment chars rest)) in
    subst (λ cs. Goes (state at (mode.Content 0 false) o) cs (state (at + size) (mode.Content 0 false) o) []) (comment_back chars (write_content rest))
    (goes_at (state at (mode.Content 0 false) o) ((comment_start ++ (chars ++ comment_end)) ++ write_content rest) (mode.Content 0 false) o [] (end + length (spell_content rest)) (at + size)
    (omega (arith, ap length (comment_back (encode_utf8_all chars) (spell_content rest)), length-append (comment_start ++ (encode_utf8_all chars ++ comment_end)) (spell_content rest)))
    (goes_on_to _ _ _ (comment_start ++ (chars ++ comment_end)) (write_content rest) [] [] (comments_are_taken o at 0 false chars parts.0) (misc_goes rest end o out parts.1)))
misc_goes (Hollow tag rest) at o out lawful = absurd cc
misc_goes (Element tag inner gap rest) at o out lawful = absurd cc

-- the < of the element
root_opens : (at : ℕ) → Goes (state at (mode.Content 0 false) outside) (60 ∷ []) (state (at + 1) (mode.Opened at) outside) []
unfolding next finds encode
root_opens at = goes_once (mode.Content 0 false) (mode.Opened at) outside outside at 60 [] refl refl

before_root : region outside ≢ region_is.Behind
before_root e = absurd cc

-- what is around behind the element, and the faults that are noted in it
pub record RootGoes (c : Content) (at : ℕ) : Type 0 where
  pub last : Outer
  pub fs : List Fault
  pub goes : Goes (state at (mode.Content 0 false) outside) (write_content c) (state (at + length (spell_content c)) (mode.Content 0 false) last) fs
  pub shut : last.opens ≡ []
  pub behind : last.behind ≡ true
  pub notes : SameFaults fs (faults_in outermost 0 at c)
  pub builds : faults_in outermost 0 at c ≡ [] → read_on last.events (NoNode ∷ []) ≡ nodes_in outermost false c ∷ []

hollow_around : (tag : Tag) (at : ℕ) → let m = bound_by tag outermost in hollowed outside (tag_read at tag) ≡ record { opens = []; behind = true; events = event.Open (name_of m tag.name) (read_attrs m (tag_read at tag).attributes) ∷ event.Close ∷ []; text = [] }
unfolding hollowed
hollow_around tag at = ap (λ m. record { opens = []; behind = true; events = event.Open (name_of m tag.name) (read_attrs m (tag_read at tag).attributes) ∷ event.Close ∷ []; text = [] }) (bound_same outermost tag at)

closed_behind : (o : Outer) (x : Open) → o.opens ≡ x ∷ [] → (closed o).behind ≡ true
unfolding ended
closed_behind o x h = ap (λ os. (closed_in os o).behind) h

element_built : (tag : Tag) (inner : Content) (gap : List ℕ) (at : ℕ) → faults_in outermost 0 at (Element tag inner gap Nothing) ≡ [] →
    read_on (closed (outer_behind inner (inner_at at tag) false (started outside (tag_read at tag)))).events (NoNode ∷ []) ≡ nodes_in outermost false (Element tag inner gap Nothing) ∷ []
element_built tag inner gap at faultless =
    let begin = inner_at at tag in
    let other_end = begin + (length (spell_content inner) + close_length tag gap) in
    let m = bound_by tag outermost in
    let begun = started outside (tag_read at tag) in
    let within = outer_behind inner begin false begun in
    let y = opened_by outside tag at in
    let z = with_word y (word_behind inner begin y.word) in
    let within_opens : within.opens ≡ z ∷ [] = opens_behind inner begun y [] begin false (started_opens outside tag at) in
    let bound : y.bound ≡ m = bound_same outermost tag at in
    let one = none_parts (tag_faults m 0 at begin tag) (faults_in m 1 begin inner ++ (element_faults m at begin other_end tag inner ++ [])) faultless in
    let two = none_parts (faults_in m 1 begin inner) (element_faults m at begin other_end tag inner ++ []) one.1 in
    let three = none_parts (element_faults m at begin other_end tag inner) [] two.1 in
    let inner_faultless : faults_in y.bound 1 begin inner ≡ [] = ap (λ n. faults_in n 1 begin inner) bound ∙ two.0 in
    let inside = nodes_inside m tag inner in
    let contents : read_on (flushed within.events within.text) (read_on (qualified_event z.bound z.word ++ event.Close ∷ []) (NoNode ∷ [])) ≡ read_on begun.events (inside ∷ NoNode ∷ []) =
    element_contents outside m tag inner at other_end NoNode [] bound three.0 (λ word. events_same inner begin false begun y [] (started_opens outside tag at) word inner_faultless (NoNode ∷ [])) in
    ap (λ es. read_on es (NoNode ∷ [])) (closed_events within z [] within_opens)
    ∙ (read_on_append (flushed within.events within.text) (qualified_event z.bound z.word ++ event.Close ∷ []) (NoNode ∷ [])
    ∙ (contents ∙ (opened_on outside m tag at inside NoNode [] bound ∙ ap (λ n. n ∷ []) (no_text (ElementThen (name_of m tag.name) (attrs_of m tag) inside NoNode)))))

hollow_root : (tag : Tag) (at : ℕ) → is_tag tag ≡ true → RootGoes (Hollow tag Nothing) at
hollow_root tag at lawful =
    let end = hollow_end_at at tag in
    let m = bound_by tag outermost in
    let around = hollowed outside (tag_read at tag) in
    let early = early_faults 0 at tag in
    let noted_there = early ++ ending end (hollow_finds outside (tag_read at tag)) in
    let value = if_wrong (is_value_name (element_name m tag.name)) kind.Syntax at end in
    let found : ending end (hollow_finds outside (tag_read at tag)) ≡ ending end (tag_finds m (tag_read at tag)) ++ value =
    ap (λ n. ending end (tag_finds n (tag_read at tag) ++ if_found (is_value_name (element_name n tag.name)) kind.Syntax at)) (bound_same outermost tag at)
    ∙ (ending_append end (tag_finds m (tag_read at tag)) (if_found (is_value_name (element_name m tag.name)) kind.Syntax at) ∙ ap (λ z. ending end (tag_finds m (tag_read at tag)) ++ z) (ending_found (is_value_name (element_name m tag.name)) kind.Syntax at end)) in
    let place : end ≡ at + (open_length tag + 1) = omega arith in
    record {
      last = around;
      fs = noted_there;
      goes = goes_at (state at (mode.Content 0 false) outside) (60 ∷ (write_tag tag ++ 47 ∷ 62 ∷ [])) (mode.Content 0 false) around noted_there end (at + length (spell_content (Hollow tag Nothing)))
          (omega (arith, length-append (spell_tag tag) (47 ∷ 62 ∷ [])))
          (goes_on_to _ _ _ (60 ∷ []) (write_tag tag ++ 47 ∷ 62 ∷ []) [] noted_there (root_opens at) (hollows_are_taken outside at tag before_root lawful));
      shut = ap (λ o. o.opens) (hollow_around tag at);
      behind = ap (λ o. o.behind) (hollow_around tag at);
      notes =
          subst (λ e. SameFaults noted_there (tag_faults m 0 at e tag ++ (element_faults m at e e tag Nothing ++ []))) place
          (then_same _ _ _ (same_by _ _ (ap (λ z. early ++ z) found ∙ sym (append_assoc early (ending end (tag_finds m (tag_read at tag))) value)))
          (both_same _ (tag_faults m 0 at end tag) _ _ (tag_same m 0 at end tag)
          (same_by _ _ (hollow_noted m at end tag ∙ sym (append-nil (element_faults m at end end tag Nothing))))));
      builds = λ faultless. ap (λ o. read_on o.events (NoNode ∷ [])) (hollow_around tag at) ∙ ap (λ z. ElementThen (name_of m tag.name) z NoNode NoNode ∷ []) (attrs_same m tag at);
    }

element_root : (tag : Tag) (inner : Content) (gap : List ℕ) (at : ℕ) → is_content (Element tag inner gap Nothing) ≡ true → RootGoes (Element tag inner gap Nothing) at
element_root tag inner gap at lawful =
    let one = and_parts (is_tag tag) (is_content inner && (list_all is_white gap && true)) lawful in
    let two = and_parts (is_content inner) (list_all is_white gap && true) one.1 in
    let three = and_parts (list_all is_white gap) true two.1 in
    let name = and_parts (is_name tag.name) _ one.0 in
    let begin = inner_at at tag in
    let end = element_end_at at tag inner gap in
    let m = bound_by tag outermost in
    let begun = started outside (tag_read at tag) in
    let within = outer_behind inner begin false begun in
    let y = opened_by outside tag at in
    let z = with_word y (word_behind inner begin y.word) in
    let within_opens : within.opens ≡ z ∷ [] = opens_behind inner begun y [] begin false (started_opens outside tag at) in
    let shut_is : ended z [] within.events within.text ≡ closed within = ap (λ os. closed_in os within) (sym within_opens) in
    let bound : y.bound ≡ m = bound_same outermost tag at in
    let fs = early_faults 0 at tag ++ ending begin (start_finds outside (tag_read at tag)) in
    let gs = found_in inner begin false begun in
    let hs = ending end (end_finds within.opens) in
    let size = length (spell_content (Element tag inner gap Nothing)) in
    let last = 60 ∷ 47 ∷ (tag.name ++ (gap ++ 62 ∷ [])) in
    let ends : Goes (state (close_at at tag inner) (mode.Content (marks_behind inner 0) (return_behind inner false)) within) last (state end (mode.Content 0 false) (closed within)) hs =
    subst (λ w. Goes (state (close_at at tag inner) (mode.Content (marks_behind inner 0) (return_behind inner false)) within) last (state end (mode.Content 0 false) w) hs) shut_is
    (ends_are_taken within z [] (close_at at tag inner) (marks_behind inner 0) (return_behind inner false) gap within_opens name.0 three.0) in
    let chars : (60 ∷ (write_tag tag ++ 62 ∷ [])) ++ (write_content inner ++ last) ≡ write_content (Element tag inner gap Nothing) =
    ap (λ w. (60 ∷ (write_tag tag ++ 62 ∷ [])) ++ (write_content inner ++ w)) (sym (append-nil last)) ∙ element_back tag gap (write_content inner) [] in
    let long : end ≡ at + size = omega (arith, element_size tag gap (spell_content inner) [] at) in
    let ends_noted : hs ≡ element_faults m at begin end tag inner =
    ap (λ os. ending end (end_finds os)) within_opens ∙ (end_noted y.bound tag.name at begin end inner ∙ ap (λ n. if is_value_name (element_name n tag.name) then content_faults_of n at end (name_within begin inner) else []) bound) in
    let place : end ≡ begin + (length (spell_content inner) + close_length tag gap) = omega arith in
    record {
      last = closed within;
      fs = fs ++ (gs ++ hs);
      goes = subst (λ cs. Goes (state at (mode.Content 0 false) outside) cs (state (at + size) (mode.Content 0 false) (closed within)) (fs ++ (gs ++ hs))) chars
          (goes_at (state at (mode.Content 0 false) outside) ((60 ∷ (write_tag tag ++ 62 ∷ [])) ++ (write_content inner ++ last)) (mode.Content 0 false) (closed within) (fs ++ (gs ++ hs)) end (at + size) long
          (goes_on_to _ _ _ (60 ∷ (write_tag tag ++ 62 ∷ [])) (write_content inner ++ last) fs (gs ++ hs)
          (goes_on_to _ _ _ (60 ∷ []) (write_tag tag ++ 62 ∷ []) [] fs (root_opens at) (starts_are_taken outside at tag before_root one.0))
          (goes_on_to _ _ _ (write_content inner) last gs hs (content_goes inner begin 0 false begun y [] (started_opens outside tag at) two.0 (fits_none inner)) ends)));
      shut = closed_opens within z [] within_opens;
      behind = closed_behind within z within_opens;
      notes =
          subst (λ e. SameFaults (fs ++ (gs ++ hs)) (tag_faults m 0 at begin tag ++ (faults_in m 1 begin inner ++ (element_faults m at begin e tag inner ++ [])))) place
          (both_same _ (tag_faults m 0 at begin tag) _ _ (then_same _ _ _ (same_by _ _ (ap (λ n. early_faults 0 at tag ++ ending begin (tag_finds n (tag_read at tag))) bound)) (tag_same m 0 at begin tag))
          (both_same _ (faults_in m 1 begin inner) _ _ (subst (λ n. SameFaults gs (faults_in n 1 begin inner)) bound (faults_same inner begin false begun y [] (started_opens outside tag at)))
          (same_by _ _ (ends_noted ∙ sym (append-nil (element_faults m at begin end tag inner))))));
      builds = λ faultless. element_built tag inner gap at faultless;
    }

pub root_goes : (c : Content) (at : ℕ) → is_root c ≡ true → is_content c ≡ true → RootGoes c at
root_goes Nothing at root lawful = absurd cc
root_goes (Text p rest) at root lawful = absurd cc
root_goes (Section chars rest) at root lawful = absurd cc
root_goes (Comment chars rest) at root lawful = absurd cc
root_goes (Hollow tag Nothing) at root lawful = hollow_root tag at (and_parts (is_tag tag) true lawful).0
root_goes (Hollow tag (Text p r)) at root lawful = absurd cc
root_goes (Hollow tag (Section p r)) at root lawful = absurd cc
root_goes (Hollow tag (Comment p r)) at root lawful = absurd cc
root_goes (Hollow tag (Hollow p r)) at root lawful = absurd cc
root_goes (Hollow tag (Element p i g r)) at root lawful = absurd cc
root_goes (Element tag inner gap Nothing) at root lawful = element_root tag inner gap at lawful
root_goes (Element tag inner gap (Text p r)) at root lawful = absurd cc
root_goes (Element tag inner gap (Section p r)) at root lawful = absurd cc
root_goes (Element tag inner gap (Comment p r)) at root lawful = absurd cc
root_goes (Element tag inner gap (Hollow p r)) at root lawful = absurd cc
root_goes (Element tag inner gap (Element p i g r)) at root lawful = absurd cc

starts_follow : (name a b rest : List ℕ) → is_name name ≡ true → may_follow (60 ∷ (((name ++ a) ++ b) ++ rest)) ≡ true
unfolding is_name name_start_ranges
starts_follow [] a b rest lawful = absurd cc
starts_follow (c ∷ cs) a b rest lawful = not_from_false (c == 63) (other is_name_start c 63 (and_parts (is_name_start c) (goes_on false cs) lawful).0 refl)

white_follows : (c : ℕ) (cs : List ℕ) → is_white c ≡ true → may_follow (c ∷ cs) ≡ true
white_follows c [] white = white
white_follows c (d ∷ cs) white = rw white refl

comment_follows : (cs : List ℕ) → may_follow (comment_start ++ cs) ≡ true
unfolding comment_start
comment_follows cs = refl

-- behind the head of a document comes white space or a tag, and no instruction
root_follows : (root : Content) (rest : List ℕ) → is_root root ≡ true → is_content root ≡ true → may_follow (write_content root ++ rest) ≡ true
root_follows Nothing rest root lawful = absurd cc
root_follows (Text p r) rest root lawful = absurd cc
root_follows (Section p r) rest root lawful = absurd cc
root_follows (Comment p r) rest root lawful = absurd cc
root_follows (Hollow tag r) rest root lawful = starts_follow tag.name _ _ rest (and_parts (is_name tag.name) _ (and_parts (is_tag tag) (is_content r) lawful).0).0
root_follows (Element tag inner gap r) rest root lawful = starts_follow tag.name _ _ rest (and_parts (is_name tag.name) _ (and_parts (is_tag tag) _ lawful).0).0

misc_follows : (before : Content) (rest : List ℕ) → is_misc before ≡ true → may_follow rest ≡ true → may_follow (write_content before ++ rest) ≡ true
misc_follows Nothing rest lawful may = may
misc_follows (Text (Char c) r) rest lawful may = white_follows c (write_content r ++ rest) (and_parts (is_white c) (is_misc r) lawful).0
misc_follows (Text (Entity n) r) rest lawful may = absurd cc
misc_follows (Text (Decimal n) r) rest lawful may = absurd cc
misc_follows (Text (Hexadecimal n) r) rest lawful may = absurd cc
misc_follows (Section p r) rest lawful may = absurd cc
misc_follows (Comment p r) rest lawful may = subst (λ cs. may_follow cs ≡ true) (sym (append_assoc comment_start (p ++ (comment_end ++ write_content r)) rest)) (comment_follows ((p ++ (comment_end ++ write_content r)) ++ rest))
misc_follows (Hollow p r) rest lawful may = absurd cc
misc_follows (Element p i g r) rest lawful may = absurd cc

out_before : outside_of (region outside) ≡ true
unfolding outside_of
out_before = refl

out_behind : (o : Outer) → o.opens ≡ [] → o.behind ≡ true → outside_of (region o) ≡ true
unfolding outside_of
out_behind o none behind = ap (λ os. outside_of (region_in os o.behind)) none ∙ ap (λ b. outside_of (region_in [] b)) behind

ends_whole : (o : Outer) (at : ℕ) → o.opens ≡ [] → o.behind ≡ true → is_whole (state at (mode.Content 0 false) o) ≡ true
ends_whole o at none behind = ap (λ os. is_empty os && o.behind) none ∙ behind

nodes_are : (c : Content) → is_root c ≡ true → let t = first_tree (nodes_in outermost false c) in nodes_in outermost false c ≡ ElementThen t.name t.attrs t.children NoNode
nodes_are Nothing root = absurd cc
nodes_are (Text p r) root = absurd cc
nodes_are (Section p r) root = absurd cc
nodes_are (Comment p r) root = absurd cc
nodes_are (Hollow tag Nothing) root = refl
nodes_are (Hollow tag (Text p r)) root = absurd cc
nodes_are (Hollow tag (Section p r)) root = absurd cc
nodes_are (Hollow tag (Comment p r)) root = absurd cc
nodes_are (Hollow tag (Hollow p r)) root = absurd cc
nodes_are (Hollow tag (Element p i g r)) root = absurd cc
nodes_are (Element tag inner gap Nothing) root = refl
nodes_are (Element tag inner gap (Text p r)) root = absurd cc
nodes_are (Element tag inner gap (Section p r)) root = absurd cc
nodes_are (Element tag inner gap (Comment p r)) root = absurd cc
nodes_are (Element tag inner gap (Hollow p r)) root = absurd cc
nodes_are (Element tag inner gap (Element p i g r)) root = absurd cc

pub documents_are_followed : DocumentsAreFollowed
documents_are_followed d lawful =
    let one = and_parts (is_declaration d.declaration) (is_misc d.before && ((is_root d.root && is_content d.root) && is_misc d.after)) lawful in
    let two = and_parts (is_misc d.before) ((is_root d.root && is_content d.root) && is_misc d.after) one.1 in
    let three = and_parts (is_root d.root && is_content d.root) (is_misc d.after) two.1 in
    let four = and_parts (is_root d.root) (is_content d.root) three.0 in
    let cs = write_content d.before ++ (write_content d.root ++ write_content d.after) in
    let may = misc_follows d.before (write_content d.root ++ write_content d.after) two.0 (root_follows d.root (write_content d.after) four.0 four.1) in
    let head = heads_are_taken d cs one.0 may in
    let begin = length (spell_head d) in
    let root_at = begin + length (spell_content d.before) in
    let root = root_goes d.root root_at four.0 four.1 in
    let end = root_at + length (spell_content d.root) in
    let last = state (end + length (spell_content d.after)) (mode.Content 0 false) root.last in
    let whole_run : Goes (state begin (mode.Content 0 false) outside) cs last (root.fs ++ []) =
    goes_on_to (state begin (mode.Content 0 false) outside) (state root_at (mode.Content 0 false) outside) last (write_content d.before) (write_content d.root ++ write_content d.after) [] (root.fs ++ []) (misc_goes d.before begin outside out_before two.0)
    (goes_on_to (state root_at (mode.Content 0 false) outside) (state end (mode.Content 0 false) root.last) last (write_content d.root) (write_content d.after) root.fs [] root.goes (misc_goes d.after end root.last (out_behind root.last root.shut root.behind) three.1)) in
    let written : write d ≡ write_head d ++ cs = append_assoc (write_head d) (write_content d.before) (write_content d.root ++ write_content d.after) in
    let prolog : root_at ≡ length (spell_prolog d) = sym (length-append (spell_head d) (spell_content d.before)) in
    let noted_all : noted start (write d) ≡ root.fs = ap (noted start) written ∙ (head.notes ∙ (whole_run.notes ∙ append-nil root.fs)) in
    record {
      last = last;
      runs = ap (run start) written ∙ (head.runs ∙ whole_run.runs);
      whole = ends_whole root.last (end + length (spell_content d.after)) root.shut root.behind;
      notes = then_same _ root.fs _ (same_by _ _ noted_all) (subst (λ p. SameFaults root.fs (faults_in outermost 0 p d.root)) prolog root.notes);
      builds = λ faultless. read_events_on root.last.events ∙ (root.builds (ap (λ p. faults_in outermost 0 p d.root) prolog ∙ faultless) ∙ ap (λ n. n ∷ []) (nodes_are d.root four.0));
    }

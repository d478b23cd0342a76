-- What was read of a document: the elements that are open with their content so far, and how it may go on to a whole one.
use Rattle.std.proofs.Common.{◌≡◌, ◌⊎◌, inl, inr, ℕ, ◌+◌, ◌≤◌, ◌<◌, Bool, true, false, not, ◌&&◌, List, [], ◌∷◌, ◌++◌, map, refl, ap, sym, ◌∙◌, arith, append_assoc, append-nil, Option}
use Rattle.std.specs.Prelude.{◌==◌, if◌then◌else◌}
use Rattle.std.specs.List.{list_all}
use Rattle.std.proofs.lemmas.Bool.{and_parts, and_from, not-true, not_from_false, eqb-true, eqb-false, eq-eqb, cases_lt}
use Rattle.pws_tree.specs.Characters.{name_start_ranges}
use Rattle.pws_mark.specs.Bindings.{is_char}
use Rattle.pws_mark.specs.Documents.{Piece, Char, Entity, Decimal, Hexadecimal, Tag, Content, Nothing, Text, Section, Comment, Hollow, Element, Declaration, Document, section_start, section_end, comment_start, comment_end}
use Rattle.pws_mark.specs.Grammar.{is_tag, is_content, is_misc, is_root, is_declaration, is_document}
use Rattle.pws_mark.specs.Spelling.{write_piece, write_tag, write_content, write_declaration, write}
use Rattle.pws_mark.specs.States.{Open, Outer}
use Rattle.pws_mark.specs.TokenLaws.{brackets_behind}
use Rattle.pws_mark.specs.Tokens.{is_white, is_name, is_piece, is_text_char, is_section, is_comment}
use Rattle.pws_mark.proofs.Following.{marks_behind, Fits}

-- content behind content
abbrev pub join_content : Content → Content → Content
join_content Nothing c = c
join_content (Text p a) c = Text p (join_content a c)
join_content (Section chars a) c = Section chars (join_content a c)
join_content (Comment chars a) c = Comment chars (join_content a c)
join_content (Hollow tag a) c = Hollow tag (join_content a c)
join_content (Element tag inner gap a) c = Element tag inner gap (join_content a c)

pub write_join : (a c : Content) → write_content (join_content a c) ≡ write_content a ++ write_content c
write_join Nothing c = refl
write_join (Text p a) c = ap (λ z. write_piece p ++ z) (write_join a c) ∙ sym (append_assoc (write_piece p) (write_content a) (write_content c))
write_join (Section chars a) c =
    ap (λ z. section_start ++ (chars ++ (section_end ++ z))) (write_join a c)
    ∙ (ap (λ z. section_start ++ (chars ++ z)) (sym (append_assoc section_end (write_content a) (write_content c)))
    ∙ (ap (λ z. section_start ++ z) (sym (append_assoc chars (section_end ++ write_content a) (write_content c)))
    ∙ sym (append_assoc section_start (chars ++ (section_end ++ write_content a)) (write_content c))))
write_join (Comment chars a) c =
    ap (λ z. comment_start ++ (chars ++ (comment_end ++ z))) (write_join a c)
    ∙ (ap (λ z. comment_start ++ (chars ++ z)) (sym (append_assoc comment_end (write_content a) (write_content c)))
    ∙ (ap (λ z. comment_start ++ z) (sym (append_assoc chars (comment_end ++ write_content a) (write_content c)))
    ∙ sym (append_assoc comment_start (chars ++ (comment_end ++ write_content a)) (write_content c))))
write_join (Hollow tag a) c =
    ap (λ z. 60 ∷ (write_tag tag ++ 47 ∷ 62 ∷ z)) (write_join a c) ∙ ap (λ z. 60 ∷ z) (sym (append_assoc (write_tag tag) (47 ∷ 62 ∷ write_content a) (write_content c)))
write_join (Element tag inner gap a) c =
    let last = gap ++ 62 ∷ write_content a in
    ap (λ z. 60 ∷ (write_tag tag ++ 62 ∷ (write_content inner ++ 60 ∷ 47 ∷ (tag.name ++ (gap ++ 62 ∷ z))))) (write_join a c)
    ∙ (ap (λ z. 60 ∷ (write_tag tag ++ 62 ∷ (write_content inner ++ 60 ∷ 47 ∷ (tag.name ++ z)))) (sym (append_assoc gap (62 ∷ write_content a) (write_content c)))
    ∙ (ap (λ z. 60 ∷ (write_tag tag ++ 62 ∷ (write_content inner ++ 60 ∷ 47 ∷ z))) (sym (append_assoc tag.name last (write_content c)))
    ∙ (ap (λ z. 60 ∷ (write_tag tag ++ 62 ∷ z)) (sym (append_assoc (write_content inner) (60 ∷ 47 ∷ (tag.name ++ last)) (write_content c)))
    ∙ ap (λ z. 60 ∷ z) (sym (append_assoc (write_tag tag) (62 ∷ (write_content inner ++ 60 ∷ 47 ∷ (tag.name ++ last))) (write_content c))))))

-- content behind so many of ]]
abbrev pub lawful_from : ℕ → Content → Bool
lawful_from n Nothing = true
lawful_from n (Text p a) = is_piece is_text_char p && (not (n == 2 && is_char 62 p) && lawful_from (brackets_behind n p) a)
lawful_from n (Section chars a) = is_section chars && lawful_from 0 a
lawful_from n (Comment chars a) = is_comment chars && lawful_from 0 a
lawful_from n (Hollow tag a) = is_tag tag && lawful_from 0 a
lawful_from n (Element tag inner gap a) = is_tag tag && (is_content inner && (list_all is_white gap && lawful_from 0 a))

and_more : (a b c : Bool) → (a && b) ≡ true → (b ≡ true → c ≡ true) → (a && c) ≡ true
and_more true b c h f = f h
and_more false b c h f = absurd cc

pub lawful_join : (a c : Content) (n : ℕ) → lawful_from n a ≡ true → lawful_from (marks_behind a n) c ≡ true → lawful_from n (join_content a c) ≡ true
lawful_join Nothing c n h g = g
lawful_join (Text p a) c n h g = and_more (is_piece is_text_char p) _ _ h (λ i. and_more (not (n == 2 && is_char 62 p)) _ _ i (λ j. lawful_join a c (brackets_behind n p) j g))
lawful_join (Section chars a) c n h g = and_more (is_section chars) _ _ h (λ i. lawful_join a c 0 i g)
lawful_join (Comment chars a) c n h g = and_more (is_comment chars) _ _ h (λ i. lawful_join a c 0 i g)
lawful_join (Hollow tag a) c n h g = and_more (is_tag tag) _ _ h (λ i. lawful_join a c 0 i g)
lawful_join (Element tag inner gap a) c n h g = and_more (is_tag tag) _ _ h (λ i. and_more (is_content inner) _ _ i (λ j. and_more (list_all is_white gap) _ _ j (λ k. lawful_join a c 0 k g)))

pub marks_join : (a c : Content) (n : ℕ) → marks_behind (join_content a c) n ≡ marks_behind c (marks_behind a n)
marks_join Nothing c n = refl
marks_join (Text p a) c n = marks_join a c (brackets_behind n p)
marks_join (Section chars a) c n = marks_join a c 0
marks_join (Comment chars a) c n = marks_join a c 0
marks_join (Hollow tag a) c n = marks_join a c 0
marks_join (Element tag inner gap a) c n = marks_join a c 0

-- such content is content of the grammar
pub record IsFrom (n : ℕ) (c : Content) : Type 0 where
  pub lawful : is_content c ≡ true
  pub fits : Fits n c

few_behind : (n : ℕ) (p : Piece) → n < 3 → brackets_behind n p < 3
few_behind n p few = by (is_char 93 p) (n == 2) (eqb-true n 2) refl
  where
    by : (a b : Bool) → (b ≡ true → n ≡ 2) → (n == 2) ≡ b → (if a then (if b then 2 else n + 1) else 0) < 3
    by false b h e = omega arith
    by true true h e = omega arith
    by true false h e = differ (cases_lt n 2)
      where
        differ : (n < 2) ⊎ (2 ≤ n) → n + 1 < 3
        differ (inl below) = omega arith
        differ (inr above) = absurd (eqb-false n 2 e (omega arith))

second : (a b : Bool) → a ≡ true → (a && b) ≡ false → b ≡ false
second true b h g = g
second false b h g = absurd cc

first_false : (a b : Bool) → (a ≡ true → b ≡ false) → (a && b) ≡ false
first_false true b f = f refl
first_false false b f = refl

-- a piece and what is behind it
text_is : (n : ℕ) (p : Piece) (a : Content) → n < 3 → is_piece is_text_char p ≡ true → (n == 2 && is_char 62 p) ≡ false → IsFrom (brackets_behind n p) a → IsFrom n (Text p a)
unfolding section_end
text_is n (Char c) a few lawful free behind =
    record {
      lawful = and_from _ _ lawful (and_from _ _ (not_from_false _ (first_false (93 == c) _ (λ e. behind.fits.more (some e)))) behind.lawful);
      fits = record {
        last = λ two. ap (λ z. z && true) (second (n == 2) (62 == c) (eq-eqb n 2 two) free);
        more = λ some_before. first_false (93 == c) _ (λ e. behind.fits.last (full e some_before));
      };
    }
  where
    some : (93 == c) ≡ true → 1 ≤ (if 93 == c then (if n == 2 then 2 else n + 1) else 0)
    some e = rw e (by (n == 2))
      where
        by : (b : Bool) → 1 ≤ (if b then 2 else n + 1)
        by true = omega arith
        by false = omega arith

    full : (93 == c) ≡ true → 1 ≤ n → (if 93 == c then (if n == 2 then 2 else n + 1) else 0) ≡ 2
    full e before = rw e (by (n == 2) refl)
      where
        by : (b : Bool) → (n == 2) ≡ b → (if b then 2 else n + 1) ≡ 2
        by true g = refl
        by false g = one (cases_lt n 2)
          where
            one : (n < 2) ⊎ (2 ≤ n) → n + 1 ≡ 2
            one (inl below) = omega arith
            one (inr above) = absurd (eqb-false n 2 g (omega arith))
text_is n (Entity name) a few lawful free behind = record { lawful = and_from _ _ lawful behind.lawful; fits = record { last = λ e. refl; more = λ e. refl } }
text_is n (Decimal name) a few lawful free behind = record { lawful = and_from _ _ lawful behind.lawful; fits = record { last = λ e. refl; more = λ e. refl } }
text_is n (Hexadecimal name) a few lawful free behind = record { lawful = and_from _ _ lawful behind.lawful; fits = record { last = λ e. refl; more = λ e. refl } }

pub lawful_is : (c : Content) (n : ℕ) → n < 3 → lawful_from n c ≡ true → IsFrom n c
unfolding section_end
lawful_is Nothing n few h = record { lawful = refl; fits = record { last = λ e. refl; more = λ e. refl } }
lawful_is (Text p a) n few h =
    let one = and_parts (is_piece is_text_char p) _ h in
    let two = and_parts (not (n == 2 && is_char 62 p)) (lawful_from (brackets_behind n p) a) one.1 in
    text_is n p a few one.0 (not-true _ two.0) (lawful_is a (brackets_behind n p) (few_behind n p few) two.1)
lawful_is (Section chars a) n few h =
    let parts = and_parts (is_section chars) (lawful_from 0 a) h in
    record { lawful = and_from _ _ parts.0 (lawful_is a 0 (omega arith) parts.1).lawful; fits = record { last = λ e. refl; more = λ e. refl } }
lawful_is (Comment chars a) n few h =
    let parts = and_parts (is_comment chars) (lawful_from 0 a) h in
    record { lawful = and_from _ _ parts.0 (lawful_is a 0 (omega arith) parts.1).lawful; fits = record { last = λ e. refl; more = λ e. refl } }
lawful_is (Hollow tag a) n few h =
    let parts = and_parts (is_tag tag) (lawful_from 0 a) h in
    record { lawful = and_from _ _ parts.0 (lawful_is a 0 (omega arith) parts.1).lawful; fits = record { last = λ e. refl; more = λ e. refl } }
lawful_is (Element tag inner gap a) n few h =
    let one = and_parts (is_tag tag) _ h in
    let two = and_parts (is_content inner) _ one.1 in
    let three = and_parts (list_all is_white gap) (lawful_from 0 a) two.1 in
    record { lawful = and_from _ _ one.0 (and_from _ _ two.0 (and_from _ _ three.0 (lawful_is a 0 (omega arith) three.1).lawful)); fits = record { last = λ e. refl; more = λ e. refl } }

-- an open element: its tag, and its content so far
pub record Frame : Type 0 where
  pub tag : Tag
  pub done : Content

-- the open elements, the innermost first, as they are written, and how they are closed
abbrev pub write_frame : Frame → List ℕ
write_frame f = 60 ∷ (write_tag f.tag ++ 62 ∷ write_content f.done)

abbrev pub write_frames : List Frame → List ℕ
write_frames [] = []
write_frames (f ∷ fs) = write_frames fs ++ write_frame f

abbrev pub rest_frames : List Frame → List ℕ
rest_frames [] = []
rest_frames (f ∷ fs) = 60 ∷ 47 ∷ (f.tag.name ++ 62 ∷ rest_frames fs)

-- the whole element, where this content comes last in the innermost
abbrev pub close : List Frame → Content → Content
close [] c = c
close (f ∷ fs) c = close fs (Element f.tag (join_content f.done c) [] Nothing)

abbrev pub LawfulFrames : List Frame → Type 0
LawfulFrames [] = Unit {0}
LawfulFrames (f ∷ fs) = ((is_tag f.tag ≡ true) × (lawful_from 0 f.done ≡ true)) × LawfulFrames fs

pub write_close : (fs : List Frame) (c : Content) → write_content (close fs c) ≡ write_frames fs ++ (write_content c ++ rest_frames fs)
write_close [] c = sym (append-nil (write_content c))
write_close (f ∷ fs) c =
    let inner = write_content f.done ++ write_content c in
    let rest = rest_frames fs in
    let name = f.tag.name in
    write_close fs (Element f.tag (join_content f.done c) [] Nothing)
    ∙ (ap (λ z. write_frames fs ++ ((60 ∷ (write_tag f.tag ++ 62 ∷ (z ++ 60 ∷ 47 ∷ (name ++ 62 ∷ [])))) ++ rest)) (write_join f.done c)
    ∙ (ap (λ z. write_frames fs ++ z) (around f.tag (write_content f.done) (write_content c) rest)
    ∙ sym (append_assoc (write_frames fs) (write_frame f) (write_content c ++ rest_frames (f ∷ fs)))))
  where
    around : (tag : Tag) (done more rest : List ℕ) → (60 ∷ (write_tag tag ++ 62 ∷ ((done ++ more) ++ 60 ∷ 47 ∷ (tag.name ++ 62 ∷ [])))) ++ rest ≡ (60 ∷ (write_tag tag ++ 62 ∷ done)) ++ (more ++ 60 ∷ 47 ∷ (tag.name ++ 62 ∷ rest))
    around tag done more rest = simp append_assoc

-- the innermost content goes on
pub close_lawful : (f : Frame) (fs : List Frame) (c : Content) → LawfulFrames (f ∷ fs) → lawful_from (marks_behind f.done 0) c ≡ true → (is_root (close (f ∷ fs) c) ≡ true) × (is_content (close (f ∷ fs) c) ≡ true)
close_lawful f [] c lawful more =
    let inner : is_content (join_content f.done c) ≡ true = (lawful_is (join_content f.done c) 0 (omega arith) (lawful_join f.done c 0 lawful.0.1 more)).lawful in
    (refl, and_from _ _ lawful.0.0 (and_from _ _ inner refl))
close_lawful f (g ∷ gs) c lawful more =
    let inner : is_content (join_content f.done c) ≡ true = (lawful_is (join_content f.done c) 0 (omega arith) (lawful_join f.done c 0 lawful.0.1 more)).lawful in
    close_lawful g gs (Element f.tag (join_content f.done c) [] Nothing) lawful.1 (and_from _ _ lawful.0.0 (and_from _ _ inner refl))

-- what stands before the element: a byte order mark or none, a declaration or none, and comments and white space
pub record Head : Type 0 where
  pub mark : Bool
  pub declaration : Option Declaration
  pub before : Content

abbrev pub write_front : Head → List ℕ
write_front h = ((if h.mark then 0xFEFF ∷ [] else []) ++ write_declaration h.declaration) ++ write_content h.before

pub record LawfulHead (h : Head) : Type 0 where
  pub declaration : is_declaration h.declaration ≡ true
  pub before : is_misc h.before ≡ true

-- where the reader stands in a document: before its element, inside of it, or behind it
pub data Context : Type 0 where
  Before : Head → Context
  Inside : Head → Frame → List Frame → Context
  Behind : Head → Content → Content → Context

abbrev pub written : Context → List ℕ
written (Before h) = write_front h
written (Inside h f fs) = write_front h ++ write_frames (f ∷ fs)
written (Behind h root after) = write_front h ++ (write_content root ++ write_content after)

pub record LawfulRoot (c d : Content) : Type 0 where
  pub root : is_root c ≡ true
  pub content : is_content c ≡ true
  pub after : is_misc d ≡ true

abbrev pub LawfulContext : Context → Type 0
LawfulContext (Before h) = LawfulHead h
LawfulContext (Inside h f fs) = LawfulHead h × LawfulFrames (f ∷ fs)
LawfulContext (Behind h root after) = LawfulHead h × LawfulRoot root after

abbrev pub head_of : Context → Head
head_of (Before h) = h
head_of (Inside h f fs) = h
head_of (Behind h root after) = h

-- the shortest element
abbrev pub short_tag : Tag
short_tag = record { name = 97 ∷ []; attributes = []; gap = [] }

abbrev pub document_with : Head → Content → Content → Document
document_with h root after = record { mark = h.mark; declaration = h.declaration; before = h.before; root = root; after = after }

-- a whole document that begins so, and what is behind
abbrev pub finish : Context → Document
finish (Before h) = document_with h (Hollow short_tag Nothing) Nothing
finish (Inside h f fs) = document_with h (close (f ∷ fs) Nothing) Nothing
finish (Behind h root after) = document_with h root after

abbrev pub rest_of : Context → List ℕ
rest_of (Before h) = 60 ∷ 97 ∷ 47 ∷ 62 ∷ []
rest_of (Inside h f fs) = rest_frames (f ∷ fs)
rest_of (Behind h root after) = []

short_lawful : is_tag short_tag ≡ true
unfolding is_name name_start_ranges
short_lawful = refl

pub write_finish : (x : Context) → write (finish x) ≡ written x ++ rest_of x
write_finish (Before h) = refl
write_finish (Inside h f fs) = ap (λ z. write_front h ++ z) (append-nil (write_content (close (f ∷ fs) Nothing)) ∙ write_close (f ∷ fs) Nothing) ∙ sym (append_assoc (write_front h) (write_frames (f ∷ fs)) (rest_frames (f ∷ fs)))
write_finish (Behind h root after) = sym (append-nil (write_front h ++ (write_content root ++ write_content after)))

pub finish_lawful : (x : Context) → LawfulContext x → is_document (finish x) ≡ true
finish_lawful (Before h) lawful = and_from _ _ lawful.declaration (and_from _ _ lawful.before (and_from _ _ (and_from _ _ short_lawful refl) refl))
finish_lawful (Inside h f fs) lawful =
    let closed = close_lawful f fs Nothing lawful.1 refl in
    and_from _ _ lawful.0.declaration (and_from _ _ lawful.0.before (and_from _ _ (and_from _ _ closed.0 closed.1) refl))
finish_lawful (Behind h root after) lawful =
    and_from _ _ lawful.0.declaration (and_from _ _ lawful.0.before (and_from _ _ (and_from _ _ lawful.1.root lawful.1.content) lawful.1.after))

-- the open elements have the names of the frames
abbrev pub names_of : List Open → List (List ℕ)
names_of opens = map (λ x. x.name) opens

abbrev pub frame_names : List Frame → List (List ℕ)
frame_names fs = map (λ f. f.tag.name) fs

abbrev pub Agrees : Context → Outer → Type 0
Agrees (Before h) o = (o.opens ≡ []) × (o.behind ≡ false)
Agrees (Inside h f fs) o = names_of o.opens ≡ frame_names (f ∷ fs)
Agrees (Behind h root after) o = (o.opens ≡ []) × (o.behind ≡ true)

-- what was read is a context and then these characters
pub record At (o : Outer) (front part : List ℕ) : Type 0 where
  pub context : Context
  pub lawful : LawfulContext context
  pub agrees : Agrees context o
  pub front_is : front ≡ written context ++ part

abbrev pub is_inside : Context → Bool
is_inside (Inside h f fs) = true
is_inside _ = false

abbrev pub may_open : Context → Bool
may_open (Behind h root after) = false
may_open _ = true

misc_join : (a c : Content) → is_misc a ≡ true → is_misc c ≡ true → is_misc (join_content a c) ≡ true
misc_join Nothing c h g = g
misc_join (Text (Char d) a) c h g = and_more (is_white d) _ _ h (λ i. misc_join a c i g)
misc_join (Text (Entity n) a) c h g = absurd cc
misc_join (Text (Decimal n) a) c h g = absurd cc
misc_join (Text (Hexadecimal n) a) c h g = absurd cc
misc_join (Section cs a) c h g = absurd cc
misc_join (Comment cs a) c h g = and_more (is_comment cs) _ _ h (λ i. misc_join a c i g)
misc_join (Hollow tag a) c h g = absurd cc
misc_join (Element tag inner gap a) c h g = absurd cc

-- content at the end of what was read
abbrev pub with_content : Context → Content → Context
with_content (Before h) c = Before (record { mark = h.mark; declaration = h.declaration; before = join_content h.before c })
with_content (Inside h f fs) c = Inside h (record { tag = f.tag; done = join_content f.done c }) fs
with_content (Behind h root after) c = Behind h root (join_content after c)

pub written_with : (x : Context) (c : Content) → written (with_content x c) ≡ written x ++ write_content c
written_with (Before h) c = ap (λ z. ((if h.mark then 0xFEFF ∷ [] else []) ++ write_declaration h.declaration) ++ z) (write_join h.before c) ∙ sym (append_assoc ((if h.mark then 0xFEFF ∷ [] else []) ++ write_declaration h.declaration) (write_content h.before) (write_content c))
written_with (Inside h f fs) c =
    ap (λ z. write_front h ++ (write_frames fs ++ (60 ∷ (write_tag f.tag ++ 62 ∷ z)))) (write_join f.done c)
    ∙ frames_on (write_front h) (write_frames fs) (write_tag f.tag) (write_content f.done) (write_content c)
  where
    frames_on : (front before tag done more : List ℕ) → front ++ (before ++ (60 ∷ (tag ++ 62 ∷ (done ++ more)))) ≡ (front ++ (before ++ (60 ∷ (tag ++ 62 ∷ done)))) ++ more
    frames_on front before tag done more = simp append_assoc
written_with (Behind h root after) c = ap (λ z. write_front h ++ (write_content root ++ z)) (write_join after c) ∙ behind_on (write_front h) (write_content root) (write_content after) (write_content c)
  where
    behind_on : (front root after more : List ℕ) → front ++ (root ++ (after ++ more)) ≡ (front ++ (root ++ after)) ++ more
    behind_on front root after more = simp append_assoc

-- what may stand there: comments and white space outside of the element
abbrev pub MayStand : Context → Content → Type 0
MayStand (Before h) c = is_misc c ≡ true
MayStand (Inside h f fs) c = lawful_from (marks_behind f.done 0) c ≡ true
MayStand (Behind h root after) c = is_misc c ≡ true

pub lawful_with : (x : Context) (c : Content) → LawfulContext x → MayStand x c → LawfulContext (with_content x c)
lawful_with (Before h) c lawful may = record { declaration = lawful.declaration; before = misc_join h.before c lawful.before may }
lawful_with (Inside h f fs) c lawful may = (lawful.0, ((lawful.1.0.0, lawful_join f.done c 0 lawful.1.0.1 may), lawful.1.1))
lawful_with (Behind h root after) c lawful may = (lawful.0, record { root = lawful.1.root; content = lawful.1.content; after = misc_join after c lawful.1.after may })

pub agrees_with : (x : Context) (c : Content) (o p : Outer) → names_of p.opens ≡ names_of o.opens → p.behind ≡ o.behind → Agrees x o → Agrees (with_content x c) p
agrees_with (Before h) c o p names behind agrees = (no_names p.opens (names ∙ ap names_of agrees.0), behind ∙ agrees.1)
  where
    no_names : (os : List Open) → names_of os ≡ [] → os ≡ []
    no_names [] e = refl
    no_names (x ∷ xs) e = absurd cc
agrees_with (Inside h f fs) c o p names behind agrees = names ∙ agrees
agrees_with (Behind h root after) c o p names behind agrees = (no_names p.opens (names ∙ ap names_of agrees.0), behind ∙ agrees.1)
  where
    no_names : (os : List Open) → names_of os ≡ [] → os ≡ []
    no_names [] e = refl
    no_names (x ∷ xs) e = absurd cc

-- an element is opened
abbrev pub opened_in : Context → Tag → Context
opened_in (Before h) tag = Inside h (record { tag = tag; done = Nothing }) []
opened_in (Inside h f fs) tag = Inside h (record { tag = tag; done = Nothing }) (f ∷ fs)
opened_in (Behind h root after) tag = Behind h root after

pub written_opened : (x : Context) (tag : Tag) → may_open x ≡ true → written (opened_in x tag) ≡ written x ++ (60 ∷ (write_tag tag ++ 62 ∷ []))
written_opened (Before h) tag may = refl
written_opened (Inside h f fs) tag may = sym (append_assoc (write_front h) (write_frames (f ∷ fs)) (60 ∷ (write_tag tag ++ 62 ∷ [])))
written_opened (Behind h root after) tag may = absurd cc

pub lawful_opened : (x : Context) (tag : Tag) → may_open x ≡ true → LawfulContext x → is_tag tag ≡ true → LawfulContext (opened_in x tag)
lawful_opened (Before h) tag may lawful is = (lawful, ((is, refl), tt))
lawful_opened (Inside h f fs) tag may lawful is = (lawful.0, ((is, refl), lawful.1))
lawful_opened (Behind h root after) tag may lawful is = absurd cc

-- an empty tag
abbrev pub hollowed_in : Context → Tag → Context
hollowed_in (Before h) tag = Behind h (Hollow tag Nothing) Nothing
hollowed_in (Inside h f fs) tag = with_content (Inside h f fs) (Hollow tag Nothing)
hollowed_in (Behind h root after) tag = Behind h root after

pub written_hollowed : (x : Context) (tag : Tag) → may_open x ≡ true → written (hollowed_in x tag) ≡ written x ++ (60 ∷ (write_tag tag ++ 47 ∷ 62 ∷ []))
written_hollowed (Before h) tag may = ap (λ z. write_front h ++ z) (append-nil (60 ∷ (write_tag tag ++ 47 ∷ 62 ∷ [])))
written_hollowed (Inside h f fs) tag may = written_with (Inside h f fs) (Hollow tag Nothing)
written_hollowed (Behind h root after) tag may = absurd cc

pub lawful_hollowed : (x : Context) (tag : Tag) → may_open x ≡ true → LawfulContext x → is_tag tag ≡ true → LawfulContext (hollowed_in x tag)
lawful_hollowed (Before h) tag may lawful is = (lawful, record { root = refl; content = and_from _ _ is refl; after = refl })
lawful_hollowed (Inside h f fs) tag may lawful is = lawful_with (Inside h f fs) (Hollow tag Nothing) lawful (and_from _ _ is refl)
lawful_hollowed (Behind h root after) tag may lawful is = absurd cc

-- the innermost element is closed
abbrev pub closed_in_context : Context → List ℕ → Context
closed_in_context (Before h) gap = Before h
closed_in_context (Inside h f []) gap = Behind h (Element f.tag f.done gap Nothing) Nothing
closed_in_context (Inside h f (g ∷ gs)) gap = Inside h (record { tag = g.tag; done = join_content g.done (Element f.tag f.done gap Nothing) }) gs
closed_in_context (Behind h root after) gap = Behind h root after

abbrev pub innermost : Context → List ℕ
innermost (Before h) = []
innermost (Inside h f fs) = f.tag.name
innermost (Behind h root after) = []

pub written_closed : (x : Context) (gap : List ℕ) → is_inside x ≡ true → written (closed_in_context x gap) ≡ written x ++ (60 ∷ 47 ∷ (innermost x ++ (gap ++ 62 ∷ [])))
written_closed (Before h) gap inside = absurd cc
written_closed (Inside h f []) gap inside = one (write_front h) (write_tag f.tag) (write_content f.done) f.tag.name
  where
    one : (front tag done name : List ℕ) → front ++ ((60 ∷ (tag ++ 62 ∷ (done ++ 60 ∷ 47 ∷ (name ++ (gap ++ 62 ∷ []))))) ++ []) ≡ (front ++ (60 ∷ (tag ++ 62 ∷ done))) ++ (60 ∷ 47 ∷ (name ++ (gap ++ 62 ∷ [])))
    one front tag done name = simp (append_assoc, append-nil)
written_closed (Inside h f (g ∷ gs)) gap inside =
    ap (λ z. write_front h ++ (write_frames gs ++ (60 ∷ (write_tag g.tag ++ 62 ∷ z)))) (write_join g.done (Element f.tag f.done gap Nothing))
    ∙ two (write_front h) (write_frames gs) (write_tag g.tag) (write_content g.done) (write_tag f.tag) (write_content f.done) f.tag.name
  where
    two : (front before outer outer_done tag done name : List ℕ) → front ++ (before ++ (60 ∷ (outer ++ 62 ∷ (outer_done ++ (60 ∷ (tag ++ 62 ∷ (done ++ 60 ∷ 47 ∷ (name ++ (gap ++ 62 ∷ []))))))))) ≡ (front ++ ((before ++ (60 ∷ (outer ++ 62 ∷ outer_done))) ++ (60 ∷ (tag ++ 62 ∷ done)))) ++ (60 ∷ 47 ∷ (name ++ (gap ++ 62 ∷ [])))
    two front before outer outer_done tag done name = simp append_assoc
written_closed (Behind h root after) gap inside = absurd cc

pub lawful_closed : (x : Context) (gap : List ℕ) → is_inside x ≡ true → LawfulContext x → list_all is_white gap ≡ true → LawfulContext (closed_in_context x gap)
lawful_closed (Before h) gap inside lawful white = absurd cc
lawful_closed (Inside h f []) gap inside lawful white = (lawful.0, record { root = refl; content = and_from _ _ lawful.1.0.0 (and_from _ _ (lawful_is f.done 0 (omega arith) lawful.1.0.1).lawful (and_from _ _ white refl)); after = refl })
lawful_closed (Inside h f (g ∷ gs)) gap inside lawful white =
    let element : lawful_from (marks_behind g.done 0) (Element f.tag f.done gap Nothing) ≡ true = and_from _ _ lawful.1.0.0 (and_from _ _ (lawful_is f.done 0 (omega arith) lawful.1.0.1).lawful (and_from _ _ white refl)) in
    (lawful.0, ((lawful.1.1.0.0, lawful_join g.done (Element f.tag f.done gap Nothing) 0 lawful.1.1.0.1 element), lawful.1.1.1))
lawful_closed (Behind h root after) gap inside lawful white = absurd cc

-- a whole document that begins with what was read
pub record Reaches (front : List ℕ) : Type 0 where
  pub context : Context
  pub lawful : LawfulContext context
  pub more : List ℕ
  pub is : written context ≡ front ++ more

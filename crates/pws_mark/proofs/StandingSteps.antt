-- What was read goes on with each character: in content, comments and CDATA sections.
use Rattle.std.proofs.Common.{◌≡◌, ◌⊎◌, inl, inr, ℕ, zero, suc, ◌+◌, ◌-◌, ◌≤◌, ◌<◌, Bool, true, false, not, ◌&&◌, List, [], ◌∷◌, ◌++◌, take, replicate, refl, ap, subst, sym, ◌∙◌, arith, add-one, append_assoc, append-nil, Option, Some, None}
use Rattle.std.specs.Prelude.{◌==◌, if◌then◌else◌}
use Rattle.std.proofs.lemmas.Bool.{and_parts, and_from, and_right, not-true, not_from_false, eqb-true, eqb-false, cases_lt}
use Rattle.pws_tree.specs.Characters.{is_xml_char}
use Rattle.pws_mark.specs.Bindings.{is_char}
use Rattle.pws_mark.specs.Documents.{Piece, Char, Entity, Decimal, Hexadecimal, Content, Nothing, Text, Section, Comment, section_start, section_end, comment_start, comment_end}
use Rattle.pws_mark.specs.Meaning.{char_text}
use Rattle.pws_mark.specs.Scan.{next, stays, to, either, in_text, region, content_step, bang_step, section_word, brackets_taken, marks_after, text_bytes, reference_step, has_at}
use Rattle.pws_mark.specs.Spelling.{write_piece, write_content}
use Rattle.pws_mark.specs.States.{Open, Outer, taken, taken_in}
use Rattle.pws_mark.specs.TokenLaws.{brackets_behind}
use Rattle.pws_mark.specs.Tokens.{is_white, is_piece, is_text_char, is_section, is_comment}
use Rattle.pws_mark.specs.declared.modes.Mode.{Mode}
use Rattle.pws_mark.specs.declared.modes.Mode.TheVariants as mode
use Rattle.pws_mark.specs.declared.modes.Reference.{Reference}
use Rattle.pws_mark.specs.declared.modes.ReferenceStep.{ReferenceStep}
use Rattle.pws_mark.specs.declared.modes.ReferenceStep.TheVariants as stepped
use Rattle.pws_mark.specs.declared.modes.Region.{Region}
use Rattle.pws_mark.specs.declared.modes.Region.TheVariants as region_is
use Rattle.pws_mark.proofs.Following.{marks_behind}
use Rattle.pws_mark.proofs.Standing.{Context, Before, Inside, Behind, Agrees, At, written, names_of, is_inside, marks_join, with_content, written_with, MayStand, lawful_with, agrees_with}
use Rattle.pws_mark.proofs.StandingTokens.{which, ref_goes, ref_done, CommentHolds, SectionHolds, comment_none, comment_dashes, comment_char, comment_whole, section_none, section_bracket, section_third, section_char, section_whole}
use Rattle.pws_mark.proofs.StandingModes.{InContent, MarksAre, InTextReference, InComment, InSectionWord, InSection, Stands, StandsIn, at_more, at_turned, region_of, region_agrees}
use Rattle.pws_mark.proofs.TakesPieces.{same_either_way}
use Rattle.pws_mark.proofs.TakesReferences.{behind_mark, is_reference}

pub which_stays : (o : Outer) (b : Bool) (m : Mode) (y : Option Mode) (z : Mode × Outer) → stays o (if b then Some m else y) ≡ Some z → ((b ≡ true) × ((m, o) ≡ z)) ⊎ ((b ≡ false) × (stays o y ≡ Some z))
which_stays o true m y z h = inl (refl, let e : (m, o) ≡ z = cc in e)
which_stays o false m y z h = inr (refl, h)

pub never : {A : Type 0} (z : Mode × Outer) → ◌≡◌ {A = Option (Mode × Outer)} None (Some z) → A
never z h = absurd cc

-- characters that are taken leave the names of the open elements
pub taken_names : (o : Outer) (at : ℕ) (c : Option ℕ) (bytes : List ℕ) → (names_of (taken o at c bytes).opens ≡ names_of o.opens) × ((taken o at c bytes).behind ≡ o.behind)
unfolding taken
taken_names o at c bytes = by o.opens
  where
    by : (os : List Open) → (names_of (taken_in os o.behind o.events o.text at c bytes).opens ≡ names_of os) × ((taken_in os o.behind o.events o.text at c bytes).behind ≡ o.behind)
    by [] = (refl, refl)
    by (x ∷ xs) = (refl, refl)

brackets_names : (o : Outer) (at n : ℕ) → (names_of (brackets_taken o at n).opens ≡ names_of o.opens) × ((brackets_taken o at n).behind ≡ o.behind)
brackets_names o at n = by (n == 0) (n == 1)
  where
    one : (p : ℕ) → (names_of (taken o p (Some 93) (93 ∷ [])).opens ≡ names_of o.opens) × ((taken o p (Some 93) (93 ∷ [])).behind ≡ o.behind)
    one p = taken_names o p (Some 93) (93 ∷ [])

    by : (s t : Bool) → let p = if s then o else if t then taken o (at - 1) (Some 93) (93 ∷ []) else taken (taken o (at - 2) (Some 93) (93 ∷ [])) (at - 1) (Some 93) (93 ∷ []) in (names_of p.opens ≡ names_of o.opens) × (p.behind ≡ o.behind)
    by true t = (refl, refl)
    by false true = one (at - 1)
    by false false = let two = taken_names (taken o (at - 2) (Some 93) (93 ∷ [])) (at - 1) (Some 93) (93 ∷ []) in (two.0 ∙ (one (at - 2)).0, two.1 ∙ (one (at - 2)).1)

pub agrees_same : (x : Context) (o p : Outer) → names_of p.opens ≡ names_of o.opens → p.behind ≡ o.behind → Agrees x o → Agrees x p
agrees_same (Before h) o p names behind agrees = (no_names p.opens (names ∙ ap names_of agrees.0), behind ∙ agrees.1)
  where
    no_names : (os : List Open) → names_of os ≡ [] → os ≡ []
    no_names [] e = refl
    no_names (x ∷ xs) e = absurd cc
agrees_same (Inside h f fs) o p names behind agrees = names ∙ agrees
agrees_same (Behind h root after) o p names behind agrees = (no_names p.opens (names ∙ ap names_of agrees.0), behind ∙ agrees.1)
  where
    no_names : (os : List Open) → names_of os ≡ [] → os ≡ []
    no_names [] e = refl
    no_names (x ∷ xs) e = absurd cc

abbrev pub at_moved : (o p : Outer) (front part : List ℕ) → names_of p.opens ≡ names_of o.opens → p.behind ≡ o.behind → (h : At o front part) → At p front part
at_moved o p front part names behind h = record { context = h.context; lawful = h.lawful; agrees = agrees_same h.context o p names behind h.agrees; front_is = h.front_is }

-- content is added
abbrev pub added : (o p : Outer) (front part : List ℕ) (c : ℕ) (h : At o front part) (d : Content) → names_of p.opens ≡ names_of o.opens → p.behind ≡ o.behind → MayStand h.context d → write_content d ≡ part ++ c ∷ [] → At p (front ++ c ∷ []) []
added o p front part c h d names behind may is =
    at_turned o p front part c h (with_content h.context d) (lawful_with h.context d h.lawful may) (agrees_with h.context d o p names behind h.agrees) (written_with h.context d ∙ ap (λ z. written h.context ++ z) is)

marks_added : (x : Context) (d : Content) (n : ℕ) → ((m : ℕ) → marks_behind d m ≡ 0) → MarksAre (with_content x d) 0
marks_added (Before h) d n zero_behind = tt
marks_added (Inside h f fs) d n zero_behind = marks_join f.done d 0 ∙ zero_behind (marks_behind f.done 0)
marks_added (Behind h root after) d n zero_behind = tt

-- a comment, anywhere
comment_may : (x : Context) (text : List ℕ) → is_comment text ≡ true → MayStand x (Comment text Nothing)
comment_may (Before h) text is = and_from _ _ is refl
comment_may (Inside h f fs) text is = and_from _ _ is refl
comment_may (Behind h root after) text is = and_from _ _ is refl

space_added : (o : Outer) (front : List ℕ) (n c : ℕ) (h : InContent n o front) → is_inside h.here.context ≡ false → is_white c ≡ true → InContent 0 o (front ++ c ∷ [])
space_added o front n c h outside white = record {
  here = added o o front [] c h.here (Text (Char c) Nothing) refl refl (may h.here.context outside) refl;
  marks = marks h.here.context outside;
}
  where
    may : (x : Context) → is_inside x ≡ false → MayStand x (Text (Char c) Nothing)
    may (Before h) e = and_from _ _ white refl
    may (Inside h f fs) e = absurd cc
    may (Behind h root after) e = and_from _ _ white refl

    marks : (x : Context) → is_inside x ≡ false → MarksAre (with_content x (Text (Char c) Nothing)) 0
    marks (Before h) e = tt
    marks (Inside h f fs) e = absurd cc
    marks (Behind h root after) e = tt

-- a piece of text inside of the element
piece_may : (x : Context) (p : Piece) (n : ℕ) → is_inside x ≡ true → MarksAre x n → is_piece is_text_char p ≡ true → (n == 2 && is_char 62 p) ≡ false → MayStand x (Text p Nothing)
piece_may (Before h) p n inside marks lawful free = absurd cc
piece_may (Inside h f fs) p n inside marks lawful free = and_from _ _ lawful (and_from _ _ (not_from_false _ (ap (λ k. k == 2 && is_char 62 p) marks ∙ free)) refl)
piece_may (Behind h root after) p n inside marks lawful free = absurd cc

piece_marks : (x : Context) (p : Piece) (n : ℕ) → is_inside x ≡ true → MarksAre x n → MarksAre (with_content x (Text p Nothing)) (brackets_behind n p)
piece_marks (Before h) p n inside marks = absurd cc
piece_marks (Inside h f fs) p n inside marks = marks_join f.done (Text p Nothing) 0 ∙ ap (λ k. brackets_behind k p) marks
piece_marks (Behind h root after) p n inside marks = absurd cc

is_written : (p : Piece) → is_reference p ≡ true → write_piece p ≡ 38 ∷ behind_mark p
is_written (Char c) is = absurd cc
is_written (Entity n) is = refl
is_written (Decimal n) is = refl
is_written (Hexadecimal n) is = refl

no_char_is : (p : Piece) (n : ℕ) → is_reference p ≡ true → ((n == 2 && is_char 62 p) ≡ false) × (brackets_behind n p ≡ 0)
no_char_is (Char c) n is = absurd cc
no_char_is (Entity m) n is = (and_right (n == 2) false refl, refl)
no_char_is (Decimal m) n is = (and_right (n == 2) false refl, refl)
no_char_is (Hexadecimal m) n is = (and_right (n == 2) false refl, refl)

-- a character of text
char_added : (o p : Outer) (front : List ℕ) (n c : ℕ) (h : InContent n o front) → names_of p.opens ≡ names_of o.opens → p.behind ≡ o.behind → is_inside h.here.context ≡ true → is_text_char c ≡ true → not (n == 2 && c == 62) ≡ true → InContent (marks_after 93 n c) p (front ++ c ∷ [])
char_added o p front n c h names behind inside text free =
    let may : (n == 2 && (62 == c)) ≡ false = ap (λ z. n == 2 && z) (same_either_way 62 c) ∙ not-true _ free in
    record {
      here = added o p front [] c h.here (Text (Char c) Nothing) names behind (piece_may h.here.context (Char c) n inside h.marks text may) refl;
      marks = subst (MarksAre (with_content h.here.context (Text (Char c) Nothing))) (ap (λ b. if b then (if n == 2 then 2 else n + 1) else 0) (same_either_way 93 c)) (piece_marks h.here.context (Char c) n inside h.marks);
    }

inside_steps : (o : Outer) (front : List ℕ) (at n c : ℕ) (ret : Bool) (z : Mode × Outer) (h : InContent n o front) → is_inside h.here.context ≡ true → content_step region_is.Inside o at n ret c ≡ Some z → Stands z (front ++ c ∷ [])
inside_steps o front at n c ret z h inside step = elim (which (is_text_char c && not (n == 2 && c == 62)) _ _ _ step) [
  | inl e ↦ let parts = and_parts (is_text_char c) (not (n == 2 && c == 62)) e.0 in let names = taken_names o at (Some c) (text_bytes ret c) in
      subst (λ y. Stands y (front ++ c ∷ [])) e.1 (char_added o (taken o at (Some c) (text_bytes ret c)) front n c h names.0 names.1 inside parts.0 parts.1)
  | inr g ↦ elim (which (c == 60) _ _ _ g.1) [
    | inl e ↦ subst (λ y. Stands y (front ++ c ∷ [])) e.1 (at_more o front [] (60 ∷ []) c (ap (λ d. d ∷ []) (eqb-true c 60 e.0)) h.here)
    | inr g ↦ elim (which (c == 38) _ _ _ g.1) [
      | inl e ↦ subst (λ y. Stands y (front ++ c ∷ [])) e.1 (record { chars = []; here = at_more o front [] (38 ∷ []) c (ap (λ d. d ∷ []) (eqb-true c 38 e.0)) h.here; inside = inside; holds = refl })
      | inr g ↦ never z g.1
    ]
  ]
]

outside_steps : (o : Outer) (front : List ℕ) (at n c : ℕ) (ret : Bool) (z : Mode × Outer) (h : InContent n o front) → is_inside h.here.context ≡ false → (if is_white c then to o (mode.Content 0 false) else if c == 60 then to o (mode.Opened at) else None) ≡ Some z → Stands z (front ++ c ∷ [])
outside_steps o front at n c ret z h outside step = elim (which (is_white c) _ _ _ step) [
  | inl e ↦ subst (λ y. Stands y (front ++ c ∷ [])) e.1 (space_added o front n c h outside e.0)
  | inr g ↦ elim (which (c == 60) _ _ _ g.1) [
    | inl e ↦ subst (λ y. Stands y (front ++ c ∷ [])) e.1 (at_more o front [] (60 ∷ []) c (ap (λ d. d ∷ []) (eqb-true c 60 e.0)) h.here)
    | inr g ↦ never z g.1
  ]
]

pub content_stands : (o : Outer) (front : List ℕ) (at n c : ℕ) (ret : Bool) (z : Mode × Outer) → InContent n o front → next (mode.Content n ret) o at c ≡ Some z → Stands z (front ++ c ∷ [])
unfolding next
content_stands o front at n c ret z h step = by (region_of h.here.context) (region_agrees h.here.context o h.here.agrees) (inside_is h.here.context)
  where
    inside_is : (x : Context) → ((region_of x ≡ region_is.Inside) × (is_inside x ≡ true)) ⊎ ((region_of x ≡ region_is.Inside → ⊥) × (is_inside x ≡ false))
    inside_is (Before h) = inr (λ e. absurd cc, refl)
    inside_is (Inside h f fs) = inl (refl, refl)
    inside_is (Behind h root after) = inr (λ e. absurd cc, refl)

    by : (r : Region) → region o ≡ r → ((r ≡ region_is.Inside) × (is_inside h.here.context ≡ true)) ⊎ ((r ≡ region_is.Inside → ⊥) × (is_inside h.here.context ≡ false)) → Stands z (front ++ c ∷ [])
    by region_is.Inside e (inl i) = inside_steps o front at n c ret z h i.1 (ap (λ r. content_step r o at n ret c) (sym e) ∙ step)
    by region_is.Inside e (inr i) = absurd (i.0 refl)
    by region_is.Before e (inl i) = absurd (let bad : ◌≡◌ {A = Region} region_is.Before region_is.Inside = i.0 in cc)
    by region_is.Before e (inr i) = outside_steps o front at n c ret z h i.1 (ap (λ r. content_step r o at n ret c) (sym e) ∙ step)
    by region_is.Behind e (inl i) = absurd (let bad : ◌≡◌ {A = Region} region_is.Behind region_is.Inside = i.0 in cc)
    by region_is.Behind e (inr i) = outside_steps o front at n c ret z h i.1 (ap (λ r. content_step r o at n ret c) (sym e) ∙ step)

pub text_reference_stands : (o : Outer) (front : List ℕ) (at place c : ℕ) (r : Reference) (z : Mode × Outer) → InTextReference r o front → next (mode.TextReference place r) o at c ≡ Some z → Stands z (front ++ c ∷ [])
unfolding next
text_reference_stands o front at place c r z h step = by (reference_step r c) refl step
  where
    by : (s : Option ReferenceStep) → reference_step r c ≡ s → either s (in_text o place) ≡ Some z → Stands z (front ++ c ∷ [])
    by None e g = never z g
    by (Some (stepped.More s)) e g =
        let same : (mode.TextReference place s, o) ≡ z = cc in
        subst (λ y. Stands y (front ++ c ∷ [])) same (record { chars = h.chars ++ c ∷ []; here = at_more o front (38 ∷ h.chars) (38 ∷ (h.chars ++ c ∷ [])) c refl h.here; inside = h.inside; holds = ref_goes r s h.chars c h.holds e })
    by (Some (stepped.Done d)) e g =
        let same : (mode.Content 0 false, taken o place d (char_text d)) ≡ z = cc in
        let whole = ref_done r h.chars c d h.holds e in
        let names = taken_names o place d (char_text d) in
        let text = is_written whole.piece whole.is ∙ ap (λ y. 38 ∷ y) whole.behind in
        let free = λ (n : ℕ). no_char_is whole.piece n whole.is in
        subst (λ y. Stands y (front ++ c ∷ [])) same (record {
          here = added o (taken o place d (char_text d)) front (38 ∷ h.chars) c h.here (Text whole.piece Nothing) names.0 names.1 (may h.here.context h.inside whole.piece (whole.lawful is_text_char) free) (append-nil (write_piece whole.piece) ∙ text);
          marks = marks h.here.context h.inside whole.piece free;
        })
      where
        may : (x : Context) → is_inside x ≡ true → (p : Piece) → is_piece is_text_char p ≡ true → ((n : ℕ) → ((n == 2 && is_char 62 p) ≡ false) × (brackets_behind n p ≡ 0)) → MayStand x (Text p Nothing)
        may (Before h) i p lawful free = absurd cc
        may (Inside h f fs) i p lawful free = piece_may (Inside h f fs) p (marks_behind f.done 0) refl refl lawful (free (marks_behind f.done 0)).0
        may (Behind h root after) i p lawful free = absurd cc

        marks : (x : Context) → is_inside x ≡ true → (p : Piece) → ((n : ℕ) → ((n == 2 && is_char 62 p) ≡ false) × (brackets_behind n p ≡ 0)) → MarksAre (with_content x (Text p Nothing)) 0
        marks (Before h) i p free = absurd cc
        marks (Inside h f fs) i p free = marks_join f.done (Text p Nothing) 0 ∙ (free (marks_behind f.done 0)).1
        marks (Behind h root after) i p free = absurd cc

pub dash_stands : (o : Outer) (front : List ℕ) (at c : ℕ) (z : Mode × Outer) → At o front (60 ∷ 33 ∷ 45 ∷ []) → next mode.Dash o at c ≡ Some z → Stands z (front ++ c ∷ [])
unfolding next comment_start
dash_stands o front at c z h step = elim (which_stays o (c == 45) (mode.Comment 0) None z step) [
  | inl e ↦ subst (λ y. Stands y (front ++ c ∷ [])) e.1 (record { chars = []; here = at_more o front (60 ∷ 33 ∷ 45 ∷ []) (60 ∷ 33 ∷ 45 ∷ 45 ∷ []) c (ap (λ d. 60 ∷ 33 ∷ 45 ∷ d ∷ []) (eqb-true c 45 e.0)) h; holds = comment_none })
  | inr g ↦ never z g.1
]

-- behind <!
pub bang_stands : (o : Outer) (front : List ℕ) (at c : ℕ) (z : Mode × Outer) → At o front (60 ∷ 33 ∷ []) → next mode.Bang o at c ≡ Some z → Stands z (front ++ c ∷ [])
unfolding next section_word
bang_stands o front at c z h step = by h.context (region_agrees h.context o h.agrees) refl
  where
    dash : c ≡ 45 → At o (front ++ c ∷ []) (60 ∷ 33 ∷ 45 ∷ [])
    dash e = at_more o front (60 ∷ 33 ∷ []) (60 ∷ 33 ∷ 45 ∷ []) c (ap (λ d. 60 ∷ 33 ∷ d ∷ []) e) h

    out : (r : Region) → bang_step r c ≡ (if c == 45 then Some mode.Dash else None) → region o ≡ r → Stands z (front ++ c ∷ [])
    out r same e = elim (which_stays o (c == 45) mode.Dash None z (ap (stays o) (sym same) ∙ (ap (λ s. stays o (bang_step s c)) (sym e) ∙ step))) [
      | inl i ↦ subst (λ y. Stands y (front ++ c ∷ [])) i.1 (dash (eqb-true c 45 i.0))
      | inr g ↦ never z g.1
    ]

    by : (x : Context) → region o ≡ region_of x → h.context ≡ x → Stands z (front ++ c ∷ [])
    by (Before k) e i = out region_is.Before refl e
    by (Behind k root after) e i = out region_is.Behind refl e
    by (Inside k f fs) e i = elim (which_stays o (c == 45) mode.Dash (if c == 91 then Some (mode.SectionWord 0) else None) z (ap (λ s. stays o (bang_step s c)) (sym e) ∙ step)) [
      | inl j ↦ subst (λ y. Stands y (front ++ c ∷ [])) j.1 (dash (eqb-true c 45 j.0))
      | inr g ↦ elim (which_stays o (c == 91) (mode.SectionWord 0) None z g.1) [
        | inl j ↦ subst (λ y. Stands y (front ++ c ∷ [])) j.1 (record { here = at_more o front (60 ∷ 33 ∷ []) (60 ∷ 33 ∷ 91 ∷ []) c (ap (λ d. 60 ∷ 33 ∷ d ∷ []) (eqb-true c 91 j.0)) h; inside = ap is_inside i; few = omega arith })
        | inr g ↦ never z g.1
      ]
    ]

below_two : (n : ℕ) → n < 3 → (n == 2) ≡ false → n < 2
below_two n few e = by (cases_lt n 2)
  where
    by : (n < 2) ⊎ (2 ≤ n) → n < 2
    by (inl below) = below
    by (inr above) = absurd (eqb-false n 2 e (omega arith))

pub comment_stands : (o : Outer) (front : List ℕ) (at n c : ℕ) (z : Mode × Outer) → InComment n o front → next (mode.Comment n) o at c ≡ Some z → Stands z (front ++ c ∷ [])
unfolding next comment_end comment_start
comment_stands o front at n c z h step = by (n == 2) refl step
  where
    by : (b : Bool) → (n == 2) ≡ b → stays o (if b then (if c == 62 then Some (mode.Content 0 false) else None) else if is_xml_char c then Some (mode.Comment (marks_after 45 n c)) else None) ≡ Some z → Stands z (front ++ c ∷ [])
    by true e g = elim (which_stays o (c == 62) (mode.Content 0 false) None z g) [
      | inl i ↦
          let text = h.holds.text in
          let whole = comment_whole text h.holds.xml h.holds.runs in
          let two : h.chars ≡ text ++ 45 ∷ 45 ∷ [] = h.holds.is ∙ ap (λ k. text ++ replicate k 45) (eqb-true n 2 e) in
          let is : write_content (Comment text Nothing) ≡ (comment_start ++ h.chars) ++ c ∷ [] = ap (λ y. comment_start ++ y) (sym (append_assoc text (45 ∷ 45 ∷ []) (62 ∷ [])) ∙ (ap (λ y. y ++ 62 ∷ []) (sym two) ∙ ap (λ d. h.chars ++ d ∷ []) (sym (eqb-true c 62 i.0)))) in
          subst (λ y. Stands y (front ++ c ∷ [])) i.1 (record { here = added o o front (comment_start ++ h.chars) c h.here (Comment text Nothing) refl refl (comment_may h.here.context text whole) is; marks = marks_added h.here.context (Comment text Nothing) 0 (λ m. refl) })
      | inr g ↦ never z g.1
    ]
    by false e g = elim (which_stays o (is_xml_char c) (mode.Comment (marks_after 45 n c)) None z g) [
      | inl i ↦ subst (λ y. Stands y (front ++ c ∷ [])) i.1 (record { chars = h.chars ++ c ∷ []; here = at_more o front (comment_start ++ h.chars) (comment_start ++ (h.chars ++ c ∷ [])) c refl h.here; holds = more (c == 45) refl (below_two n h.holds.few e) i.0 })
      | inr g ↦ never z g.1
    ]
      where
        more : (b : Bool) → (c == 45) ≡ b → n < 2 → is_xml_char c ≡ true → CommentHolds (if b then (if n == 2 then 2 else n + 1) else 0) (h.chars ++ c ∷ [])
        more true d few xml = rw e (subst (λ k. CommentHolds (n + 1) (h.chars ++ k ∷ [])) (sym (eqb-true c 45 d)) (comment_dashes n h.chars few h.holds))
        more false d few xml = comment_char n h.chars c few h.holds d xml

take_has : (n : ℕ) (word : List ℕ) (c : ℕ) → has_at word n c ≡ true → take n word ++ c ∷ [] ≡ take (suc n) word
take_has zero [] c h = absurd cc
take_has zero (d ∷ word) c h = ap (λ e. e ∷ []) (sym (eqb-true d c h))
take_has (suc n) [] c h = absurd cc
take_has (suc n) (d ∷ word) c h = ap (λ z. d ∷ z) (take_has n word c h)

pub has_more : (n : ℕ) (word : List ℕ) (c : ℕ) → has_at word n c ≡ true → take n word ++ c ∷ [] ≡ take (n + 1) word
has_more n word c h = take_has n word c h ∙ ap (λ k. take k word) (sym (add-one n))

six : (n : ℕ) → n < 6 → (n == 5) ≡ false → n + 1 < 6
six n few e = by (cases_lt n 5)
  where
    by : (n < 5) ⊎ (5 ≤ n) → n + 1 < 6
    by (inl below) = omega arith
    by (inr above) = absurd (eqb-false n 5 e (omega arith))

pub section_word_stands : (o : Outer) (front : List ℕ) (at n c : ℕ) (z : Mode × Outer) → InSectionWord n o front → next (mode.SectionWord n) o at c ≡ Some z → Stands z (front ++ c ∷ [])
unfolding next section_start section_word
section_word_stands o front at n c z h step = elim (which_stays o (has_at section_word n c) (if n == 5 then mode.Section 0 false else mode.SectionWord (n + 1)) None z step) [
  | inl i ↦ subst (λ y. Stands y (front ++ c ∷ [])) i.1 (by (n == 5) refl (at_more o front (60 ∷ 33 ∷ 91 ∷ take n section_word) (60 ∷ 33 ∷ 91 ∷ take (n + 1) section_word) c (ap (λ y. 60 ∷ 33 ∷ 91 ∷ y) (has_more n section_word c i.0)) h.here) h.inside)
  | inr g ↦ never z g.1
]
  where
    by : (b : Bool) → (n == 5) ≡ b → (k : At o (front ++ c ∷ []) (60 ∷ 33 ∷ 91 ∷ take (n + 1) section_word)) → is_inside k.context ≡ true → StandsIn (if b then mode.Section 0 false else mode.SectionWord (n + 1)) o (front ++ c ∷ [])
    by true e k inside = record { chars = []; here = record { context = k.context; lawful = k.lawful; agrees = k.agrees; front_is = k.front_is ∙ ap (λ m. written k.context ++ (60 ∷ 33 ∷ 91 ∷ take (m + 1) section_word)) (eqb-true n 5 e) }; inside = inside; holds = section_none }
    by false e k inside = record { here = k; inside = inside; few = six n h.few e }

section_may : (x : Context) (text : List ℕ) → is_inside x ≡ true → is_section text ≡ true → MayStand x (Section text Nothing)
section_may (Before h) text inside is = absurd cc
section_may (Inside h f fs) text inside is = and_from _ _ is refl
section_may (Behind h root after) text inside is = absurd cc

pub section_stands : (o : Outer) (front : List ℕ) (at n c : ℕ) (ret : Bool) (z : Mode × Outer) → InSection n o front → next (mode.Section n ret) o at c ≡ Some z → Stands z (front ++ c ∷ [])
unfolding next section_start section_end
section_stands o front at n c ret z h step = by (c == 93) refl step
  where
    third : (b : Bool) → (n == 2) ≡ b → c ≡ 93 → (if b then to (taken o (at - 2) (Some 93) (93 ∷ [])) (mode.Section 2 false) else to o (mode.Section (n + 1) ret)) ≡ Some z → Stands z (front ++ c ∷ [])
    third true e same g =
        let is : (mode.Section 2 false, taken o (at - 2) (Some 93) (93 ∷ [])) ≡ z = cc in
        let names = taken_names o (at - 2) (Some 93) (93 ∷ []) in
        let two : SectionHolds 2 h.chars = subst (λ k. SectionHolds k h.chars) (eqb-true n 2 e) h.holds in
        subst (λ y. Stands y (front ++ c ∷ [])) is (record {
          chars = h.chars ++ c ∷ [];
          here = at_moved o (taken o (at - 2) (Some 93) (93 ∷ [])) (front ++ c ∷ []) (section_start ++ (h.chars ++ c ∷ [])) names.0 names.1 (at_more o front (section_start ++ h.chars) (section_start ++ (h.chars ++ c ∷ [])) c refl h.here);
          inside = h.inside;
          holds = subst (λ d. SectionHolds 2 (h.chars ++ d ∷ [])) (sym same) (section_third h.chars two);
        })
    third false e same g =
        let is : (mode.Section (n + 1) ret, o) ≡ z = cc in
        subst (λ y. Stands y (front ++ c ∷ [])) is (record {
          chars = h.chars ++ c ∷ [];
          here = at_more o front (section_start ++ h.chars) (section_start ++ (h.chars ++ c ∷ [])) c refl h.here;
          inside = h.inside;
          holds = subst (λ d. SectionHolds (n + 1) (h.chars ++ d ∷ [])) (sym same) (section_bracket n h.chars (below_two n h.holds.few e) h.holds);
        })

    ends : n ≡ 2 → c ≡ 62 → InContent 0 o (front ++ c ∷ [])
    ends two same =
        let text = h.holds.text in
        let whole = section_whole n h.chars h.holds in
        let chars_are : h.chars ≡ text ++ 93 ∷ 93 ∷ [] = h.holds.is ∙ ap (λ k. text ++ replicate k 93) two in
        let is : write_content (Section text Nothing) ≡ (section_start ++ h.chars) ++ c ∷ [] = ap (λ y. section_start ++ y) (sym (append_assoc text (93 ∷ 93 ∷ []) (62 ∷ [])) ∙ (ap (λ y. y ++ 62 ∷ []) (sym chars_are) ∙ ap (λ d. h.chars ++ d ∷ []) (sym same))) in
        record { here = added o o front (section_start ++ h.chars) c h.here (Section text Nothing) refl refl (section_may h.here.context text h.inside whole) is; marks = marks_added h.here.context (Section text Nothing) 0 (λ m. refl) }

    other : (c == 93) ≡ false → (b : Bool) → (n == 2 && c == 62) ≡ b → (if b then to o (mode.Content 0 false) else if is_xml_char c then to (taken (brackets_taken o at n) at (Some c) (text_bytes (n == 0 && ret) c)) (mode.Section 0 (c == 13)) else None) ≡ Some z → Stands z (front ++ c ∷ [])
    other no_bracket true e g =
        let is : (mode.Content 0 false, o) ≡ z = cc in
        let both = and_parts (n == 2) (c == 62) e in
        subst (λ y. Stands y (front ++ c ∷ [])) is (ends (eqb-true n 2 both.0) (eqb-true c 62 both.1))
    other no_bracket false e g = elim (which (is_xml_char c) _ _ _ g) [
      | inl i ↦
          let one = brackets_names o at n in
          let two = taken_names (brackets_taken o at n) at (Some c) (text_bytes (n == 0 && ret) c) in
          subst (λ y. Stands y (front ++ c ∷ [])) i.1 (record {
            chars = h.chars ++ c ∷ [];
            here = at_moved o (taken (brackets_taken o at n) at (Some c) (text_bytes (n == 0 && ret) c)) (front ++ c ∷ []) (section_start ++ (h.chars ++ c ∷ [])) (two.0 ∙ one.0) (two.1 ∙ one.1) (at_more o front (section_start ++ h.chars) (section_start ++ (h.chars ++ c ∷ [])) c refl h.here);
            inside = h.inside;
            holds = section_char n h.chars c h.holds no_bracket e i.0;
          })
      | inr k ↦ never z k.1
    ]

    by : (b : Bool) → (c == 93) ≡ b → (if b then (if n == 2 then to (taken o (at - 2) (Some 93) (93 ∷ [])) (mode.Section 2 false) else to o (mode.Section (n + 1) ret)) else if n == 2 && c == 62 then to o (mode.Content 0 false) else if is_xml_char c then to (taken (brackets_taken o at n) at (Some c) (text_bytes (n == 0 && ret) c)) (mode.Section 0 (c == 13)) else None) ≡ Some z → Stands z (front ++ c ∷ [])
    by true e g = third (n == 2) refl (eqb-true c 93 e) g
    by false e g = other e (n == 2 && c == 62) refl g

-- What was read goes on with each character: in values and end tags.
use Rattle.std.proofs.Common.{◌≡◌, inl, inr, ℕ, ◌+◌, true, false, ◌&&◌, List, [], ◌∷◌, ◌++◌, length, refl, ap, subst, sym, ◌∙◌, arith, length-append, append_assoc, append-nil, Option, Some, None}
use Rattle.std.specs.Prelude.{◌==◌, option_map}
use Rattle.std.specs.List.{list_all, flat_map}
use Rattle.std.proofs.lemmas.Bool.{and_parts, and_from, eqb-true}
use Rattle.std.proofs.lemmas.List.Folds.{list_all-append}
use Rattle.std.proofs.lemmas.List.Concat.{flat_map-append}
use Rattle.pws_tree.specs.Characters.{is_name_start}
use Rattle.pws_mark.specs.Documents.{Piece, Char, Entity, Decimal, Hexadecimal, Attribute}
use Rattle.pws_mark.specs.Scan.{next, stays, in_value, region, opened_step, value_with, value_with_reference, with_attribute, end_name_step, end_gap_step, reference_step, has_at}
use Rattle.pws_mark.specs.Spelling.{write_piece, write_attribute}
use Rattle.pws_mark.specs.States.{Open, Outer, ended, is_empty}
use Rattle.pws_mark.specs.Tokens.{is_white, is_piece, is_value_char, is_quote, is_attribute}
use Rattle.pws_mark.specs.declared.modes.Mode.{Mode}
use Rattle.pws_mark.specs.declared.modes.Mode.TheVariants as mode
use Rattle.pws_mark.specs.declared.modes.ReadName.{ReadName}
use Rattle.pws_mark.specs.declared.modes.ReadTag.{ReadTag}
use Rattle.pws_mark.specs.declared.modes.ReadValue.{ReadValue}
use Rattle.pws_mark.specs.declared.modes.Reference.{Reference}
use Rattle.pws_mark.specs.declared.modes.ReferenceStep.{ReferenceStep}
use Rattle.pws_mark.specs.declared.modes.ReferenceStep.TheVariants as stepped
use Rattle.pws_mark.proofs.Standing.{Context, Before, Inside, Behind, Agrees, At, written, names_of, frame_names, is_inside, may_open, innermost, marks_join, closed_in_context, written_closed, lawful_closed}
use Rattle.pws_mark.proofs.StandingTokens.{which, name_begins, ref_goes, ref_done}
use Rattle.pws_mark.proofs.StandingModes.{InContent, MarksAre, Stands, at_more, at_turned, region_of, region_agrees, tag_front, InTagName, InTag, InValue, InValueReference, InEndName, InEndGap}
use Rattle.pws_mark.proofs.StandingSteps.{which_stays, never}
use Rattle.pws_mark.proofs.StandingTags.{in_tag_more, no_names, white_one}
use Rattle.pws_mark.proofs.TakesReferences.{behind_mark, is_reference}

pieces_on : (ps : List Piece) (p : Piece) → flat_map write_piece (ps ++ p ∷ []) ≡ flat_map write_piece ps ++ write_piece p
pieces_on ps p = flat_map-append write_piece ps (p ∷ []) ∙ ap (λ z. flat_map write_piece ps ++ z) (append-nil (write_piece p))

-- a further piece of a value
value_more : (o : Outer) (front : List ℕ) (t : ReadTag) (n : ReadName) (v w : ReadValue) (before : List ℕ) (c : ℕ) (p : Piece) → w.quote ≡ v.quote → write_piece p ≡ before ++ c ∷ [] → is_piece (is_value_char v.quote) p ≡ true → InValue t n v before o front → InValue t n w [] o (front ++ c ∷ [])
value_more o front t n v w before c p quote is lawful h =
    let part = λ (q : ℕ) (more : List ℕ). h.gap ++ (n.name ++ (h.before ++ 61 ∷ (h.after ++ q ∷ more))) in
    let last = flat_map write_piece (h.pieces ++ p ∷ []) ++ [] in
    let e : part v.quote (flat_map write_piece h.pieces ++ before) ++ c ∷ [] ≡ part w.quote last =
    on h.gap n.name h.before h.after v.quote (flat_map write_piece h.pieces) before c
    ∙ (ap (λ z. part v.quote (flat_map write_piece h.pieces ++ z)) (sym is)
    ∙ (ap (λ z. part v.quote z) (sym (pieces_on h.pieces p) ∙ sym (append-nil (flat_map write_piece (h.pieces ++ p ∷ []))))
    ∙ ap (λ q. part q last) (sym quote))) in
    record {
      gap = h.gap;
      before = h.before;
      after = h.after;
      pieces = h.pieces ++ p ∷ [];
      tag = in_tag_more t.name (part v.quote (flat_map write_piece h.pieces ++ before)) (part w.quote last) o front c e h.tag;
      white = h.white;
      name = h.name;
      before_white = h.before_white;
      after_white = h.after_white;
      quote = ap is_quote quote ∙ h.quote;
      lawful = subst (λ q. list_all (is_piece (is_value_char q)) (h.pieces ++ p ∷ []) ≡ true) (sym quote) (list_all-append (is_piece (is_value_char v.quote)) h.pieces (p ∷ []) ∙ and_from _ _ h.lawful (and_from _ _ lawful refl));
    }
  where
    on : (gap name before_equals after : List ℕ) (q : ℕ) (ps before : List ℕ) (c : ℕ) → (gap ++ (name ++ (before_equals ++ 61 ∷ (after ++ q ∷ (ps ++ before))))) ++ c ∷ [] ≡ gap ++ (name ++ (before_equals ++ 61 ∷ (after ++ q ∷ (ps ++ (before ++ c ∷ [])))))
    on gap name before_equals after q ps before c = simp append_assoc

-- an attribute ends
attribute_ends : (o : Outer) (front : List ℕ) (t : ReadTag) (n : ReadName) (v : ReadValue) (c : ℕ) → c ≡ v.quote → InValue t n v [] o front → InTag (with_attribute t n v) false o (front ++ c ∷ [])
attribute_ends o front t n v c same h =
    let a : Attribute = record { gap = h.gap; name = n.name; before = h.before; after = h.after; quote = v.quote; value = h.pieces } in
    let values = flat_map write_piece h.pieces in
    let tag = h.tag in
    let part = h.gap ++ (n.name ++ (h.before ++ 61 ∷ (h.after ++ v.quote ∷ (values ++ [])))) in
    let chars : tag_front t.name tag.attributes part ++ c ∷ [] ≡ tag_front t.name (tag.attributes ++ a ∷ []) [] =
    on t.name (flat_map write_attribute tag.attributes) h.gap n.name h.before h.after v.quote values c
    ∙ (ap (λ d. 60 ∷ (t.name ++ ((flat_map write_attribute tag.attributes ++ (h.gap ++ (n.name ++ (h.before ++ 61 ∷ (h.after ++ v.quote ∷ (values ++ d ∷ [])))))) ++ []))) same
    ∙ ap (λ z. 60 ∷ (t.name ++ (z ++ []))) (sym (flat_map-append write_attribute tag.attributes (a ∷ []) ∙ ap (λ z. flat_map write_attribute tag.attributes ++ z) (append-nil (write_attribute a))))) in
    let lawful : is_attribute a ≡ true = and_from _ _ h.white (and_from _ _ h.name (and_from _ _ h.before_white (and_from _ _ h.after_white (and_from _ _ h.quote h.lawful)))) in
    record {
      gap = [];
      tag = record {
        attributes = tag.attributes ++ a ∷ [];
        here = at_more o front (tag_front t.name tag.attributes part) (tag_front t.name (tag.attributes ++ a ∷ []) []) c chars tag.here;
        may = tag.may;
        name = tag.name;
        lawful = list_all-append is_attribute tag.attributes (a ∷ []) ∙ and_from _ _ tag.lawful (and_from _ _ lawful refl);
      };
      white = refl;
      some = λ e. absurd cc;
    }
  where
    on : (word attributes gap name before after : List ℕ) (q : ℕ) (values : List ℕ) (c : ℕ) → (60 ∷ (word ++ (attributes ++ (gap ++ (name ++ (before ++ 61 ∷ (after ++ q ∷ (values ++ [])))))))) ++ c ∷ [] ≡ 60 ∷ (word ++ ((attributes ++ (gap ++ (name ++ (before ++ 61 ∷ (after ++ q ∷ (values ++ c ∷ [])))))) ++ []))
    on word attributes gap name before after q values c = simp (append_assoc, append-nil)

pub value_stands : (o : Outer) (front : List ℕ) (at c : ℕ) (t : ReadTag) (n : ReadName) (v : ReadValue) (z : Mode × Outer) → InValue t n v [] o front → next (mode.Value t n v) o at c ≡ Some z → Stands z (front ++ c ∷ [])
unfolding next
value_stands o front at c t n v z h step = elim (which_stays o (is_value_char v.quote c) _ _ z step) [
  | inl e ↦ subst (λ y. Stands y (front ++ c ∷ [])) e.1 (value_more o front t n v (value_with v c) [] c (Char c) refl refl e.0 h)
  | inr g ↦ elim (which_stays o (c == 38) _ _ z g.1) [
    | inl e ↦ subst (λ y. Stands y (front ++ c ∷ [])) e.1 (record { chars = []; value = refers (eqb-true c 38 e.0); holds = refl })
    | inr g ↦ elim (which_stays o (c == v.quote) _ _ z g.1) [
      | inl e ↦ subst (λ y. Stands y (front ++ c ∷ [])) e.1 (attribute_ends o front t n v c (eqb-true c v.quote e.0) h)
      | inr g ↦ never z g.1
    ]
  ]
]
  where
    on : (gap name before after : List ℕ) (q : ℕ) (values : List ℕ) (c : ℕ) → (gap ++ (name ++ (before ++ 61 ∷ (after ++ q ∷ (values ++ []))))) ++ c ∷ [] ≡ gap ++ (name ++ (before ++ 61 ∷ (after ++ q ∷ (values ++ c ∷ []))))
    on gap name before after q values c = simp (append_assoc, append-nil)

    refers : c ≡ 38 → InValue t n v (38 ∷ []) o (front ++ c ∷ [])
    refers same = record {
      gap = h.gap;
      before = h.before;
      after = h.after;
      pieces = h.pieces;
      tag = in_tag_more t.name (h.gap ++ (n.name ++ (h.before ++ 61 ∷ (h.after ++ v.quote ∷ (flat_map write_piece h.pieces ++ []))))) (h.gap ++ (n.name ++ (h.before ++ 61 ∷ (h.after ++ v.quote ∷ (flat_map write_piece h.pieces ++ 38 ∷ []))))) o front c (on h.gap n.name h.before h.after v.quote (flat_map write_piece h.pieces) c ∙ ap (λ d. h.gap ++ (n.name ++ (h.before ++ 61 ∷ (h.after ++ v.quote ∷ (flat_map write_piece h.pieces ++ d ∷ []))))) same) h.tag;
      white = h.white;
      name = h.name;
      before_white = h.before_white;
      after_white = h.after_white;
      quote = h.quote;
      lawful = h.lawful;
    }

reference_quote : (v : ReadValue) (d : Option ℕ) → (value_with_reference v d).quote ≡ v.quote
reference_quote v None = refl
reference_quote v (Some c) = refl

reference_written : (p : Piece) → is_reference p ≡ true → write_piece p ≡ 38 ∷ behind_mark p
reference_written (Char c) is = absurd cc
reference_written (Entity n) is = refl
reference_written (Decimal n) is = refl
reference_written (Hexadecimal n) is = refl

pub value_reference_stands : (o : Outer) (front : List ℕ) (at place c : ℕ) (t : ReadTag) (n : ReadName) (v : ReadValue) (r : Reference) (z : Mode × Outer) → InValueReference t n v r o front → next (mode.ValueReference t n v place r) o at c ≡ Some z → Stands z (front ++ c ∷ [])
unfolding next
value_reference_stands o front at place c t n v r z h step = by (reference_step r c) refl step
  where
    on : (gap name before after : List ℕ) (q : ℕ) (values chars : List ℕ) (c : ℕ) → (gap ++ (name ++ (before ++ 61 ∷ (after ++ q ∷ (values ++ 38 ∷ chars))))) ++ c ∷ [] ≡ gap ++ (name ++ (before ++ 61 ∷ (after ++ q ∷ (values ++ 38 ∷ (chars ++ c ∷ [])))))
    on gap name before after q values chars c = simp append_assoc

    further : InValue t n v (38 ∷ (h.chars ++ c ∷ [])) o (front ++ c ∷ [])
    further = let k = h.value in record {
      gap = k.gap;
      before = k.before;
      after = k.after;
      pieces = k.pieces;
      tag = in_tag_more t.name (k.gap ++ (n.name ++ (k.before ++ 61 ∷ (k.after ++ v.quote ∷ (flat_map write_piece k.pieces ++ 38 ∷ h.chars))))) (k.gap ++ (n.name ++ (k.before ++ 61 ∷ (k.after ++ v.quote ∷ (flat_map write_piece k.pieces ++ 38 ∷ (h.chars ++ c ∷ [])))))) o front c (on k.gap n.name k.before k.after v.quote (flat_map write_piece k.pieces) h.chars c) k.tag;
      white = k.white;
      name = k.name;
      before_white = k.before_white;
      after_white = k.after_white;
      quote = k.quote;
      lawful = k.lawful;
    }

    by : (s : Option ReferenceStep) → reference_step r c ≡ s → stays o (option_map (in_value t n v place) s) ≡ Some z → Stands z (front ++ c ∷ [])
    by None e g = never z g
    by (Some (stepped.More s)) e g =
        let same : (mode.ValueReference t n v place s, o) ≡ z = cc in
        subst (λ y. Stands y (front ++ c ∷ [])) same (record { chars = h.chars ++ c ∷ []; value = further; holds = ref_goes r s h.chars c h.holds e })
    by (Some (stepped.Done d)) e g =
        let same : (mode.Value t n (value_with_reference v d), o) ≡ z = cc in
        let whole = ref_done r h.chars c d h.holds e in
        subst (λ y. Stands y (front ++ c ∷ [])) same (value_more o front t n v (value_with_reference v d) (38 ∷ h.chars) c whole.piece (reference_quote v d) (reference_written whole.piece whole.is ∙ ap (λ y. 38 ∷ y) whole.behind) (whole.lawful (is_value_char v.quote)) h.value)

-- the innermost element is closed
agrees_closed : (y : Context) (gap : List ℕ) (o : Outer) (x : Open) (xs : List Open) → is_inside y ≡ true → o.opens ≡ x ∷ xs → Agrees y o → Agrees (closed_in_context y gap) (ended x xs o.events o.text)
unfolding ended
agrees_closed (Before h) gap o x xs inside opens agrees = absurd cc
agrees_closed (Inside h f []) gap o x xs inside opens agrees =
    let names : names_of (x ∷ xs) ≡ f.tag.name ∷ [] = ap names_of (sym opens) ∙ agrees in
    let rest : names_of xs ≡ [] = cc in
    let none : xs ≡ [] = no_names xs rest in
    (none, ap is_empty none)
agrees_closed (Inside h f (g ∷ gs)) gap o x xs inside opens agrees =
    let names : names_of (x ∷ xs) ≡ f.tag.name ∷ frame_names (g ∷ gs) = ap names_of (sym opens) ∙ agrees in
    let rest : names_of xs ≡ frame_names (g ∷ gs) = cc in rest
agrees_closed (Behind h root after) gap o x xs inside opens agrees = absurd cc

marks_closed : (y : Context) (gap : List ℕ) → is_inside y ≡ true → MarksAre (closed_in_context y gap) 0
marks_closed (Before h) gap inside = absurd cc
marks_closed (Inside h f []) gap inside = tt
marks_closed (Inside h f (g ∷ gs)) gap inside = marks_join g.done _ 0
marks_closed (Behind h root after) gap inside = absurd cc

innermost_is : (y : Context) (o : Outer) (x : Open) (xs : List Open) → is_inside y ≡ true → o.opens ≡ x ∷ xs → Agrees y o → x.name ≡ innermost y
innermost_is (Before h) o x xs inside opens agrees = absurd cc
innermost_is (Inside h f fs) o x xs inside opens agrees =
    let names : names_of (x ∷ xs) ≡ f.tag.name ∷ frame_names fs = ap names_of (sym opens) ∙ agrees in
    let first : x.name ≡ f.tag.name = cc in first
innermost_is (Behind h root after) o x xs inside opens agrees = absurd cc

tag_closes : (o : Outer) (front : List ℕ) (x : Open) (xs : List Open) (name gap : List ℕ) (h : At o front (60 ∷ 47 ∷ (name ++ gap))) → is_inside h.context ≡ true → innermost h.context ≡ name → list_all is_white gap ≡ true → o.opens ≡ x ∷ xs → InContent 0 (ended x xs o.events o.text) (front ++ 62 ∷ [])
tag_closes o front x xs name gap h inside is white opens =
    let chars : written (closed_in_context h.context gap) ≡ written h.context ++ ((60 ∷ 47 ∷ (name ++ gap)) ++ 62 ∷ []) =
    written_closed h.context gap inside ∙ (ap (λ n. written h.context ++ 60 ∷ 47 ∷ (n ++ (gap ++ 62 ∷ []))) is ∙ ap (λ z. written h.context ++ 60 ∷ 47 ∷ z) (sym (append_assoc name gap (62 ∷ [])))) in
    record {
      here = at_turned o (ended x xs o.events o.text) front (60 ∷ 47 ∷ (name ++ gap)) 62 h (closed_in_context h.context gap) (lawful_closed h.context gap inside h.lawful white) (agrees_closed h.context gap o x xs inside opens h.agrees) chars;
      marks = marks_closed h.context gap inside;
    }

pub end_gap_stands : (o : Outer) (front : List ℕ) (at c : ℕ) (z : Mode × Outer) → InEndGap o front → next mode.EndGap o at c ≡ Some z → Stands z (front ++ c ∷ [])
unfolding next
end_gap_stands o front at c z h step = by o.opens refl step
  where
    by : (os : List Open) → o.opens ≡ os → end_gap_step o os c ≡ Some z → Stands z (front ++ c ∷ [])
    by [] e g = never z g
    by (x ∷ xs) e g = elim (which (is_white c) _ _ _ g) [
      | inl i ↦ subst (λ y. Stands y (front ++ c ∷ [])) i.1 (record { gap = h.gap ++ c ∷ []; name = h.name; here = at_more o front (60 ∷ 47 ∷ (h.name ++ h.gap)) (60 ∷ 47 ∷ (h.name ++ (h.gap ++ c ∷ []))) c (ap (λ y. 60 ∷ 47 ∷ y) (append_assoc h.name h.gap (c ∷ []))) h.here; inside = h.inside; is = h.is; white = white_one h.gap c h.white i.0 })
      | inr k ↦ elim (which (c == 62) _ _ _ k.1) [
        | inl i ↦ subst (λ y. Stands y (front ++ c ∷ [])) i.1 (subst (λ d. InContent 0 (ended x xs o.events o.text) (front ++ d ∷ [])) (sym (eqb-true c 62 i.0)) (tag_closes o front x xs h.name h.gap h.here h.inside h.is h.white e))
        | inr k ↦ never z k.1
      ]
    ]

pub has_split : (done todo : List ℕ) (c : ℕ) → has_at (done ++ todo) (length done) c ≡ true → (more : List ℕ) × (todo ≡ c ∷ more)
has_split [] [] c h = absurd cc
has_split [] (d ∷ more) c h = (more, ap (λ e. e ∷ more) (eqb-true d c h))
has_split (d ∷ done) todo c h = has_split done todo c h

pub none_left : (done todo : List ℕ) → length done ≡ length (done ++ todo) → todo ≡ []
none_left done [] e = refl
none_left done (d ∷ todo) e = absurd (omega (arith, length-append done (d ∷ todo)))

pub end_name_stands : (o : Outer) (front : List ℕ) (at n c : ℕ) (z : Mode × Outer) → InEndName n o front → next (mode.EndName n) o at c ≡ Some z → Stands z (front ++ c ∷ [])
unfolding next
end_name_stands o front at n c z h step = by o.opens refl step
  where
    by : (os : List Open) → o.opens ≡ os → end_name_step o os n c ≡ Some z → Stands z (front ++ c ∷ [])
    by [] e g = never z g
    by (x ∷ xs) e g =
        let name : x.name ≡ h.done ++ h.todo = innermost_is h.here.context o x xs h.inside e h.here.agrees ∙ h.name in
        elim (which (has_at x.name n c) _ _ _ g) [
          | inl i ↦
              let there : has_at (h.done ++ h.todo) (length h.done) c ≡ true = subst (λ k. has_at (h.done ++ h.todo) k c ≡ true) (sym h.size) (subst (λ w. has_at w n c ≡ true) name i.0) in
              let more = has_split h.done h.todo c there in
              subst (λ y. Stands y (front ++ c ∷ [])) i.1 (record {
                done = h.done ++ c ∷ [];
                todo = more.0;
                here = at_more o front (60 ∷ 47 ∷ h.done) (60 ∷ 47 ∷ (h.done ++ c ∷ [])) c refl h.here;
                inside = h.inside;
                name = h.name ∙ (ap (λ w. h.done ++ w) more.1 ∙ sym (append_assoc h.done (c ∷ []) more.0));
                size = length-append h.done (c ∷ []) ∙ ap (λ k. k + 1) h.size;
              })
          | inr k ↦ elim (which (n == length x.name && is_white c) _ _ _ k.1) [
            | inl i ↦ let parts = and_parts (n == length x.name) (is_white c) i.0 in let whole = complete x (eqb-true n (length x.name) parts.0) name in
                subst (λ y. Stands y (front ++ c ∷ [])) i.1 (record { gap = c ∷ []; name = h.done; here = at_more o front (60 ∷ 47 ∷ h.done) (60 ∷ 47 ∷ (h.done ++ c ∷ [])) c refl h.here; inside = h.inside; is = whole; white = and_from _ _ parts.1 refl })
            | inr k ↦ elim (which (n == length x.name && c == 62) _ _ _ k.1) [
              | inl i ↦ let parts = and_parts (n == length x.name) (c == 62) i.0 in let whole = complete x (eqb-true n (length x.name) parts.0) name in
                  let here : At o front (60 ∷ 47 ∷ (h.done ++ [])) = record { context = h.here.context; lawful = h.here.lawful; agrees = h.here.agrees; front_is = h.here.front_is ∙ ap (λ w. written h.here.context ++ 60 ∷ 47 ∷ w) (sym (append-nil h.done)) } in
                  subst (λ y. Stands y (front ++ c ∷ [])) i.1 (subst (λ d. InContent 0 (ended x xs o.events o.text) (front ++ d ∷ [])) (sym (eqb-true c 62 parts.1)) (tag_closes o front x xs h.done [] here h.inside whole refl e))
              | inr k ↦ never z k.1
            ]
          ]
        ]
      where
        complete : (x : Open) → n ≡ length x.name → x.name ≡ h.done ++ h.todo → innermost h.here.context ≡ h.done
        complete x size name = h.name ∙ (ap (λ w. h.done ++ w) (none_left h.done h.todo (h.size ∙ (size ∙ ap length name))) ∙ append-nil h.done)

-- behind a <
pub opened_stands : (o : Outer) (front : List ℕ) (at place c : ℕ) (z : Mode × Outer) → At o front (60 ∷ []) → next (mode.Opened place) o at c ≡ Some z → Stands z (front ++ c ∷ [])
unfolding next
opened_stands o front at place c z h step = by h.context refl (region_agrees h.context o h.agrees)
  where
    begins : may_open h.context ≡ true → is_name_start c ≡ true → InTagName (record { at = place; name = c ∷ []; attributes = [] }) false o (front ++ c ∷ [])
    begins may start = record { here = at_more o front (60 ∷ []) (60 ∷ c ∷ []) c refl h; may = may; name = name_begins c start }

    bang : c ≡ 33 → At o (front ++ c ∷ []) (60 ∷ 33 ∷ [])
    bang same = at_more o front (60 ∷ []) (60 ∷ 33 ∷ []) c (ap (λ d. 60 ∷ d ∷ []) same) h

    by : (x : Context) → h.context ≡ x → region o ≡ region_of x → Stands z (front ++ c ∷ [])
    by (Before k) e r = elim (which_stays o (is_name_start c) _ _ z (ap (λ s. stays o (opened_step s place c)) (sym r) ∙ step)) [
      | inl i ↦ subst (λ y. Stands y (front ++ c ∷ [])) i.1 (begins (ap may_open e) i.0)
      | inr g ↦ elim (which_stays o (c == 33) _ _ z g.1) [ inl i ↦ subst (λ y. Stands y (front ++ c ∷ [])) i.1 (bang (eqb-true c 33 i.0)) | inr g ↦ never z g.1 ]
    ]
    by (Inside k f fs) e r = elim (which_stays o (is_name_start c) _ _ z (ap (λ s. stays o (opened_step s place c)) (sym r) ∙ step)) [
      | inl i ↦ subst (λ y. Stands y (front ++ c ∷ [])) i.1 (begins (ap may_open e) i.0)
      | inr g ↦ elim (which_stays o (c == 33) _ _ z g.1) [
        | inl i ↦ subst (λ y. Stands y (front ++ c ∷ [])) i.1 (bang (eqb-true c 33 i.0))
        | inr g ↦ elim (which_stays o (c == 47) _ _ z g.1) [
          | inl i ↦ subst (λ y. Stands y (front ++ c ∷ [])) i.1 (record { done = []; todo = innermost h.context; here = at_more o front (60 ∷ []) (60 ∷ 47 ∷ []) c (ap (λ d. 60 ∷ d ∷ []) (eqb-true c 47 i.0)) h; inside = ap is_inside e; name = refl; size = refl })
          | inr g ↦ never z g.1
        ]
      ]
    ]
    by (Behind k root after) e r = elim (which_stays o (c == 33) _ _ z (ap (λ s. stays o (opened_step s place c)) (sym r) ∙ step)) [
      | inl i ↦ subst (λ y. Stands y (front ++ c ∷ [])) i.1 (bang (eqb-true c 33 i.0))
      | inr g ↦ never z g.1
    ]

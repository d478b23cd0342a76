-- What was read goes on with each character: in tags.
use Rattle.std.proofs.Common.{◌≡◌, inl, inr, ℕ, Bool, true, false, ◌&&◌, List, [], ◌∷◌, ◌++◌, refl, ap, subst, sym, ◌∙◌, append_assoc, append-nil, Some}
use Rattle.std.specs.Prelude.{◌==◌}
use Rattle.std.specs.List.{list_all, flat_map}
use Rattle.std.proofs.lemmas.Bool.{and_parts, and_from, eqb-true}
use Rattle.std.proofs.lemmas.List.Folds.{list_all-append}
use Rattle.pws_tree.specs.Characters.{is_name_start, is_name_char}
use Rattle.pws_mark.specs.Documents.{Attribute, Tag}
use Rattle.pws_mark.specs.Grammar.{is_tag}
use Rattle.pws_mark.specs.Scan.{next, tag_step}
use Rattle.pws_mark.specs.Spelling.{write_attribute}
use Rattle.pws_mark.specs.States.{Open, Outer, started, hollowed, spoiled, is_empty}
use Rattle.pws_mark.specs.Tokens.{is_white, is_gap, is_name, is_quote, is_attribute}
use Rattle.pws_mark.specs.declared.modes.Mode.{Mode}
use Rattle.pws_mark.specs.declared.modes.Mode.TheVariants as mode
use Rattle.pws_mark.specs.declared.modes.ReadName.{ReadName}
use Rattle.pws_mark.specs.declared.modes.ReadTag.{ReadTag}
use Rattle.pws_mark.proofs.Standing.{Context, Before, Inside, Behind, Agrees, written, names_of, may_open, marks_join, opened_in, written_opened, lawful_opened, hollowed_in, written_hollowed, lawful_hollowed}
use Rattle.pws_mark.proofs.StandingTokens.{which, NameSoFar, name_begins, name_grows, name_colon, name_starts}
use Rattle.pws_mark.proofs.StandingModes.{InContent, MarksAre, Stands, at_more, at_turned, tag_front, InTagName, InTheTag, InTag, InSlash, InAttributeName, InBeforeEquals, InAfterEquals}
use Rattle.pws_mark.proofs.StandingSteps.{which_stays, never}

-- one character more in a tag
pub in_tag_more : (word more last : List ℕ) (o : Outer) (front : List ℕ) (c : ℕ) → more ++ c ∷ [] ≡ last → InTheTag word more o front → InTheTag word last o (front ++ c ∷ [])
in_tag_more word more last o front c e h = record {
  attributes = h.attributes;
  here = at_more o front (tag_front word h.attributes more) (tag_front word h.attributes last) c (on word (flat_map write_attribute h.attributes) more ∙ ap (λ z. tag_front word h.attributes z) e) h.here;
  may = h.may;
  name = h.name;
  lawful = h.lawful;
}
  where
    on : (word attributes more : List ℕ) → (60 ∷ (word ++ (attributes ++ more))) ++ c ∷ [] ≡ 60 ∷ (word ++ (attributes ++ (more ++ c ∷ [])))
    on word attributes more = simp append_assoc

pub white_one : (gap : List ℕ) (c : ℕ) → list_all is_white gap ≡ true → is_white c ≡ true → list_all is_white (gap ++ c ∷ []) ≡ true
white_one gap c white is = list_all-append is_white gap (c ∷ []) ∙ and_from _ _ white (and_from _ _ is refl)

pub gap_one : (gap : List ℕ) (c : ℕ) → list_all is_white gap ≡ true → is_white c ≡ true → is_gap (gap ++ c ∷ []) ≡ true
gap_one [] c white is = and_from _ _ is refl
gap_one (d ∷ gap) c white is = white_one (d ∷ gap) c white is

-- a tag that was read, with white space behind
whole_tag : List ℕ → List Attribute → List ℕ → Tag
whole_tag word attributes gap = record { name = word; attributes = attributes; gap = gap }

-- the names of the open elements
spoiled_names : (os : List Open) → names_of (spoiled os) ≡ names_of os
spoiled_names [] = refl
spoiled_names (x ∷ xs) = refl

started_names : (o : Outer) (tag : ReadTag) → (names_of (started o tag).opens ≡ tag.name ∷ names_of o.opens) × ((started o tag).behind ≡ o.behind)
unfolding started
started_names o tag = (ap (λ z. tag.name ∷ z) (spoiled_names o.opens), refl)

hollowed_names : (o : Outer) (tag : ReadTag) → (names_of (hollowed o tag).opens ≡ names_of o.opens) × ((hollowed o tag).behind ≡ is_empty o.opens)
unfolding hollowed
hollowed_names o tag = (spoiled_names o.opens, refl)

pub no_names : (os : List Open) → names_of os ≡ [] → os ≡ []
no_names [] e = refl
no_names (x ∷ xs) e = absurd cc

agrees_opened : (x : Context) (tag : Tag) (o p : Outer) → may_open x ≡ true → names_of p.opens ≡ tag.name ∷ names_of o.opens → Agrees x o → Agrees (opened_in x tag) p
agrees_opened (Before h) tag o p may names agrees = names ∙ ap (λ os. tag.name ∷ names_of os) agrees.0
agrees_opened (Inside h f fs) tag o p may names agrees = names ∙ ap (λ z. tag.name ∷ z) agrees
agrees_opened (Behind h root after) tag o p may names agrees = absurd cc

agrees_hollowed : (x : Context) (tag : Tag) (o p : Outer) → may_open x ≡ true → names_of p.opens ≡ names_of o.opens → p.behind ≡ is_empty o.opens → Agrees x o → Agrees (hollowed_in x tag) p
agrees_hollowed (Before h) tag o p may names behind agrees = (no_names p.opens (names ∙ ap names_of agrees.0), behind ∙ ap is_empty agrees.0)
agrees_hollowed (Inside h f fs) tag o p may names behind agrees = names ∙ agrees
agrees_hollowed (Behind h root after) tag o p may names behind agrees = absurd cc

marks_opened : (x : Context) (tag : Tag) → may_open x ≡ true → MarksAre (opened_in x tag) 0
marks_opened (Before h) tag may = refl
marks_opened (Inside h f fs) tag may = refl
marks_opened (Behind h root after) tag may = absurd cc

marks_hollowed : (x : Context) (tag : Tag) → may_open x ≡ true → MarksAre (hollowed_in x tag) 0
marks_hollowed (Before h) tag may = tt
marks_hollowed (Inside h f fs) tag may = marks_join f.done _ 0
marks_hollowed (Behind h root after) tag may = absurd cc

tag_lawful : (word : List ℕ) (attributes : List Attribute) (gap : List ℕ) → is_name word ≡ true → list_all is_attribute attributes ≡ true → list_all is_white gap ≡ true → is_tag (record { name = word; attributes = attributes; gap = gap }) ≡ true
tag_lawful word attributes gap name lawful white = and_from _ _ name (and_from _ _ lawful white)

-- a tag ends
tag_starts : (t : ReadTag) (gap : List ℕ) (o : Outer) (front : List ℕ) → InTheTag t.name gap o front → list_all is_white gap ≡ true → InContent 0 (started o t) (front ++ 62 ∷ [])
tag_starts t gap o front h white =
    let tag : Tag = record { name = t.name; attributes = h.attributes; gap = gap } in
    let names = started_names o t in
    let is : written (opened_in h.here.context tag) ≡ written h.here.context ++ (tag_front t.name h.attributes gap ++ 62 ∷ []) = written_opened h.here.context tag h.may ∙ ap (λ z. written h.here.context ++ z) (on t.name (flat_map write_attribute h.attributes) gap) in
    record {
      here = at_turned o (started o t) front (tag_front t.name h.attributes gap) 62 h.here (opened_in h.here.context tag) (lawful_opened h.here.context tag h.may h.here.lawful (tag_lawful t.name h.attributes gap h.name h.lawful white)) (agrees_opened h.here.context tag o (started o t) h.may names.0 h.here.agrees) is;
      marks = marks_opened h.here.context tag h.may;
    }
  where
    on : (word attributes gap : List ℕ) → 60 ∷ ((word ++ (attributes ++ gap)) ++ 62 ∷ []) ≡ (60 ∷ (word ++ (attributes ++ gap))) ++ 62 ∷ []
    on word attributes gap = refl

tag_hollows : (t : ReadTag) (gap : List ℕ) (o : Outer) (front : List ℕ) → InTheTag t.name (gap ++ 47 ∷ []) o front → list_all is_white gap ≡ true → InContent 0 (hollowed o t) (front ++ 62 ∷ [])
tag_hollows t gap o front h white =
    let tag : Tag = record { name = t.name; attributes = h.attributes; gap = gap } in
    let names = hollowed_names o t in
    let is : written (hollowed_in h.here.context tag) ≡ written h.here.context ++ (tag_front t.name h.attributes (gap ++ 47 ∷ []) ++ 62 ∷ []) = written_hollowed h.here.context tag h.may ∙ ap (λ z. written h.here.context ++ z) (on t.name (flat_map write_attribute h.attributes) gap) in
    record {
      here = at_turned o (hollowed o t) front (tag_front t.name h.attributes (gap ++ 47 ∷ [])) 62 h.here (hollowed_in h.here.context tag) (lawful_hollowed h.here.context tag h.may h.here.lawful (tag_lawful t.name h.attributes gap h.name h.lawful white)) (agrees_hollowed h.here.context tag o (hollowed o t) h.may names.0 names.1 h.here.agrees) is;
      marks = marks_hollowed h.here.context tag h.may;
    }
  where
    on : (word attributes gap : List ℕ) → 60 ∷ ((word ++ (attributes ++ gap)) ++ 47 ∷ 62 ∷ []) ≡ (60 ∷ (word ++ (attributes ++ (gap ++ 47 ∷ [])))) ++ 62 ∷ []
    on word attributes gap = simp append_assoc

-- behind the name of a tag, an attribute, or white space
tag_step_stands : (o : Outer) (front : List ℕ) (t : ReadTag) (gap : List ℕ) (c : ℕ) (z : Mode × Outer) → InTheTag t.name gap o front → list_all is_white gap ≡ true → tag_step o t c ≡ Some z → Stands z (front ++ c ∷ [])
tag_step_stands o front t gap c z h white step = elim (which (is_white c) _ _ _ step) [
  | inl e ↦ subst (λ y. Stands y (front ++ c ∷ [])) e.1 (record { gap = gap ++ c ∷ []; tag = in_tag_more t.name gap (gap ++ c ∷ []) o front c refl h; white = white_one gap c white e.0; some = λ i. gap_one gap c white e.0 })
  | inr g ↦ elim (which (c == 47) _ _ _ g.1) [
    | inl e ↦ subst (λ y. Stands y (front ++ c ∷ [])) e.1 (record { gap = gap; tag = in_tag_more t.name gap (gap ++ 47 ∷ []) o front c (ap (λ d. gap ++ d ∷ []) (eqb-true c 47 e.0)) h; white = white })
    | inr g ↦ elim (which (c == 62) _ _ _ g.1) [
      | inl e ↦ subst (λ y. Stands y (front ++ c ∷ [])) e.1 (subst (λ d. InContent 0 (started o t) (front ++ d ∷ [])) (sym (eqb-true c 62 e.0)) (tag_starts t gap o front h white))
      | inr g ↦ never z g.1
    ]
  ]
]

-- a name is a tag without attributes
name_is_tag : (t : ReadTag) (o : Outer) (front : List ℕ) → InTagName t false o front → InTheTag t.name [] o front
name_is_tag t o front h = record {
  attributes = [];
  here = record { context = h.here.context; lawful = h.here.lawful; agrees = h.here.agrees; front_is = h.here.front_is ∙ ap (λ z. written h.here.context ++ 60 ∷ z) (sym (append-nil t.name)) };
  may = h.may;
  name = h.name;
  lawful = refl;
}

pub tag_name_stands : (o : Outer) (front : List ℕ) (at c : ℕ) (t : ReadTag) (starts : Bool) (z : Mode × Outer) → InTagName t starts o front → next (mode.TagName t starts) o at c ≡ Some z → Stands z (front ++ c ∷ [])
unfolding next
tag_name_stands o front at c t true z h step = elim (which (is_name_start c) _ _ _ step) [
  | inl e ↦ subst (λ y. Stands y (front ++ c ∷ [])) e.1 (record { here = at_more o front (60 ∷ t.name) (60 ∷ (t.name ++ c ∷ [])) c refl h.here; may = h.may; name = name_starts t.name c h.name e.0 })
  | inr g ↦ never z g.1
]
tag_name_stands o front at c t false z h step = elim (which (is_name_char c) _ _ _ step) [
  | inl e ↦ subst (λ y. Stands y (front ++ c ∷ [])) e.1 (record { here = at_more o front (60 ∷ t.name) (60 ∷ (t.name ++ c ∷ [])) c refl h.here; may = h.may; name = name_grows t.name c h.name e.0 })
  | inr g ↦ elim (which (c == 58) _ _ _ g.1) [
    | inl e ↦ subst (λ y. Stands y (front ++ c ∷ [])) e.1 (record { here = at_more o front (60 ∷ t.name) (60 ∷ (t.name ++ c ∷ [])) c refl h.here; may = h.may; name = subst (λ d. NameSoFar true (t.name ++ d ∷ [])) (sym (eqb-true c 58 e.0)) (name_colon t.name h.name) })
    | inr g ↦ tag_step_stands o front t [] c z (name_is_tag t o front h) refl g.1
  ]
]

pub in_tag_stands : (o : Outer) (front : List ℕ) (at c : ℕ) (t : ReadTag) (spaced : Bool) (z : Mode × Outer) → InTag t spaced o front → next (mode.InTag t spaced) o at c ≡ Some z → Stands z (front ++ c ∷ [])
unfolding next
in_tag_stands o front at c t spaced z h step = elim (which (spaced && is_name_start c) _ _ _ step) [
  | inl e ↦ let parts = and_parts spaced (is_name_start c) e.0 in
      subst (λ y. Stands y (front ++ c ∷ [])) e.1 (record { gap = h.gap; tag = in_tag_more t.name h.gap (h.gap ++ c ∷ []) o front c refl h.tag; white = h.some parts.0; name = name_begins c parts.1 })
  | inr g ↦ tag_step_stands o front t h.gap c z h.tag h.white g.1
]

pub slash_stands : (o : Outer) (front : List ℕ) (at c : ℕ) (t : ReadTag) (z : Mode × Outer) → InSlash t o front → next (mode.Slash t) o at c ≡ Some z → Stands z (front ++ c ∷ [])
unfolding next
slash_stands o front at c t z h step = elim (which (c == 62) _ _ _ step) [
  | inl e ↦ subst (λ y. Stands y (front ++ c ∷ [])) e.1 (subst (λ d. InContent 0 (hollowed o t) (front ++ d ∷ [])) (sym (eqb-true c 62 e.0)) (tag_hollows t h.gap o front h.tag h.white))
  | inr g ↦ never z g.1
]

pub attribute_name_stands : (o : Outer) (front : List ℕ) (at c : ℕ) (t : ReadTag) (n : ReadName) (starts : Bool) (z : Mode × Outer) → InAttributeName t n starts o front → next (mode.AttributeName t n starts) o at c ≡ Some z → Stands z (front ++ c ∷ [])
unfolding next
attribute_name_stands o front at c t n true z h step = elim (which_stays o (is_name_start c) _ _ z step) [
  | inl e ↦ subst (λ y. Stands y (front ++ c ∷ [])) e.1 (record { gap = h.gap; tag = in_tag_more t.name (h.gap ++ n.name) (h.gap ++ (n.name ++ c ∷ [])) o front c (append_assoc h.gap n.name (c ∷ [])) h.tag; white = h.white; name = name_starts n.name c h.name e.0 })
  | inr g ↦ never z g.1
]
attribute_name_stands o front at c t n false z h step = elim (which_stays o (is_name_char c) _ _ z step) [
  | inl e ↦ subst (λ y. Stands y (front ++ c ∷ [])) e.1 (record { gap = h.gap; tag = in_tag_more t.name (h.gap ++ n.name) (h.gap ++ (n.name ++ c ∷ [])) o front c (append_assoc h.gap n.name (c ∷ [])) h.tag; white = h.white; name = name_grows n.name c h.name e.0 })
  | inr g ↦ elim (which_stays o (c == 58) _ _ z g.1) [
    | inl e ↦ subst (λ y. Stands y (front ++ c ∷ [])) e.1 (record { gap = h.gap; tag = in_tag_more t.name (h.gap ++ n.name) (h.gap ++ (n.name ++ c ∷ [])) o front c (append_assoc h.gap n.name (c ∷ [])) h.tag; white = h.white; name = subst (λ d. NameSoFar true (n.name ++ d ∷ [])) (sym (eqb-true c 58 e.0)) (name_colon n.name h.name) })
    | inr g ↦ elim (which_stays o (is_white c) _ _ z g.1) [
      | inl e ↦ subst (λ y. Stands y (front ++ c ∷ [])) e.1 (record { gap = h.gap; before = c ∷ []; tag = in_tag_more t.name (h.gap ++ n.name) (h.gap ++ (n.name ++ c ∷ [])) o front c (append_assoc h.gap n.name (c ∷ [])) h.tag; white = h.white; name = h.name; before_white = and_from _ _ e.0 refl })
      | inr g ↦ elim (which_stays o (c == 61) _ _ z g.1) [
        | inl e ↦ subst (λ y. Stands y (front ++ c ∷ [])) e.1 (record { gap = h.gap; before = []; after = []; tag = in_tag_more t.name (h.gap ++ n.name) (h.gap ++ (n.name ++ 61 ∷ [])) o front c (append_assoc h.gap n.name (c ∷ []) ∙ ap (λ d. h.gap ++ (n.name ++ d ∷ [])) (eqb-true c 61 e.0)) h.tag; white = h.white; name = h.name; before_white = refl; after_white = refl })
        | inr g ↦ never z g.1
      ]
    ]
  ]
]

before_on : (gap name before : List ℕ) (c : ℕ) → (gap ++ (name ++ before)) ++ c ∷ [] ≡ gap ++ (name ++ (before ++ c ∷ []))
before_on gap name before c = simp append_assoc

pub before_equals_stands : (o : Outer) (front : List ℕ) (at c : ℕ) (t : ReadTag) (n : ReadName) (z : Mode × Outer) → InBeforeEquals t n o front → next (mode.BeforeEquals t n) o at c ≡ Some z → Stands z (front ++ c ∷ [])
unfolding next
before_equals_stands o front at c t n z h step = elim (which_stays o (is_white c) _ _ z step) [
  | inl e ↦ subst (λ y. Stands y (front ++ c ∷ [])) e.1 (record { gap = h.gap; before = h.before ++ c ∷ []; tag = in_tag_more t.name (h.gap ++ (n.name ++ h.before)) (h.gap ++ (n.name ++ (h.before ++ c ∷ []))) o front c (before_on h.gap n.name h.before c) h.tag; white = h.white; name = h.name; before_white = white_one h.before c h.before_white e.0 })
  | inr g ↦ elim (which_stays o (c == 61) _ _ z g.1) [
    | inl e ↦ subst (λ y. Stands y (front ++ c ∷ [])) e.1 (record { gap = h.gap; before = h.before; after = []; tag = in_tag_more t.name (h.gap ++ (n.name ++ h.before)) (h.gap ++ (n.name ++ (h.before ++ 61 ∷ []))) o front c (before_on h.gap n.name h.before c ∙ ap (λ d. h.gap ++ (n.name ++ (h.before ++ d ∷ []))) (eqb-true c 61 e.0)) h.tag; white = h.white; name = h.name; before_white = h.before_white; after_white = refl })
    | inr g ↦ never z g.1
  ]
]

after_on : (gap name before after : List ℕ) (c : ℕ) → (gap ++ (name ++ (before ++ 61 ∷ after))) ++ c ∷ [] ≡ gap ++ (name ++ (before ++ 61 ∷ (after ++ c ∷ [])))
after_on gap name before after c = simp append_assoc

pub after_equals_stands : (o : Outer) (front : List ℕ) (at c : ℕ) (t : ReadTag) (n : ReadName) (z : Mode × Outer) → InAfterEquals t n o front → next (mode.AfterEquals t n) o at c ≡ Some z → Stands z (front ++ c ∷ [])
unfolding next
after_equals_stands o front at c t n z h step = elim (which_stays o (is_white c) _ _ z step) [
  | inl e ↦ subst (λ y. Stands y (front ++ c ∷ [])) e.1 (record { gap = h.gap; before = h.before; after = h.after ++ c ∷ []; tag = in_tag_more t.name (h.gap ++ (n.name ++ (h.before ++ 61 ∷ h.after))) (h.gap ++ (n.name ++ (h.before ++ 61 ∷ (h.after ++ c ∷ [])))) o front c (after_on h.gap n.name h.before h.after c) h.tag; white = h.white; name = h.name; before_white = h.before_white; after_white = white_one h.after c h.after_white e.0 })
  | inr g ↦ elim (which_stays o (is_quote c) _ _ z g.1) [
    | inl e ↦ subst (λ y. Stands y (front ++ c ∷ [])) e.1 (record { gap = h.gap; before = h.before; after = h.after; pieces = []; tag = in_tag_more t.name (h.gap ++ (n.name ++ (h.before ++ 61 ∷ h.after))) (h.gap ++ (n.name ++ (h.before ++ 61 ∷ (h.after ++ c ∷ [])))) o front c (after_on h.gap n.name h.before h.after c) h.tag; white = h.white; name = h.name; before_white = h.before_white; after_white = h.after_white; quote = e.0; lawful = refl })
    | inr g ↦ never z g.1
  ]
]

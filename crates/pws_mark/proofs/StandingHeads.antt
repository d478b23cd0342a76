-- What was read goes on with each character: at the head of a document.
use Rattle.std.proofs.Common.{◌≡◌, ◌⊎◌, inl, inr, ℕ, zero, suc, ◌+◌, ◌≤◌, ◌<◌, Bool, true, false, not, ◌&&◌, List, [], ◌∷◌, ◌++◌, take, length, refl, ap, subst, sym, ◌∙◌, arith, append_assoc, append-nil, Option, Some, None}
use Rattle.std.specs.Prelude.{◌==◌, option_map, if◌then◌else◌, codes}
use Rattle.std.proofs.lemmas.Bool.{and_parts, and_from, eqb-true}
use Rattle.pws_mark.specs.Documents.{Char, Content, Nothing, Text, Declaration}
use Rattle.pws_mark.specs.Scan.{next, stays, region, region_in, opened_step, in_declaration, declaring_step, gap_step, value_begins, part_word, literal_word, has_at}
use Rattle.pws_mark.specs.States.{Outer}
use Rattle.pws_mark.specs.Tokens.{is_white, is_quote}
use Rattle.pws_mark.specs.declared.modes.Declaring.{Declaring}
use Rattle.pws_mark.specs.declared.modes.Declaring.TheVariants as declaring
use Rattle.pws_mark.specs.declared.modes.Literal.TheVariants as literal
use Rattle.pws_mark.specs.declared.modes.Mode.{Mode}
use Rattle.pws_mark.specs.declared.modes.Mode.TheVariants as mode
use Rattle.pws_mark.specs.declared.modes.Part.{Part}
use Rattle.pws_mark.specs.declared.modes.Part.TheVariants as part
use Rattle.pws_mark.specs.declared.modes.Region.TheVariants as region_is
use Rattle.pws_mark.proofs.Standing.{Head, LawfulHead, Before, At, write_front}
use Rattle.pws_mark.proofs.StandingTokens.{which}
use Rattle.pws_mark.proofs.StandingModes.{Stands, StandsIn, IsOutside, InStart, InHeadOpened, mark_text, Declared, None_read, Version_read, Encoding_read, All_read, write_declared, part_of, may_come, Declares, InWord, InGap, InPart, InPartName, InPartBefore, InPartAfter, InChoice, InDeclarationEnd}
use Rattle.pws_mark.proofs.StandingSteps.{which_stays, never, has_more}
use Rattle.pws_mark.proofs.StandingTags.{white_one, gap_one}
use Rattle.pws_mark.proofs.StandingValues.{opened_stands}

-- a byte order mark or none, and comments and white space
abbrev pub at_head : (o : Outer) (front : List ℕ) (mark : Bool) (declaration : Option Declaration) (before : Content) (more : List ℕ) → IsOutside o → LawfulHead (record { mark = mark; declaration = declaration; before = before }) → front ≡ write_front (record { mark = mark; declaration = declaration; before = before }) ++ more → At o front more
at_head o front mark declaration before more outside lawful is = record {
  context = Before (record { mark = mark; declaration = declaration; before = before });
  lawful = lawful;
  agrees = (outside.opens, outside.behind);
  front_is = is;
}

abbrev pub bare : Bool → Head
bare mark = record { mark = mark; declaration = None; before = Nothing }

front_bare : (mark : Bool) (more : List ℕ) → mark_text mark ++ more ≡ write_front (bare mark) ++ more
front_bare mark more = twice (mark_text mark)
  where
    twice : (xs : List ℕ) → xs ++ more ≡ ((xs ++ []) ++ []) ++ more
    twice xs = simp append-nil

pub start_stands : (o : Outer) (front : List ℕ) (at c : ℕ) (marked : Bool) (z : Mode × Outer) → InStart marked o front → next (mode.Start marked) o at c ≡ Some z → Stands z (front ++ c ∷ [])
unfolding next
start_stands o front at c marked z h step = elim (which_stays o (is_white c) _ _ z step) [
  | inl e ↦ subst (λ y. Stands y (front ++ c ∷ [])) e.1 (record { here = at_head o (front ++ c ∷ []) (not marked) None (Text (Char c) Nothing) [] h.outside (record { declaration = refl; before = and_from _ _ e.0 refl }) (ap (λ z. z ++ c ∷ []) h.is ∙ white (mark_text (not marked))); marks = tt })
  | inr g ↦ elim (which_stays o (c == 60) _ _ z g.1) [
    | inl e ↦ subst (λ y. Stands y (front ++ c ∷ [])) e.1 (record { outside = h.outside; mark = not marked; is = ap (λ z. z ++ c ∷ []) h.is ∙ ap (λ d. mark_text (not marked) ++ d ∷ []) (eqb-true c 60 e.0) })
    | inr g ↦ elim (which_stays o (marked && c == 0xFEFF) _ _ z g.1) [
      | inl e ↦ let parts = and_parts marked (c == 0xFEFF) e.0 in
          subst (λ y. Stands y (front ++ c ∷ [])) e.1 (record { outside = h.outside; is = ap (λ z. z ++ c ∷ []) (h.is ∙ ap (λ b. mark_text (not b)) parts.0) ∙ ap (λ d. d ∷ []) (eqb-true c 0xFEFF parts.1) })
      | inr g ↦ never z g.1
    ]
  ]
]
  where
    white : (mark : List ℕ) → mark ++ c ∷ [] ≡ ((mark ++ []) ++ c ∷ []) ++ []
    white mark = simp (append_assoc, append-nil)

pub head_at : (o : Outer) (front : List ℕ) (h : InHeadOpened o front) → At o front (60 ∷ [])
head_at o front h = at_head o front h.mark None Nothing (60 ∷ []) h.outside (record { declaration = refl; before = refl }) (h.is ∙ front_bare h.mark (60 ∷ []))

pub head_opened_stands : (o : Outer) (front : List ℕ) (at place c : ℕ) (z : Mode × Outer) → InHeadOpened o front → next (mode.HeadOpened place) o at c ≡ Some z → Stands z (front ++ c ∷ [])
unfolding next
head_opened_stands o front at place c z h step = elim (which_stays o (c == 63) _ _ z step) [
  | inl e ↦ subst (λ y. Stands y (front ++ c ∷ [])) e.1 (record { outside = h.outside; mark = h.mark; few = omega arith; is = ap (λ z. z ++ c ∷ []) h.is ∙ (append_assoc (mark_text h.mark) (60 ∷ []) (c ∷ []) ∙ ap (λ d. mark_text h.mark ++ 60 ∷ d ∷ []) (eqb-true c 63 e.0)) })
  | inr g ↦ opened_stands o front at place c z (head_at o front h) (ap (λ r. stays o (opened_step r place c)) before ∙ g.1)
]
  where
    before : region o ≡ region_is.Before
    before = ap (λ os. region_in os o.behind) h.outside.opens ∙ ap (λ b. region_in [] b) h.outside.behind

-- what was read of a declaration, with one character more
abbrev pub declares_more : (o : Outer) (front more last : List ℕ) (c : ℕ) → more ++ c ∷ [] ≡ last → Declares more o front → Declares last o (front ++ c ∷ [])
declares_more o front more last c e h = record {
  outside = h.outside;
  mark = h.mark;
  read = h.read;
  lawful = h.lawful;
  is = ap (λ z. z ++ c ∷ []) h.is ∙ (append_assoc (mark_text h.mark) (write_declared h.read ++ more) (c ∷ []) ∙ ap (λ z. mark_text h.mark ++ z) (append_assoc (write_declared h.read) more (c ∷ []) ∙ ap (λ z. write_declared h.read ++ z) e));
}

-- where a declaration is next
abbrev pub Goes_on : Option Declaring → Outer → List ℕ → Type 0
Goes_on e o front = StandsIn (in_declaration e) o front

pub none_step : {A : Type 0} (e : Option Declaring) → ◌≡◌ {A = Option (Option Declaring)} None (Some e) → A
none_step e h = absurd cc

which_part : (b : Bool) (d : Declaring) (y : Option Declaring) (e : Option Declaring) → option_map (λ x. Some x) (if b then Some d else y) ≡ Some e → ((b ≡ true) × (Some d ≡ e)) ⊎ ((b ≡ false) × (option_map (λ x. Some x) y ≡ Some e))
which_part true d y e h = inl (refl, let same : Some d ≡ e = cc in same)
which_part false d y e h = inr (refl, h)

has_inside : (word : List ℕ) (n c : ℕ) → has_at word n c ≡ true → n < length word
has_inside [] n c h = absurd cc
has_inside (d ∷ word) zero c h = omega arith
has_inside (d ∷ word) (suc n) c h = omega (arith, has_inside word n c h)

take_whole : (n : ℕ) (word : List ℕ) → n ≡ length word → take n word ≡ word
take_whole n word e = ap (λ k. take k word) e ∙ all word
  where
    all : (w : List ℕ) → take (length w) w ≡ w
    all [] = refl
    all (d ∷ w) = ap (λ z. d ∷ z) (all w)

abbrev pub in_part_more : (p : Part) (more last : List ℕ) (o : Outer) (front : List ℕ) (c : ℕ) → more ++ c ∷ [] ≡ last → InPart p more o front → InPart p last o (front ++ c ∷ [])
in_part_more p more last o front c e h = record { gap = h.gap; declares = declares_more o front (h.gap ++ more) (h.gap ++ last) c (append_assoc h.gap more (c ∷ []) ∙ ap (λ z. h.gap ++ z) e) h.declares; may = h.may; white = h.white }

pub word_goes : (o : Outer) (front : List ℕ) (n c : ℕ) (e : Option Declaring) → InWord n o front → declaring_step (declaring.Word n) c ≡ Some e → Goes_on e o (front ++ c ∷ [])
unfolding declaring_step
word_goes o front n c e h step = elim (which (has_at (codes "xml") n c) _ _ _ step) [
  | inl i ↦ subst (λ y. Goes_on y o (front ++ c ∷ [])) i.1 (record { outside = h.outside; mark = h.mark; few = omega (arith, has_inside (codes "xml") n c i.0); is = ap (λ z. z ++ c ∷ []) h.is ∙ (append_assoc (mark_text h.mark) (60 ∷ 63 ∷ take n (codes "xml")) (c ∷ []) ∙ ap (λ z. mark_text h.mark ++ 60 ∷ 63 ∷ z) (has_more n (codes "xml") c i.0)) })
  | inr g ↦ elim (which (n == 3 && is_white c) _ _ _ g.1) [
    | inl i ↦ let parts = and_parts (n == 3) (is_white c) i.0 in
        subst (λ y. Goes_on y o (front ++ c ∷ [])) i.1 (record {
          gap = c ∷ [];
          declares = record { outside = h.outside; mark = h.mark; read = None_read; lawful = tt; is = ap (λ z. z ++ c ∷ []) (h.is ∙ ap (λ k. mark_text h.mark ++ 60 ∷ 63 ∷ take k (codes "xml")) (eqb-true n 3 parts.0)) ∙ append_assoc (mark_text h.mark) (codes "<?xml") (c ∷ []) };
          comes = refl;
          white = and_from _ _ parts.1 refl;
          some = λ q. and_from _ _ parts.1 refl;
          first = λ q. refl;
        })
    | inr g ↦ none_step e g.1
  ]
]

-- a part begins
part_begins : (o : Outer) (front : List ℕ) (p q : Part) (spaced : Bool) (c d : ℕ) → InGap p spaced o front → spaced ≡ true → c ≡ d → ((x : Declared) → part_of x ≡ p → may_come x q ≡ true) → take 1 (part_word q) ≡ d ∷ [] → 1 ≤ length (part_word q) → InPartName q 1 o (front ++ c ∷ [])
part_begins o front p q spaced c d h is same may word long = record {
  at = record { gap = h.gap; declares = declares_more o front h.gap (h.gap ++ take 1 (part_word q)) c (ap (λ z. h.gap ++ z) (ap (λ b. b ∷ []) same ∙ sym word)) h.declares; may = may h.declares.read h.comes; white = h.some is };
  few = long;
}

gap_ends : (o : Outer) (front : List ℕ) (p : Part) (spaced : Bool) (c : ℕ) → InGap p spaced o front → (p ≡ part.Version → ⊥) → c ≡ 63 → InDeclarationEnd o (front ++ c ∷ [])
gap_ends o front p spaced c h other same = record { gap = h.gap; declares = declares_more o front h.gap (h.gap ++ 63 ∷ []) c (ap (λ d. h.gap ++ d ∷ []) same) h.declares; some = λ e. other (sym h.comes ∙ e); white = h.white }

version_may : (x : Declared) → part_of x ≡ part.Version → may_come x part.Version ≡ true
version_may None_read e = refl
version_may (Version_read v) e = absurd cc
version_may (Encoding_read v w) e = absurd cc
version_may (All_read v w s) e = absurd cc

encoding_may : (x : Declared) → part_of x ≡ part.Encoding → may_come x part.Encoding ≡ true
encoding_may None_read e = absurd cc
encoding_may (Version_read v) e = refl
encoding_may (Encoding_read v w) e = absurd cc
encoding_may (All_read v w s) e = absurd cc

standalone_may : (x : Declared) → part_of x ≡ part.Encoding → may_come x part.Standalone ≡ true
standalone_may None_read e = absurd cc
standalone_may (Version_read v) e = refl
standalone_may (Encoding_read v w) e = absurd cc
standalone_may (All_read v w s) e = absurd cc

standalone_then : (x : Declared) → part_of x ≡ part.Standalone → may_come x part.Standalone ≡ true
standalone_then None_read e = absurd cc
standalone_then (Version_read v) e = absurd cc
standalone_then (Encoding_read v w) e = refl
standalone_then (All_read v w s) e = absurd cc

gap_goes_on : (o : Outer) (front : List ℕ) (p : Part) (spaced : Bool) (c : ℕ) (e : Option Declaring) → InGap p spaced o front → option_map (λ x. Some x) (gap_step p spaced c) ≡ Some e → Goes_on e o (front ++ c ∷ [])
unfolding part_word
gap_goes_on o front part.Version spaced c e h step = elim (which_part (c == 118 && spaced) _ _ _ step) [
  | inl i ↦ let parts = and_parts (c == 118) spaced i.0 in subst (λ y. Goes_on y o (front ++ c ∷ [])) i.1 (part_begins o front part.Version part.Version spaced c 118 h parts.1 (eqb-true c 118 parts.0) version_may refl (omega arith))
  | inr g ↦ none_step e g.1
]
gap_goes_on o front part.Encoding spaced c e h step = elim (which_part (c == 101 && spaced) _ _ _ step) [
  | inl i ↦ let parts = and_parts (c == 101) spaced i.0 in subst (λ y. Goes_on y o (front ++ c ∷ [])) i.1 (part_begins o front part.Encoding part.Encoding spaced c 101 h parts.1 (eqb-true c 101 parts.0) encoding_may refl (omega arith))
  | inr g ↦ elim (which_part (c == 115 && spaced) _ _ _ g.1) [
    | inl i ↦ let parts = and_parts (c == 115) spaced i.0 in subst (λ y. Goes_on y o (front ++ c ∷ [])) i.1 (part_begins o front part.Encoding part.Standalone spaced c 115 h parts.1 (eqb-true c 115 parts.0) standalone_may refl (omega arith))
    | inr g ↦ elim (which_part (c == 63) _ _ _ g.1) [
      | inl i ↦ subst (λ y. Goes_on y o (front ++ c ∷ [])) i.1 (gap_ends o front part.Encoding spaced c h (λ q. absurd cc) (eqb-true c 63 i.0))
      | inr g ↦ none_step e g.1
    ]
  ]
]
gap_goes_on o front part.Standalone spaced c e h step = elim (which_part (c == 115 && spaced) _ _ _ step) [
  | inl i ↦ let parts = and_parts (c == 115) spaced i.0 in subst (λ y. Goes_on y o (front ++ c ∷ [])) i.1 (part_begins o front part.Standalone part.Standalone spaced c 115 h parts.1 (eqb-true c 115 parts.0) standalone_then refl (omega arith))
  | inr g ↦ elim (which_part (c == 63) _ _ _ g.1) [
    | inl i ↦ subst (λ y. Goes_on y o (front ++ c ∷ [])) i.1 (gap_ends o front part.Standalone spaced c h (λ q. absurd cc) (eqb-true c 63 i.0))
    | inr g ↦ none_step e g.1
  ]
]
gap_goes_on o front part.End spaced c e h step = elim (which_part (c == 63) _ _ _ step) [
  | inl i ↦ subst (λ y. Goes_on y o (front ++ c ∷ [])) i.1 (gap_ends o front part.End spaced c h (λ q. absurd cc) (eqb-true c 63 i.0))
  | inr g ↦ none_step e g.1
]

pub gap_goes : (o : Outer) (front : List ℕ) (p : Part) (spaced : Bool) (c : ℕ) (e : Option Declaring) → InGap p spaced o front → declaring_step (declaring.Gap p spaced) c ≡ Some e → Goes_on e o (front ++ c ∷ [])
unfolding declaring_step
gap_goes o front p spaced c e h step = elim (which (is_white c) _ _ _ step) [
  | inl i ↦ subst (λ y. Goes_on y o (front ++ c ∷ [])) i.1 (record { gap = h.gap ++ c ∷ []; declares = declares_more o front h.gap (h.gap ++ c ∷ []) c refl h.declares; comes = h.comes; white = white_one h.gap c h.white i.0; some = λ q. gap_one h.gap c h.white i.0; first = λ q. refl })
  | inr g ↦ gap_goes_on o front p spaced c e h g.1
]

pub name_goes : (o : Outer) (front : List ℕ) (p : Part) (n c : ℕ) (e : Option Declaring) → InPartName p n o front → declaring_step (declaring.Name p n) c ≡ Some e → Goes_on e o (front ++ c ∷ [])
unfolding declaring_step
name_goes o front p n c e h step = elim (which (has_at (part_word p) n c) _ _ _ step) [
  | inl i ↦ subst (λ y. Goes_on y o (front ++ c ∷ [])) i.1 (record { at = in_part_more p (take n (part_word p)) (take (n + 1) (part_word p)) o front c (has_more n (part_word p) c i.0) h.at; few = omega (arith, has_inside (part_word p) n c i.0) })
  | inr g ↦ elim (which (n == length (part_word p) && is_white c) _ _ _ g.1) [
    | inl i ↦ let parts = and_parts (n == length (part_word p)) (is_white c) i.0 in let whole = take_whole n (part_word p) (eqb-true n _ parts.0) in
        subst (λ y. Goes_on y o (front ++ c ∷ [])) i.1 (record { before = c ∷ []; at = in_part_more p (take n (part_word p)) (part_word p ++ c ∷ []) o front c (ap (λ w. w ++ c ∷ []) whole) h.at; white = and_from _ _ parts.1 refl })
    | inr g ↦ elim (which (n == length (part_word p) && c == 61) _ _ _ g.1) [
      | inl i ↦ let parts = and_parts (n == length (part_word p)) (c == 61) i.0 in let whole = take_whole n (part_word p) (eqb-true n _ parts.0) in
          subst (λ y. Goes_on y o (front ++ c ∷ [])) i.1 (record { before = []; after = []; at = in_part_more p (take n (part_word p)) (part_word p ++ 61 ∷ []) o front c (ap (λ w. w ++ c ∷ []) whole ∙ ap (λ d. part_word p ++ d ∷ []) (eqb-true c 61 parts.1)) h.at; before_white = refl; after_white = refl })
      | inr g ↦ none_step e g.1
    ]
  ]
]

pub before_goes : (o : Outer) (front : List ℕ) (p : Part) (c : ℕ) (e : Option Declaring) → InPartBefore p o front → declaring_step (declaring.BeforeEquals p) c ≡ Some e → Goes_on e o (front ++ c ∷ [])
unfolding declaring_step
before_goes o front p c e h step = elim (which (is_white c) _ _ _ step) [
  | inl i ↦ subst (λ y. Goes_on y o (front ++ c ∷ [])) i.1 (record { before = h.before ++ c ∷ []; at = in_part_more p (part_word p ++ h.before) (part_word p ++ (h.before ++ c ∷ [])) o front c (append_assoc (part_word p) h.before (c ∷ [])) h.at; white = white_one h.before c h.white i.0 })
  | inr g ↦ elim (which (c == 61) _ _ _ g.1) [
    | inl i ↦ subst (λ y. Goes_on y o (front ++ c ∷ [])) i.1 (record { before = h.before; after = []; at = in_part_more p (part_word p ++ h.before) (part_word p ++ (h.before ++ 61 ∷ [])) o front c (append_assoc (part_word p) h.before (c ∷ []) ∙ ap (λ d. part_word p ++ (h.before ++ d ∷ [])) (eqb-true c 61 i.0)) h.at; before_white = h.white; after_white = refl })
    | inr g ↦ none_step e g.1
  ]
]

abbrev pub part_after_more : (p : Part) (more last : List ℕ) (o : Outer) (front : List ℕ) (c : ℕ) → more ++ c ∷ [] ≡ last → InPartAfter p more o front → InPartAfter p last o (front ++ c ∷ [])
part_after_more p more last o front c e h = record {
  before = h.before;
  after = h.after;
  at = in_part_more p (part_word p ++ (h.before ++ 61 ∷ (h.after ++ more))) (part_word p ++ (h.before ++ 61 ∷ (h.after ++ last))) o front c (on (part_word p) h.before h.after more ∙ ap (λ z. part_word p ++ (h.before ++ 61 ∷ (h.after ++ z))) e) h.at;
  before_white = h.before_white;
  after_white = h.after_white;
}
  where
    on : (word before after more : List ℕ) → (word ++ (before ++ 61 ∷ (after ++ more))) ++ c ∷ [] ≡ word ++ (before ++ 61 ∷ (after ++ (more ++ c ∷ [])))
    on word before after more = simp append_assoc

pub after_goes : (o : Outer) (front : List ℕ) (p : Part) (c : ℕ) (e : Option Declaring) → InPartAfter p [] o front → declaring_step (declaring.AfterEquals p) c ≡ Some e → Goes_on e o (front ++ c ∷ [])
unfolding declaring_step
after_goes o front p c e h step = elim (which (is_white c) _ _ _ step) [
  | inl i ↦ subst (λ y. Goes_on y o (front ++ c ∷ [])) i.1 (record { before = h.before; after = h.after ++ c ∷ []; at = (white_after i.0).at; before_white = h.before_white; after_white = white_one h.after c h.after_white i.0 })
  | inr g ↦ quoted p (is_quote c) refl h g.1
]
  where
    on : (word before after : List ℕ) → (word ++ (before ++ 61 ∷ (after ++ []))) ++ c ∷ [] ≡ word ++ (before ++ 61 ∷ ((after ++ c ∷ []) ++ []))
    on word before after = simp (append_assoc, append-nil)

    white_after : is_white c ≡ true → InPartAfter p [] o (front ++ c ∷ [])
    white_after white = record { before = h.before; after = h.after ++ c ∷ []; at = in_part_more p (part_word p ++ (h.before ++ 61 ∷ (h.after ++ []))) (part_word p ++ (h.before ++ 61 ∷ ((h.after ++ c ∷ []) ++ []))) o front c (on (part_word p) h.before h.after) h.at; before_white = h.before_white; after_white = white_one h.after c h.after_white white }

    quoted : (q : Part) (b : Bool) → is_quote c ≡ b → InPartAfter q [] o front → (if b then option_map (λ x. Some x) (value_begins q c) else None) ≡ Some e → Goes_on e o (front ++ c ∷ [])
    quoted q false i k g = none_step e g
    quoted part.Version true i k g = let same : Some (declaring.Value literal.One c 0) ≡ e = cc in subst (λ y. Goes_on y o (front ++ c ∷ [])) same (record { chars = []; todo = literal_word literal.One; at = part_after_more part.Version [] (c ∷ []) o front c refl k; quote = i; word = refl; size = refl })
    quoted part.Encoding true i k g = let same : Some (declaring.Value literal.Utf8 c 0) ≡ e = cc in subst (λ y. Goes_on y o (front ++ c ∷ [])) same (record { chars = []; todo = literal_word literal.Utf8; at = part_after_more part.Encoding [] (c ∷ []) o front c refl k; quote = i; word = refl; size = refl })
    quoted part.Standalone true i k g = let same : Some (declaring.Choice c) ≡ e = cc in subst (λ y. Goes_on y o (front ++ c ∷ [])) same (record { at = part_after_more part.Standalone [] (c ∷ []) o front c refl k; quote = i })
    quoted part.End true i k g = none_step e g

pub choice_goes : (o : Outer) (front : List ℕ) (q c : ℕ) (e : Option Declaring) → InChoice q o front → declaring_step (declaring.Choice q) c ≡ Some e → Goes_on e o (front ++ c ∷ [])
unfolding declaring_step literal_word
choice_goes o front q c e h step = elim (which (c == 121) _ _ _ step) [
  | inl i ↦ subst (λ y. Goes_on y o (front ++ c ∷ [])) i.1 (record { chars = c ∷ []; todo = 101 ∷ 115 ∷ []; at = part_after_more part.Standalone (q ∷ []) (q ∷ c ∷ []) o front c refl h.at; quote = h.quote; word = ap (λ d. d ∷ 101 ∷ 115 ∷ []) (sym (eqb-true c 121 i.0)); size = refl })
  | inr g ↦ elim (which (c == 110) _ _ _ g.1) [
    | inl i ↦ subst (λ y. Goes_on y o (front ++ c ∷ [])) i.1 (record { chars = c ∷ []; todo = 111 ∷ []; at = part_after_more part.Standalone (q ∷ []) (q ∷ c ∷ []) o front c refl h.at; quote = h.quote; word = ap (λ d. d ∷ 111 ∷ []) (sym (eqb-true c 110 i.0)); size = refl })
    | inr g ↦ none_step e g.1
  ]
]

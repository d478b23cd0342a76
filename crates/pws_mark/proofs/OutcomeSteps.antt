-- From where the reader comes to its first marks, and what it keeps free of them.
use Rattle.std.proofs.Common.{◌≡◌, ◌⊎◌, inr, ℕ, ◌+◌, ◌-◌, Bool, true, false, not, ◌&&◌, List, [], ◌∷◌, ◌++◌, length, refl, ap, subst, sym, ◌∙◌, Option, Some, None}
use Rattle.std.specs.Prelude.{◌==◌, if◌then◌else◌, codes, option_map}
use Rattle.std.specs.List.{list_all}
use Rattle.std.proofs.lemmas.Bool.{and_from, eqb-true}
use Rattle.std.proofs.lemmas.List.Folds.{list_all-append}
use Rattle.pws_tree.specs.Characters.{is_name_start, is_name_char, name_start_ranges, name_more_ranges}
use Rattle.pws_mark.specs.Scan.{stays, opened_step, brackets_taken, tag_begins, declaring_step, gap_step, value_begins, in_declaration, has_at, part_word, literal_word, as_compared, part_behind}
use Rattle.pws_mark.specs.States.{Open, Outer, started, hollowed, ended, taken, taken_in, spoiled}
use Rattle.pws_mark.specs.Tokens.{is_white, is_quote}
use Rattle.pws_mark.specs.declared.modes.Declaring.{Declaring}
use Rattle.pws_mark.specs.declared.modes.Declaring.TheVariants as declaring
use Rattle.pws_mark.specs.declared.modes.Part.{Part}
use Rattle.pws_mark.specs.declared.modes.Part.TheVariants as part
use Rattle.pws_mark.specs.declared.modes.Literal.TheVariants as literal
use Rattle.pws_mark.specs.declared.modes.ReadTag.{ReadTag}
use Rattle.pws_mark.specs.declared.modes.Region.{Region}
use Rattle.pws_mark.specs.declared.modes.Region.TheVariants as region_is
use Rattle.pws_mark.specs.declared.modes.Mode.{Mode}
use Rattle.pws_mark.specs.declared.modes.Mode.TheVariants as mode
use Rattle.pws_mark.proofs.Going.{other}
use Rattle.pws_mark.proofs.OutcomeMarks.{is_opened}
use Rattle.pws_mark.proofs.OutcomeQuestions.{is_start}

abbrev pub is_content : Mode → Bool
is_content (mode.Content n after_return) = true
is_content _ = false

abbrev pub is_head : Mode → Bool
is_head (mode.HeadOpened at) = true
is_head _ = false

-- from where a mode is reached, and at which character
abbrev pub Came : Mode → Outer → ℕ → Mode → Outer → Type 0
Came m o c (mode.Start marked) p = (m ≡ mode.Start true) × (c ≡ 0xFEFF) × (marked ≡ false)
Came m o c (mode.HeadOpened at) p = (is_start m ≡ true) × (c ≡ 60) × (p ≡ o)
Came m o c (mode.Opened at) p = (is_content m ≡ true) × (c ≡ 60) × (p ≡ o)
Came m o c mode.Bang p = (is_opened m ≡ true) × (c ≡ 33) × (p ≡ o)
Came m o c (mode.Declaring (declaring.Word n)) p = ((is_head m ≡ true) × (c ≡ 63) × (n ≡ 0)) ⊎ ((i : ℕ) × (m ≡ mode.Declaring (declaring.Word i)) × (n ≡ i + 1) × (has_at (codes "xml") i c ≡ true))
Came m o c _ p = Unit {0}

-- no < stands in a name, and quotes are quotes
abbrev pub no_mark : List ℕ → Bool
no_mark name = list_all (λ c. not (c == 60)) name

abbrev pub PlainOpens : List Open → Type 0
PlainOpens [] = Unit {0}
PlainOpens (x ∷ xs) = (no_mark x.name ≡ true) × PlainOpens xs

abbrev pub PlainMode : Mode → Type 0
PlainMode (mode.Declaring (declaring.Choice q)) = is_quote q ≡ true
PlainMode (mode.Declaring (declaring.Value l q n)) = is_quote q ≡ true
PlainMode (mode.TagName tag starts) = no_mark tag.name ≡ true
PlainMode (mode.InTag tag spaced) = no_mark tag.name ≡ true
PlainMode (mode.Slash tag) = no_mark tag.name ≡ true
PlainMode (mode.AttributeName tag name starts) = no_mark tag.name ≡ true
PlainMode (mode.BeforeEquals tag name) = no_mark tag.name ≡ true
PlainMode (mode.AfterEquals tag name) = no_mark tag.name ≡ true
PlainMode (mode.Value tag name v) = (no_mark tag.name ≡ true) × (is_quote v.quote ≡ true)
PlainMode (mode.ValueReference tag name v at r) = (no_mark tag.name ≡ true) × (is_quote v.quote ≡ true)
PlainMode _ = Unit {0}

pub record Good (m : Mode) (o : Outer) (c : ℕ) (x : Option (Mode × Outer)) : Type 0 where
  pub is : (n : Mode) (p : Outer) → x ≡ Some (n, p) → Came m o c n p × PlainMode n × PlainOpens p.opens

pub record GoodMode (m : Mode) (o : Outer) (c : ℕ) (x : Option Mode) : Type 0 where
  pub is : (n : Mode) → x ≡ Some n → Came m o c n o × PlainMode n

pub good : {m : Mode} {o : Outer} {c : ℕ} (n : Mode) (p : Outer) → Came m o c n p → PlainMode n → PlainOpens p.opens → Good m o c (Some (n, p))
good {m} {o} {c} n p a b d = record { is = λ k q e. let same : ◌≡◌ {A = Mode × Outer} (n, p) (k, q) = cc in subst (λ (z : Mode × Outer). Came m o c z.0 z.1 × PlainMode z.0 × PlainOpens (z.1).opens) same (a, b, d) }

pub no_good : {m : Mode} {o : Outer} {c : ℕ} → Good m o c None
no_good = record { is = λ k q e. absurd cc }

pub if_good : {m : Mode} {o : Outer} {c : ℕ} (b : Bool) (x y : Option (Mode × Outer)) → (b ≡ true → Good m o c x) → (b ≡ false → Good m o c y) → Good m o c (if b then x else y)
if_good true x y f g = f refl
if_good false x y f g = g refl

pub fine : {m : Mode} {o : Outer} {c : ℕ} (n : Mode) → Came m o c n o → PlainMode n → GoodMode m o c (Some n)
fine {m} {o} {c} n a b = record { is = λ k e. let same : n ≡ k = cc in subst (λ z. Came m o c z o × PlainMode z) same (a, b) }

pub not_fine : {m : Mode} {o : Outer} {c : ℕ} → GoodMode m o c None
not_fine = record { is = λ k e. absurd cc }

pub if_fine : {m : Mode} {o : Outer} {c : ℕ} (b : Bool) (x y : Option Mode) → (b ≡ true → GoodMode m o c x) → (b ≡ false → GoodMode m o c y) → GoodMode m o c (if b then x else y)
if_fine true x y f g = f refl
if_fine false x y f g = g refl

pub stays_good : {m : Mode} {o : Outer} {c : ℕ} (x : Option Mode) → PlainOpens o.opens → GoodMode m o c x → Good m o c (stays o x)
stays_good None d h = no_good
stays_good {m} {o} {c} (Some n) d h = let both = h.is n refl in good n o both.0 both.1 d

if_declared : {m : Mode} {o : Outer} {c : ℕ} (b : Bool) (x y : Option (Option Declaring)) → (b ≡ true → GoodMode m o c (option_map in_declaration x)) → (b ≡ false → GoodMode m o c (option_map in_declaration y)) → GoodMode m o c (option_map in_declaration (if b then x else y))
if_declared true x y f g = f refl
if_declared false x y f g = g refl

if_some : {m : Mode} {o : Outer} {c : ℕ} (b : Bool) (x y : Option Declaring) → (b ≡ true → GoodMode m o c (option_map in_declaration (option_map (λ d. Some d) x))) → (b ≡ false → GoodMode m o c (option_map in_declaration (option_map (λ d. Some d) y))) → GoodMode m o c (option_map in_declaration (option_map (λ d. Some d) (if b then x else y)))
if_some true x y f g = f refl
if_some false x y f g = g refl

-- names

pub start_plain : (c : ℕ) → is_name_start c ≡ true → not (c == 60) ≡ true
unfolding name_start_ranges
start_plain c h = ap not (other is_name_start c 60 h refl)

pub char_plain : (c : ℕ) → is_name_char c ≡ true → not (c == 60) ≡ true
unfolding name_start_ranges name_more_ranges
char_plain c h = ap not (other is_name_char c 60 h refl)

pub colon_plain : (c : ℕ) → (c == 58) ≡ true → not (c == 60) ≡ true
colon_plain c h = subst (λ d. not (d == 60) ≡ true) (sym (eqb-true c 58 h)) refl

pub one_plain : (c : ℕ) → not (c == 60) ≡ true → no_mark (c ∷ []) ≡ true
one_plain c h = and_from (not (c == 60)) true h refl

pub more_plain : (name : List ℕ) (c : ℕ) → no_mark name ≡ true → not (c == 60) ≡ true → no_mark (name ++ c ∷ []) ≡ true
more_plain name c a b = list_all-append (λ d. not (d == 60)) name (c ∷ []) ∙ and_from (no_mark name) (no_mark (c ∷ [])) a (one_plain c b)

-- what is around

pub taken_plain : (o : Outer) (at : ℕ) (c : Option ℕ) (bytes : List ℕ) → PlainOpens o.opens → PlainOpens (taken o at c bytes).opens
unfolding taken
taken_plain o at c bytes h = by o.opens h
  where
    by : (opens : List Open) → PlainOpens opens → PlainOpens (taken_in opens o.behind o.events o.text at c bytes).opens
    by [] g = tt
    by (x ∷ xs) g = g

spoiled_plain : (opens : List Open) → PlainOpens opens → PlainOpens (spoiled opens)
spoiled_plain [] h = tt
spoiled_plain (x ∷ xs) h = h

pub started_plain : (o : Outer) (tag : ReadTag) → no_mark tag.name ≡ true → PlainOpens o.opens → PlainOpens (started o tag).opens
unfolding started
started_plain o tag a h = (a, spoiled_plain o.opens h)

pub hollowed_plain : (o : Outer) (tag : ReadTag) → PlainOpens o.opens → PlainOpens (hollowed o tag).opens
unfolding hollowed
hollowed_plain o tag h = spoiled_plain o.opens h

pub ended_plain : (o : Outer) (x : Open) (xs : List Open) → PlainOpens xs → PlainOpens (ended x xs o.events o.text).opens
unfolding ended
ended_plain o x xs h = h

pub brackets_plain : (o : Outer) (at n : ℕ) → PlainOpens o.opens → PlainOpens (brackets_taken o at n).opens
brackets_plain o at n h = by (n == 0) (n == 1)
  where
    by : (a b : Bool) → PlainOpens (if a then o else if b then taken o (at - 1) (Some 93) (93 ∷ []) else taken (taken o (at - 2) (Some 93) (93 ∷ [])) (at - 1) (Some 93) (93 ∷ [])).opens
    by true b = h
    by false true = taken_plain o (at - 1) (Some 93) (93 ∷ []) h
    by false false = taken_plain (taken o (at - 2) (Some 93) (93 ∷ [])) (at - 1) (Some 93) (93 ∷ []) (taken_plain o (at - 2) (Some 93) (93 ∷ []) h)

-- mode by mode

pub opened_good : {m : Mode} {o : Outer} {c : ℕ} → is_opened m ≡ true → (r : Region) (place : ℕ) → GoodMode m o c (opened_step r place c)
opened_good {m} {o} {c} h region_is.Before place =
    if_fine (is_name_start c) _ _ (λ e. fine (tag_begins place c) tt (one_plain c (start_plain c e))) (λ _. if_fine (c == 33) _ _ (λ e. fine mode.Bang (h, eqb-true c 33 e, refl) tt) (λ _. not_fine))
opened_good {m} {o} {c} h region_is.Inside place =
    if_fine (is_name_start c) _ _ (λ e. fine (tag_begins place c) tt (one_plain c (start_plain c e))) (λ _. if_fine (c == 33) _ _ (λ e. fine mode.Bang (h, eqb-true c 33 e, refl) tt)
    (λ _. if_fine (c == 47) _ _ (λ e. fine (mode.EndName 0) tt tt) (λ _. not_fine)))
opened_good {m} {o} {c} h region_is.Behind place = if_fine (c == 33) _ _ (λ e. fine mode.Bang (h, eqb-true c 33 e, refl) tt) (λ _. not_fine)

gap_good : {m : Mode} {o : Outer} {c : ℕ} (p : Part) (spaced : Bool) → GoodMode m o c (option_map in_declaration (option_map (λ d. Some d) (gap_step p spaced c)))
gap_good {m} {o} {c} part.Version spaced = if_some (c == 118 && spaced) _ _ (λ e. fine (mode.Declaring (declaring.Name part.Version 1)) tt tt) (λ _. not_fine)
gap_good {m} {o} {c} part.Encoding spaced =
    if_some (c == 101 && spaced) _ _ (λ e. fine (mode.Declaring (declaring.Name part.Encoding 1)) tt tt) (λ _. if_some (c == 115 && spaced) _ _ (λ e. fine (mode.Declaring (declaring.Name part.Standalone 1)) tt tt)
    (λ _. if_some (c == 63) _ _ (λ e. fine (mode.Declaring declaring.End) tt tt) (λ _. not_fine)))
gap_good {m} {o} {c} part.Standalone spaced =
    if_some (c == 115 && spaced) _ _ (λ e. fine (mode.Declaring (declaring.Name part.Standalone 1)) tt tt) (λ _. if_some (c == 63) _ _ (λ e. fine (mode.Declaring declaring.End) tt tt) (λ _. not_fine))
gap_good {m} {o} {c} part.End spaced = if_some (c == 63) _ _ (λ e. fine (mode.Declaring declaring.End) tt tt) (λ _. not_fine)

begins_good : {m : Mode} {o : Outer} {c : ℕ} (p : Part) → is_quote c ≡ true → GoodMode m o c (option_map in_declaration (option_map (λ d. Some d) (value_begins p c)))
begins_good {m} {o} {c} part.Version h = fine (mode.Declaring (declaring.Value literal.One c 0)) tt h
begins_good {m} {o} {c} part.Encoding h = fine (mode.Declaring (declaring.Value literal.Utf8 c 0)) tt h
begins_good {m} {o} {c} part.Standalone h = fine (mode.Declaring (declaring.Choice c)) tt h
begins_good {m} {o} {c} part.End h = not_fine

pub declared_good : (d : Declaring) (o : Outer) (c : ℕ) → PlainMode (mode.Declaring d) → GoodMode (mode.Declaring d) o c (option_map in_declaration (declaring_step d c))
unfolding declaring_step
declared_good (declaring.Word n) o c h =
    if_declared (has_at (codes "xml") n c) _ _ (λ e. fine (mode.Declaring (declaring.Word (n + 1))) (inr (n, refl, refl, e)) tt)
    (λ _. if_declared (n == 3 && is_white c) _ _ (λ e. fine (mode.Declaring (declaring.Gap part.Version true)) tt tt) (λ _. not_fine))
declared_good (declaring.Gap p spaced) o c h = if_declared (is_white c) _ _ (λ e. fine (mode.Declaring (declaring.Gap p true)) tt tt) (λ _. gap_good p spaced)
declared_good (declaring.Name p n) o c h =
    if_declared (has_at (part_word p) n c) _ _ (λ e. fine (mode.Declaring (declaring.Name p (n + 1))) tt tt)
    (λ _. if_declared (n == length (part_word p) && is_white c) _ _ (λ e. fine (mode.Declaring (declaring.BeforeEquals p)) tt tt)
    (λ _. if_declared (n == length (part_word p) && c == 61) _ _ (λ e. fine (mode.Declaring (declaring.AfterEquals p)) tt tt) (λ _. not_fine)))
declared_good (declaring.BeforeEquals p) o c h =
    if_declared (is_white c) _ _ (λ e. fine (mode.Declaring (declaring.BeforeEquals p)) tt tt) (λ _. if_declared (c == 61) _ _ (λ e. fine (mode.Declaring (declaring.AfterEquals p)) tt tt) (λ _. not_fine))
declared_good (declaring.AfterEquals p) o c h =
    if_declared (is_white c) _ _ (λ e. fine (mode.Declaring (declaring.AfterEquals p)) tt tt) (λ _. if_declared (is_quote c) _ _ (λ e. begins_good p e) (λ _. not_fine))
declared_good (declaring.Choice q) o c h =
    if_declared (c == 121) _ _ (λ e. fine (mode.Declaring (declaring.Value literal.Yes q 1)) tt h) (λ _. if_declared (c == 110) _ _ (λ e. fine (mode.Declaring (declaring.Value literal.No q 1)) tt h) (λ _. not_fine))
declared_good (declaring.Value l q n) o c h =
    if_declared (has_at (literal_word l) n (as_compared l c)) _ _ (λ e. fine (mode.Declaring (declaring.Value l q (n + 1))) tt h)
    (λ _. if_declared (n == length (literal_word l) && c == q) _ _ (λ e. fine (mode.Declaring (declaring.Gap (part_behind l) false)) tt tt) (λ _. not_fine))
declared_good declaring.End o c h = if_declared (c == 62) _ _ (λ e. fine (mode.Content 0 false) tt tt) (λ _. not_fine)

-- What is known of each run of the reader.
use Rattle.std.proofs.Common.{◌≡◌, ◌⊎◌, inl, inr, ℕ, zero, suc, ◌+◌, ◌≤◌, Bool, true, false, not, ◌&&◌, List, [], ◌∷◌, ◌++◌, length, take, refl, ap, subst, sym, ◌∙◌, append_assoc, append-nil, arith, Option, Some, None}
use Rattle.std.specs.Prelude.{◌==◌, if◌then◌else◌, codes, option_map}
use Rattle.std.proofs.lemmas.Bool.{and_parts, eqb-true}
use Rattle.pws_tree.specs.Characters.{xml_ranges, name_start_ranges, name_more_ranges}
use Rattle.pws_mark.specs.ReaderLaws.{is_early_in}
use Rattle.pws_mark.specs.Scan.{step, run, start, next, region, stays, either, opened_step, bang_step, content_step, section_word, declaring_step, gap_step, in_declaration, has_at, part_word, literal_word, as_compared, reference_step, in_text, in_value, end_name_step, end_gap_step, is_within}
use Rattle.pws_mark.specs.States.{Open, Outer, State}
use Rattle.pws_mark.specs.Tokens.{is_white}
use Rattle.pws_mark.specs.declared.modes.Declaring.{Declaring}
use Rattle.pws_mark.specs.declared.modes.Declaring.TheVariants as declaring
use Rattle.pws_mark.specs.declared.modes.Part.{Part}
use Rattle.pws_mark.specs.declared.modes.Part.TheVariants as part
use Rattle.pws_mark.specs.declared.modes.Literal.{Literal}
use Rattle.pws_mark.specs.declared.modes.Literal.TheVariants as literal
use Rattle.pws_mark.specs.declared.modes.Reference.{Reference}
use Rattle.pws_mark.specs.declared.modes.Reference.TheVariants as reference
use Rattle.pws_mark.specs.declared.modes.Region.{Region}
use Rattle.pws_mark.specs.declared.modes.Region.TheVariants as region_is
use Rattle.pws_mark.specs.declared.modes.Mode.{Mode}
use Rattle.pws_mark.specs.declared.modes.Mode.TheVariants as mode
use Rattle.pws_mark.proofs.TakesTags.{quote_is}
use Rattle.pws_mark.proofs.OutcomeInverse.{RunsAreKnown, Known, IsBehind, IsInWord}
use Rattle.pws_mark.proofs.OutcomeKept.{next_good}
use Rattle.pws_mark.proofs.OutcomeLongest.{run_one}
use Rattle.pws_mark.proofs.OutcomeMarks.{is_opened, stepped, first, run_nothing}
use Rattle.pws_mark.proofs.OutcomeQuestions.{is_start, IsHead, MarksOpen, HeadsBegin}
use Rattle.pws_mark.proofs.OutcomeSteps.{Came, PlainMode, PlainOpens, no_mark, is_content, is_head}

record Keeps (front : List ℕ) (s : State) : Type 0 where
  there : run start front ≡ Some s
  known : Known s.mode s.outer front
  plain : PlainMode s.mode
  opens : PlainOpens s.outer.opens

start_known : (m : Mode) (o : Outer) (front : List ℕ) → is_start m ≡ true → Known m o front → IsHead front
start_known (mode.Start true) o front h k = inl k
start_known (mode.Start false) o front h k = inr k
start_known _ o front h k = absurd cc

start_early : (m : Mode) → is_start m ≡ true → is_early_in m ≡ true
start_early (mode.Start marked) h = refl
start_early _ h = absurd cc

content_early : (m : Mode) → is_content m ≡ true → (is_early_in m ≡ true) × (is_start m ≡ false)
content_early (mode.Content n after_return) h = (refl, refl)
content_early _ h = absurd cc

opened_known : (m : Mode) (o : Outer) (front : List ℕ) → is_opened m ≡ true → Known m o front → (starts : Bool) × IsBehind (60 ∷ []) front o starts
opened_known (mode.HeadOpened at) o front h k = (true, k)
opened_known (mode.Opened at) o front h k = (false, k)
opened_known _ o front h k = absurd cc

head_known : (m : Mode) (o : Outer) (front : List ℕ) → is_head m ≡ true → Known m o front → IsBehind (60 ∷ []) front o true
head_known (mode.HeadOpened at) o front h k = k
head_known _ o front h k = absurd cc

letter_next : (i c : ℕ) → has_at (codes "xml") i c ≡ true → (take i (codes "xml") ++ c ∷ [] ≡ take (i + 1) (codes "xml")) × (i + 1 ≤ 3)
letter_next zero c h = let e : 120 ≡ c = eqb-true 120 c h in (ap (λ z. z ∷ []) (sym e), omega arith)
letter_next (suc zero) c h = let e : 109 ≡ c = eqb-true 109 c h in (ap (λ z. 120 ∷ z ∷ []) (sym e), omega arith)
letter_next (suc (suc zero)) c h = let e : 108 ≡ c = eqb-true 108 c h in (ap (λ z. 120 ∷ 109 ∷ z ∷ []) (sym e), omega arith)
letter_next (suc (suc (suc i))) c h = absurd cc

came_known : (front : List ℕ) (c : ℕ) (s : State) → Keeps front s → (n : Mode) (p : Outer) → Came s.mode s.outer c n p → Known n p (front ++ c ∷ [])
came_known front c s k (mode.Start true) p h = absurd (let e = h.2 in cc)
came_known front c s k (mode.Start false) p h =
    let none : front ≡ [] = subst (λ m. Known m s.outer front) h.0 k.known in (λ i. none i ++ h.1 i ∷ [])
came_known front c s k (mode.HeadOpened at) p h = record {
  xs = front;
  before = s;
  front_is = ap (λ z. front ++ z ∷ []) h.1;
  there = k.there;
  early = start_early s.mode h.0;
  outer_is = h.2;
  starts_is = h.0;
  head = λ e. start_known s.mode s.outer front h.0 k.known;
}
came_known front c s k (mode.Opened at) p h =
    let both = content_early s.mode h.0 in
    record { xs = front; before = s; front_is = ap (λ z. front ++ z ∷ []) h.1; there = k.there; early = both.0; outer_is = h.2; starts_is = both.1; head = λ e. absurd cc }
came_known front c s k mode.Bang p h =
    let b = opened_known s.mode s.outer front h.0 k.known in (
      b.0,
      record {
        xs = b.1.xs;
        before = b.1.before;
        front_is = (λ i. b.1.front_is i ++ h.1 i ∷ []) ∙ append_assoc b.1.xs (60 ∷ []) (33 ∷ []);
        there = b.1.there;
        early = b.1.early;
        outer_is = h.2 ∙ b.1.outer_is;
        starts_is = b.1.starts_is;
        head = b.1.head;
      },
    )
came_known front c s k (mode.Declaring (declaring.Word n)) p (inl h) =
    let b = head_known s.mode s.outer front h.0 k.known in
    record {
      xs = b.xs;
      head = b.head refl;
      front_is = (λ i. b.front_is i ++ h.1 i ∷ []) ∙ (append_assoc b.xs (60 ∷ []) (63 ∷ []) ∙ ap (λ z. b.xs ++ 60 ∷ 63 ∷ take z (codes "xml")) (sym h.2));
      small = omega (arith, h.2);
    }
came_known front c s k (mode.Declaring (declaring.Word n)) p (inr h) =
    let b : IsInWord front h.0 = subst (λ m. Known m s.outer front) h.1 k.known in
    let letter = letter_next h.0 c h.3 in
    record {
      xs = b.xs;
      head = b.head;
      front_is = ap (λ z. z ++ c ∷ []) b.front_is ∙ (append_assoc b.xs (60 ∷ 63 ∷ take h.0 (codes "xml")) (c ∷ []) ∙ (ap (λ z. b.xs ++ 60 ∷ 63 ∷ z) letter.0 ∙ ap (λ z. b.xs ++ 60 ∷ 63 ∷ take z (codes "xml")) (sym h.2)));
      small = omega (arith, h.2, letter.1);
    }
came_known front c s k _ p h = tt

keeps_step : (front : List ℕ) (c : ℕ) (s t : State) → Keeps front s → step s c ≡ Some t → Keeps (front ++ c ∷ []) t
keeps_step front c s t k taken =
    let g = (next_good s.mode s.outer s.at c k.plain k.opens).is t.mode t.outer (stepped s c t taken).next_is in
    record { there = run_one front s c k.there ∙ taken; known = came_known front c s k t.mode t.outer g.0; plain = g.1; opens = g.2 }

keeps_run : (cs front : List ℕ) (s t : State) → Keeps front s → run s cs ≡ Some t → Keeps (front ++ cs) t
keeps_run [] front s t k runs = subst (λ z. Keeps z t) (sym (append-nil front)) (subst (λ z. Keeps front z) (run_nothing s t runs) k)
keeps_run (c ∷ cs) front s t k runs =
    let one = first s c cs t runs in
    subst (λ z. Keeps z t) (append_assoc front (c ∷ []) cs) (keeps_run cs (front ++ c ∷ []) one.via t (keeps_step front c s one.via k one.steps) one.runs)

kept : (front : List ℕ) (s : State) → run start front ≡ Some s → Keeps front s
unfolding run
kept front s runs = keeps_run front [] start s (record { there = refl; known = refl; plain = tt; opens = tt }) runs

pub runs_are_known : RunsAreKnown
runs_are_known front s runs = (kept front s runs).known

pub runs_are_plain : (front : List ℕ) (s : State) → run start front ≡ Some s → PlainMode s.mode
runs_are_plain front s runs = (kept front s runs).plain

pub heads_begin : HeadsBegin
heads_begin front u runs h = start_known u.mode u.outer front h (kept front u runs).known

-- where < is taken

unmarked : (b : Bool) → not b ≡ true → b ≡ false
unmarked true h = sym h
unmarked false h = refl

has_none : (word : List ℕ) (n : ℕ) → no_mark word ≡ true → has_at word n 60 ≡ false
has_none [] n h = refl
has_none (x ∷ xs) zero h = unmarked (x == 60) (and_parts (not (x == 60)) (no_mark xs) h).0
has_none (x ∷ xs) (suc n) h = has_none xs n (and_parts (not (x == 60)) (no_mark xs) h).1

and_not : (a b : Bool) → b ≡ false → (a && b) ≡ false
and_not true b h = h
and_not false b h = refl

else_none : {A : Type 0} (b : Bool) (x : A) (y : Option A) → b ≡ false → y ≡ None → (if b then Some x else y) ≡ None
else_none true x y h e = absurd cc
else_none false x y h e = e

gap_none : (p : Part) (spaced : Bool) → gap_step p spaced 60 ≡ None
gap_none part.Version spaced = refl
gap_none part.Encoding spaced = refl
gap_none part.Standalone spaced = refl
gap_none part.End spaced = refl

part_none : (p : Part) (n : ℕ) → has_at (part_word p) n 60 ≡ false
unfolding part_word
part_none part.Version n = has_none (codes "version") n refl
part_none part.Encoding n = has_none (codes "encoding") n refl
part_none part.Standalone n = has_none (codes "standalone") n refl
part_none part.End n = refl

literal_none : (l : Literal) (n : ℕ) → has_at (literal_word l) n (as_compared l 60) ≡ false
unfolding literal_word
literal_none literal.One n = has_none (codes "1.0") n refl
literal_none literal.Utf8 n = has_none (codes "utf-8") n refl
literal_none literal.Yes n = has_none (codes "yes") n refl
literal_none literal.No n = has_none (codes "no") n refl

declaring_none : (d : Declaring) → PlainMode (mode.Declaring d) → declaring_step d 60 ≡ None
unfolding declaring_step
declaring_none (declaring.Word n) h = else_none (has_at (codes "xml") n 60) _ _ (has_none (codes "xml") n refl) (else_none (n == 3 && is_white 60) _ _ (and_not (n == 3) false refl) refl)
declaring_none (declaring.Gap p spaced) h = ap (option_map (λ d. Some d)) (gap_none p spaced)
declaring_none (declaring.Name p n) h =
    else_none (has_at (part_word p) n 60) _ _ (part_none p n) (else_none (n == length (part_word p) && is_white 60) _ _ (and_not (n == length (part_word p)) false refl) (else_none (n == length (part_word p) && 60 == 61) _ _ (and_not (n == length (part_word p)) false refl) refl))
declaring_none (declaring.BeforeEquals p) h = refl
declaring_none (declaring.AfterEquals p) h = refl
declaring_none (declaring.Choice q) h = refl
declaring_none (declaring.Value l q n) h =
    else_none (has_at (literal_word l) n (as_compared l 60)) _ _ (literal_none l n) (else_none (n == length (literal_word l) && 60 == q) _ _ (and_not (n == length (literal_word l)) (60 == q) (quote_is (λ z. (60 == z) ≡ false) refl refl q h)) refl)
declaring_none declaring.End h = refl

reference_none : (r : Reference) → reference_step r 60 ≡ None
unfolding reference_step name_start_ranges name_more_ranges
reference_none reference.Begun = refl
reference_none (reference.Entity name true) = refl
reference_none (reference.Entity name false) = refl
reference_none reference.Number = refl
reference_none reference.HexadecimalBegun = refl
reference_none (reference.Decimal n) = refl
reference_none (reference.Hexadecimal n) = refl

opened_none : (r : Region) (place : ℕ) → opened_step r place 60 ≡ None
unfolding name_start_ranges
opened_none region_is.Before place = refl
opened_none region_is.Inside place = refl
opened_none region_is.Behind place = refl

bang_none : (r : Region) → bang_step r 60 ≡ None
bang_none region_is.Before = refl
bang_none region_is.Inside = refl
bang_none region_is.Behind = refl

content_opens : (r : Region) (o : Outer) (at n : ℕ) (after_return : Bool) → content_step r o at n after_return 60 ≡ Some (mode.Opened at, o)
unfolding xml_ranges
content_opens region_is.Before o at n after_return = refl
content_opens region_is.Inside o at n after_return = refl
content_opens region_is.Behind o at n after_return = refl

end_name_none : (opens : List Open) (o : Outer) (n : ℕ) → PlainOpens opens → end_name_step o opens n 60 ≡ None
end_name_none [] o n h = refl
end_name_none (x ∷ xs) o n h =
    else_none (has_at x.name n 60) _ _ (has_none x.name n h.0) (else_none (n == length x.name && is_white 60) _ _ (and_not (n == length x.name) false refl) (else_none (n == length x.name && 60 == 62) _ _ (and_not (n == length x.name) false refl) refl))

end_gap_none : (opens : List Open) (o : Outer) → end_gap_step o opens 60 ≡ None
end_gap_none [] o = refl
end_gap_none (x ∷ xs) o = refl

Opening : Mode → ℕ → Mode → Type 0
Opening m at n = ((is_start m ≡ true) × (n ≡ mode.HeadOpened at)) ⊎ (n ≡ mode.Opened at)

opens_not : (m : Mode) (at : ℕ) (n : Mode) (p : Outer) (x : Option (Mode × Outer)) → x ≡ None → x ≡ Some (n, p) → Opening m at n
opens_not m at n p x a b = absurd cc

open_next : (m : Mode) (o : Outer) (at : ℕ) (n : Mode) (p : Outer) → is_within m ≡ false → PlainMode m → PlainOpens o.opens → next m o at 60 ≡ Some (n, p) → Opening m at n
unfolding next name_start_ranges name_more_ranges xml_ranges Opening section_word
open_next (mode.Start marked) o at n p w g h e = let same : ◌≡◌ {A = Mode × Outer} (mode.HeadOpened at, o) (n, p) = cc in inl (refl, sym (ap (λ (z : Mode × Outer). z.0) same))
open_next (mode.HeadOpened place) o at n p w g h e = absurd cc
open_next (mode.Declaring d) o at n p w g h e = opens_not (mode.Declaring d) at n p _ (ap (λ z. stays o (option_map in_declaration z)) (declaring_none d g)) e
open_next (mode.Content k after_return) o at n p w g h e =
    let there = content_opens (region o) o at k after_return in
    let same : ◌≡◌ {A = Mode × Outer} (mode.Opened at, o) (n, p) = cc in inr (sym (ap (λ (z : Mode × Outer). z.0) same))
open_next (mode.TextReference place r) o at n p w g h e = opens_not (mode.TextReference place r) at n p _ (ap (λ z. either z (in_text o place)) (reference_none r)) e
open_next (mode.Opened place) o at n p w g h e = opens_not (mode.Opened place) at n p _ (ap (stays o) (opened_none (region o) place)) e
open_next mode.Bang o at n p w g h e = opens_not mode.Bang at n p _ (ap (stays o) (bang_none (region o))) e
open_next mode.Dash o at n p w g h e = absurd cc
open_next (mode.Comment k) o at n p w g h e = absurd cc
open_next (mode.SectionWord k) o at n p w g h e = opens_not (mode.SectionWord k) at n p _ (ap (stays o) (else_none (has_at section_word k 60) _ _ (has_none section_word k refl) refl)) e
open_next (mode.Section k after_return) o at n p w g h e = absurd cc
open_next (mode.TagName tag true) o at n p w g h e = absurd cc
open_next (mode.TagName tag false) o at n p w g h e = absurd cc
open_next (mode.InTag tag true) o at n p w g h e = absurd cc
open_next (mode.InTag tag false) o at n p w g h e = absurd cc
open_next (mode.Slash tag) o at n p w g h e = absurd cc
open_next (mode.AttributeName tag name true) o at n p w g h e = absurd cc
open_next (mode.AttributeName tag name false) o at n p w g h e = absurd cc
open_next (mode.BeforeEquals tag name) o at n p w g h e = absurd cc
open_next (mode.AfterEquals tag name) o at n p w g h e = absurd cc
open_next (mode.Value tag name v) o at n p w g h e = opens_not (mode.Value tag name v) at n p _ (ap (stays o) (else_none (60 == v.quote) _ _ (quote_is (λ z. (60 == z) ≡ false) refl refl v.quote g.1) refl)) e
open_next (mode.ValueReference tag name v place r) o at n p w g h e = opens_not (mode.ValueReference tag name v place r) at n p _ (ap (λ z. stays o (option_map (in_value tag name v place) z)) (reference_none r)) e
open_next (mode.EndName k) o at n p w g h e = opens_not (mode.EndName k) at n p _ (end_name_none o.opens o k h) e
open_next mode.EndGap o at n p w g h e = opens_not mode.EndGap at n p _ (end_gap_none o.opens o) e

pub marks_open : MarksOpen
unfolding Opening
marks_open front u v runs within taken =
    let k = kept front u runs in
    open_next u.mode u.outer u.at v.mode v.outer within k.plain k.opens (stepped u 60 v taken).next_is

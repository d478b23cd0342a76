-- What the reader does at the marks < ! and < ?.
use Rattle.std.proofs.Common.{◌≡◌, ◌⊎◌, inl, inr, ℕ, ◌+◌, Bool, true, false, ◌&&◌, List, [], ◌∷◌, ◌++◌, length, refl, ap, subst, sym, ◌∙◌, arith, Option, Some, None}
use Rattle.std.specs.Prelude.{encode_utf8, option_map}
use Rattle.std.proofs.lemmas.Bool.{and_parts}
use lib.Utf8.{encode}
use Rattle.pws_tree.specs.Characters.{xml_ranges, name_start_ranges}
use Rattle.pws_mark.specs.Outcome.{is_bang}
use Rattle.pws_mark.specs.ReaderLaws.{is_early_in, is_before, is_early}
use Rattle.pws_mark.specs.Scan.{step, run, then_run, next, region, stays, opened_step, bang_step, content_step}
use Rattle.pws_mark.specs.States.{Outer, State}
use Rattle.pws_mark.specs.declared.modes.Region.{Region}
use Rattle.pws_mark.specs.declared.modes.Region.TheVariants as region_is
use Rattle.pws_mark.specs.declared.modes.Mode.{Mode}
use Rattle.pws_mark.specs.declared.modes.Mode.TheVariants as mode
use Rattle.pws_mark.proofs.OutcomeCuts.{IsStuck}

-- a step is to the next mode
pub record Stepped (s : State) (c : ℕ) (t : State) : Type 0 where
  pub next_is : next s.mode s.outer s.at c ≡ Some (t.mode, t.outer)
  pub at_is : t.at ≡ s.at + length (encode_utf8 c)

pub stepped : (s : State) (c : ℕ) (t : State) → step s c ≡ Some t → Stepped s c t
stepped s c t h = by (next s.mode s.outer s.at c) refl h
  where
    by : (n : Option (Mode × Outer)) → next s.mode s.outer s.at c ≡ n → option_map (λ m. record { at = s.at + length (encode_utf8 c); mode = m.0; outer = m.1 }) n ≡ Some t → Stepped s c t
    by None is g = absurd cc
    by (Some m) is g =
        let same : ◌≡◌ {A = State} (record { at = s.at + length (encode_utf8 c); mode = m.0; outer = m.1 }) t = cc in
        record { next_is = is ∙ ap (λ (z : State). Some (z.mode, z.outer)) same; at_is = sym (ap (λ (z : State). z.at) same) }

-- the first step of a run
pub record First (s : State) (c : ℕ) (cs : List ℕ) (t : State) : Type 0 where
  pub via : State
  pub steps : step s c ≡ Some via
  pub runs : run via cs ≡ Some t

pub first : (s : State) (c : ℕ) (cs : List ℕ) (t : State) → run s (c ∷ cs) ≡ Some t → First s c cs t
unfolding run
first s c cs t h = by (step s c) refl h
  where
    by : (o : Option State) → step s c ≡ o → then_run o (λ v. run v cs) ≡ Some t → First s c cs t
    by None is g = absurd cc
    by (Some v) is g = record { via = v; steps = is; runs = g }

pub run_nothing : (s t : State) → run s [] ≡ Some t → s ≡ t
unfolding run
run_nothing s t h = cc

pub takes : (s : State) (c : ℕ) (m : Mode) (o : Outer) → next s.mode s.outer s.at c ≡ Some (m, o) → step s c ≡ Some (record { at = s.at + length (encode_utf8 c); mode = m; outer = o })
takes s c m o h = ap (option_map (λ z. record { at = s.at + length (encode_utf8 c); mode = z.0; outer = z.1 })) h

-- it isn't stuck where it takes what comes
pub not_stuck : (s : State) (rest : List ℕ) (c : ℕ) (cs : List ℕ) (m : Mode) (o : Outer) → IsStuck s rest → rest ≡ c ∷ cs → next s.mode s.outer s.at c ≡ Some (m, o) → ⊥
not_stuck s rest c cs m o stuck e h = let one = takes s c m o h in let two = stuck c cs e in absurd cc

pub no_step : (s t : State) (c : ℕ) → step s c ≡ Some t → next s.mode s.outer s.at c ≡ None → ⊥
no_step s t c h e = let one = stepped s c t h in let two = one.next_is in absurd cc

abbrev pub is_opened : Mode → Bool
is_opened (mode.HeadOpened at) = true
is_opened (mode.Opened at) = true
is_opened _ = false

before_is : (r : Region) → is_before r ≡ true → r ≡ region_is.Before
before_is region_is.Before h = refl
before_is region_is.Inside h = absurd cc
before_is region_is.Behind h = absurd cc

early_next : (m : Mode) (o : Outer) (at : ℕ) (n : Mode) (p : Outer) → is_early_in m ≡ true → region o ≡ region_is.Before → next m o at 60 ≡ Some (n, p) → (is_opened n ≡ true) × (p ≡ o)
unfolding next name_start_ranges xml_ranges
early_next (mode.Start marked) o at n p e before h = let same : ◌≡◌ {A = Mode × Outer} (mode.HeadOpened at, o) (n, p) = cc in (ap (λ (z : Mode × Outer). is_opened z.0) (sym same), ap (λ (z : Mode × Outer). z.1) (sym same))
early_next (mode.HeadOpened place) o at n p e before h = absurd cc
early_next (mode.Content k after_return) o at n p e before h =
    let known : content_step region_is.Before o at k after_return 60 ≡ Some (n, p) = subst (λ r. content_step r o at k after_return 60 ≡ Some (n, p)) before h in
    let same : ◌≡◌ {A = Mode × Outer} (mode.Opened at, o) (n, p) = cc in (ap (λ (z : Mode × Outer). is_opened z.0) (sym same), ap (λ (z : Mode × Outer). z.1) (sym same))
early_next (mode.Opened place) o at n p e before h = absurd (let known : stays o (opened_step region_is.Before place 60) ≡ Some (n, p) = subst (λ r. stays o (opened_step r place 60) ≡ Some (n, p)) before h in cc)
early_next mode.Bang o at n p e before h = absurd (let known : stays o (bang_step region_is.Before 60) ≡ Some (n, p) = subst (λ r. stays o (bang_step r 60) ≡ Some (n, p)) before h in cc)
early_next mode.Dash o at n p e before h = absurd cc
early_next _ o at n p e before h = absurd cc

opened_next : (m : Mode) (o : Outer) (at : ℕ) → is_opened m ≡ true → region o ≡ region_is.Before → next m o at 33 ≡ Some (mode.Bang, o)
unfolding next name_start_ranges xml_ranges
opened_next (mode.HeadOpened place) o at e before = refl
opened_next (mode.Opened place) o at e before = ap (λ r. stays o (opened_step r place 33)) before
opened_next _ o at e before = absurd cc

bang_next : (m : Mode) (o : Outer) (at : ℕ) → m ≡ mode.Bang → region o ≡ region_is.Before → next m o at 68 ≡ None
unfolding next
bang_next m o at is before = subst (λ z. next z o at 68 ≡ None) (sym is) (ap (λ r. stays o (bang_step r 68)) before)

-- where a document type stands that the reader passes or stops at, it stops before it or behind <!
pub record IsBehindBang (u s : State) : Type 0 where
  pub early : is_early s ≡ true
  pub bang : is_bang s.mode ≡ true
  pub at_is : s.at ≡ u.at + 2

pub doctype_met : (ws : List ℕ) (u s : State) (rest ys : List ℕ) → is_early u ≡ true → run u ws ≡ Some s → IsStuck s rest → ws ++ rest ≡ 60 ∷ 33 ∷ 68 ∷ ys → (ws ≡ []) ⊎ IsBehindBang u s
unfolding encode
doctype_met [] u s rest ys early runs stuck e = inl refl
doctype_met (a ∷ []) u s rest ys early runs stuck e =
    let one = first u a [] s runs in
    let last = run_nothing one.via s one.runs in
    let parts = and_parts (is_early_in u.mode) (is_before (region u.outer)) early in
    let first_is : a ≡ 60 = cc in
    let there : step u 60 ≡ Some s = subst (λ z. step u z ≡ Some s) first_is (one.steps ∙ ap (λ z. Some z) last) in
    let before = before_is (region u.outer) parts.1 in
    let more = early_next u.mode u.outer u.at s.mode s.outer parts.0 before (stepped u 60 s there).next_is in
    let rest_is : rest ≡ 33 ∷ 68 ∷ ys = cc in
    absurd (not_stuck s rest 33 (68 ∷ ys) mode.Bang s.outer stuck rest_is (opened_next s.mode s.outer s.at more.0 (ap region more.1 ∙ before)))
doctype_met (a ∷ b ∷ []) u s rest ys early runs stuck e =
    let one = first u a (b ∷ []) s runs in
    let two = first one.via b [] s one.runs in
    let last = run_nothing two.via s two.runs in
    let parts = and_parts (is_early_in u.mode) (is_before (region u.outer)) early in
    let first_is : a ≡ 60 = cc in
    let second_is : b ≡ 33 = cc in
    let there : step u 60 ≡ Some one.via = subst (λ z. step u z ≡ Some one.via) first_is one.steps in
    let next_there : step one.via 33 ≡ Some s = subst (λ z. step one.via z ≡ Some s) second_is (two.steps ∙ ap (λ z. Some z) last) in
    let before = before_is (region u.outer) parts.1 in
    let stepped_one = stepped u 60 one.via there in
    let stepped_two = stepped one.via 33 s next_there in
    let more = early_next u.mode u.outer u.at one.via.mode one.via.outer parts.0 before stepped_one.next_is in
    let here = ap region more.1 ∙ before in
    let bang = opened_next one.via.mode one.via.outer one.via.at more.0 here in
    let same : ◌≡◌ {A = Mode × Outer} (mode.Bang, one.via.outer) (s.mode, s.outer) = (let given = stepped_two.next_is in cc) in
    let is_one : s.mode ≡ mode.Bang = sym (ap (λ (z : Mode × Outer). z.0) same) in
    let region_here : region s.outer ≡ region_is.Before = sym (ap (λ (z : Mode × Outer). region z.1) same) ∙ here in
    inr (record {
      early = ap (λ m. is_early_in m && is_before (region s.outer)) is_one ∙ ap is_before region_here;
      bang = ap is_bang is_one;
      at_is = omega (arith, stepped_one.at_is, stepped_two.at_is);
    })
doctype_met (a ∷ b ∷ d ∷ ws) u s rest ys early runs stuck e =
    let one = first u a (b ∷ d ∷ ws) s runs in
    let two = first one.via b (d ∷ ws) s one.runs in
    let three = first two.via d ws s two.runs in
    let parts = and_parts (is_early_in u.mode) (is_before (region u.outer)) early in
    let first_is : a ≡ 60 = cc in
    let second_is : b ≡ 33 = cc in
    let third_is : d ≡ 68 = cc in
    let there : step u 60 ≡ Some one.via = subst (λ z. step u z ≡ Some one.via) first_is one.steps in
    let next_there : step one.via 33 ≡ Some two.via = subst (λ z. step one.via z ≡ Some two.via) second_is two.steps in
    let last_there : step two.via 68 ≡ Some three.via = subst (λ z. step two.via z ≡ Some three.via) third_is three.steps in
    let before = before_is (region u.outer) parts.1 in
    let more = early_next u.mode u.outer u.at one.via.mode one.via.outer parts.0 before (stepped u 60 one.via there).next_is in
    let here = ap region more.1 ∙ before in
    let bang = opened_next one.via.mode one.via.outer one.via.at more.0 here in
    let stepped_two = stepped one.via 33 two.via next_there in
    let same : ◌≡◌ {A = Mode × Outer} (mode.Bang, one.via.outer) (two.via.mode, two.via.outer) = (let given = stepped_two.next_is in cc) in
    let is_one : two.via.mode ≡ mode.Bang = sym (ap (λ (z : Mode × Outer). z.0) same) in
    let region_here : region two.via.outer ≡ region_is.Before = sym (ap (λ (z : Mode × Outer). region z.1) same) ∙ here in
    absurd (no_step two.via three.via 68 last_there (bang_next two.via.mode two.via.outer two.via.at is_one region_here))

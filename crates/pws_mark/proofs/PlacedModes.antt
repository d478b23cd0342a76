-- What holds of all states along a run, and the states outside of comments and sections.
use Rattle.std.proofs.Common.{◌≡◌, ℕ, ◌+◌, ◌≤◌, Bool, true, false, not, ◌&&◌, cond, List, [], ◌∷◌, ◌++◌, length, refl, ap, subst, sym, ◌∙◌, arith, length-append, Option, Some, None}
use Rattle.std.specs.Prelude.{◌==◌, option_map, encode_utf8, encode_utf8_all}
use Rattle.std.specs.List.{list_all}
use Rattle.std.proofs.lemmas.Bool.{and_parts, both_ways, not-true}
use Rattle.pws_tree.specs.Characters.{is_name_start, is_name_char}
use Rattle.pws_mark.specs.Scan.{next, step, run, then_run, stays, either, region, start_step, head_opened_step, declaring_step, in_declaration, content_step, reference_step, in_text, opened_step, tag_name_step, tag_step, attribute_name_step, before_equals_step, after_equals_step, value_step, in_value, end_name_step, end_gap_step, is_within, has_at}
use Rattle.pws_mark.specs.States.{Open, Outer, State}
use Rattle.pws_mark.specs.Tokens.{is_white, is_quote, is_text_char, is_value_char}
use Rattle.pws_mark.specs.declared.modes.Declaring.{Declaring}
use Rattle.pws_mark.specs.declared.modes.Mode.{Mode}
use Rattle.pws_mark.specs.declared.modes.Mode.TheVariants as mode
use Rattle.pws_mark.specs.declared.modes.ReadName.{ReadName}
use Rattle.pws_mark.specs.declared.modes.ReadTag.{ReadTag}
use Rattle.pws_mark.specs.declared.modes.ReadValue.{ReadValue}
use Rattle.pws_mark.specs.declared.modes.ReferenceStep.{ReferenceStep}
use Rattle.pws_mark.specs.declared.modes.ReferenceStep.TheVariants as stepped
use Rattle.pws_mark.specs.declared.modes.Region.{Region}
use Rattle.pws_mark.specs.declared.modes.Region.TheVariants as region_is

-- All states along a run.
abbrev pub then_along : Option State → (State → Type 0) → Type 0
then_along None f = Unit {0}
then_along (Some t) f = f t

abbrev pub Along : (State → Type 0) → State → List ℕ → Type 0
Along Q s [] = Q s
Along Q s (c ∷ cs) = Q s × then_along (step s c) (λ t. Along Q t cs)

pub along_append : (Q : State → Type 0) (s t : State) (xs ys : List ℕ) → Along Q s xs → run s xs ≡ Some t → Along Q t ys → Along Q s (xs ++ ys)
unfolding run
along_append Q s t [] ys a r b = let e : s ≡ t = cc in subst (λ u. Along Q u ys) (sym e) b
along_append Q s t (x ∷ xs) ys a r b = (a.0, by (step s x) a.1 r (λ u h g. along_append Q u t xs ys h g b))
  where
    by : (o : Option State) → then_along o (λ u. Along Q u xs) → then_run o (λ u. run u xs) ≡ Some t → ((u : State) → Along Q u xs → run u xs ≡ Some t → Along Q u (xs ++ ys)) → then_along o (λ u. Along Q u (xs ++ ys))
    by None h g again = tt
    by (Some u) h g again = again u h g

here : (Q : State → Type 0) (s : State) (cs : List ℕ) → Along Q s cs → Q s
here Q s [] a = a
here Q s (c ∷ cs) a = a.0

some_head : ℕ → List ℕ → ℕ
some_head d [] = d
some_head d (x ∷ xs) = x

some_tail : List ℕ → List ℕ
some_tail [] = []
some_tail (x ∷ xs) = xs

-- a state along the run
pub along_at : (Q : State → Type 0) (s t : State) (cs front rest : List ℕ) → Along Q s cs → cs ≡ front ++ rest → run s front ≡ Some t → Q t
unfolding run some_head some_tail
along_at Q s t cs [] rest a e r = let i : s ≡ t = cc in subst Q i (here Q s cs a)
along_at Q s t [] (f ∷ front) rest a e r = absurd (none e)
  where
    none : [] ≡ f ∷ (front ++ rest) → ⊥
    none i = cc
along_at Q s t (c ∷ cs) (f ∷ front) rest a e r =
    let first : c ≡ f = ap (some_head c) e in
    let more : cs ≡ front ++ rest = ap some_tail e in
    by (step s c) a.1 (ap (λ z. then_run (step s z) (λ u. run u front)) first ∙ r) (λ u h g. along_at Q u t cs front rest h more g)
  where
    by : (o : Option State) → then_along o (λ u. Along Q u cs) → then_run o (λ u. run u front) ≡ Some t → ((u : State) → Along Q u cs → run u front ≡ Some t → Q t) → Q t
    by None h g again = absurd (none g)
      where
        none : ◌≡◌ {A = Option State} None (Some t) → ⊥
        none i = cc
    by (Some u) h g again = again u h g

pub along_both : (P R Q : State → Type 0) → ((t : State) → P t → R t → Q t) → (s : State) (cs : List ℕ) → Along P s cs → Along R s cs → Along Q s cs
along_both P R Q join s [] a b = join s a b
along_both P R Q join s (c ∷ cs) a b = (join s a.0 b.0, by (step s c) a.1 b.1 (λ u h g. along_both P R Q join u cs h g))
  where
    by : (o : Option State) → then_along o (λ u. Along P u cs) → then_along o (λ u. Along R u cs) → ((u : State) → Along P u cs → Along R u cs → Along Q u cs) → then_along o (λ u. Along Q u cs)
    by None h g again = tt
    by (Some u) h g again = again u h g

-- places along a run
abbrev pub IsFrom : ℕ → ℕ → State → Type 0
IsFrom low high t = (low ≤ t.at) × (t.at ≤ high)

pub along_places : (low high : ℕ) (s : State) (cs : List ℕ) → low ≤ s.at → s.at + length (encode_utf8_all cs) ≤ high → Along (IsFrom low high) s cs
along_places low high s [] h g = (h, omega arith)
along_places low high s (c ∷ cs) h g =
    ((h, omega arith), by (next s.mode s.outer s.at c) (λ m. along_places low high (record { at = s.at + length (encode_utf8 c); mode = m.0; outer = m.1 }) cs (omega arith) (omega (arith, g, length-append (encode_utf8 c) (encode_utf8_all cs)))))
  where
    by : (n : Option (Mode × Outer)) → ((m : Mode × Outer) → Along (IsFrom low high) (record { at = s.at + length (encode_utf8 c); mode = m.0; outer = m.1 }) cs) → then_along (option_map (λ m. record { at = s.at + length (encode_utf8 c); mode = m.0; outer = m.1 }) n) (λ u. Along (IsFrom low high) u cs)
    by None again = tt
    by (Some m) again = again m

-- Modes that no < nor ! makes.
abbrev pub is_quiet : Mode → Bool
is_quiet (mode.HeadOpened at) = false
is_quiet (mode.Opened at) = false
is_quiet mode.Bang = false
is_quiet mode.Dash = false
is_quiet (mode.Comment n) = false
is_quiet (mode.SectionWord n) = false
is_quiet (mode.Section n ret) = false
is_quiet _ = true

abbrev QuietNext : Option (Mode × Outer) → Type 0
QuietNext None = Unit {0}
QuietNext (Some n) = is_quiet n.0 ≡ true

abbrev QuietMode : Option Mode → Type 0
QuietMode None = Unit {0}
QuietMode (Some m) = is_quiet m ≡ true

quiet_stays : (o : Outer) (m : Option Mode) → QuietMode m → QuietNext (stays o m)
quiet_stays o None h = tt
quiet_stays o (Some m) h = h

if_mode : (b : Bool) (x y : Option Mode) → QuietMode x → QuietMode y → QuietMode (cond b x y)
if_mode true x y h g = h
if_mode false x y h g = g

not_mode : (b : Bool) (x y : Option Mode) → b ≡ false → QuietMode y → QuietMode (cond b x y)
not_mode true x y e g = cc
not_mode false x y e g = g

if_next : (b : Bool) (x y : Option (Mode × Outer)) → QuietNext x → QuietNext y → QuietNext (cond b x y)
if_next true x y h g = h
if_next false x y h g = g

not_next : (b : Bool) (x y : Option (Mode × Outer)) → b ≡ false → QuietNext y → QuietNext (cond b x y)
not_next true x y e g = cc
not_next false x y e g = g

quiet_declaring : (x : Option (Option Declaring)) → QuietMode (option_map in_declaration x)
quiet_declaring None = tt
quiet_declaring (Some None) = refl
quiet_declaring (Some (Some d)) = refl

quiet_content : (r : Region) (o : Outer) (at n : ℕ) (ret : Bool) (c : ℕ) → (c == 60) ≡ false → QuietNext (content_step r o at n ret c)
quiet_content region_is.Inside o at n ret c e = if_next (is_text_char c && not (n == 2 && c == 62)) _ _ refl (not_next (c == 60) _ _ e (if_next (c == 38) _ _ refl tt))
quiet_content region_is.Before o at n ret c e = if_next (is_white c) _ _ refl (not_next (c == 60) _ _ e tt)
quiet_content region_is.Behind o at n ret c e = if_next (is_white c) _ _ refl (not_next (c == 60) _ _ e tt)

quiet_text : (o : Outer) (place : ℕ) (r : Option ReferenceStep) → QuietNext (either r (in_text o place))
quiet_text o place None = tt
quiet_text o place (Some (stepped.More r)) = refl
quiet_text o place (Some (stepped.Done c)) = refl

quiet_value : (tag : ReadTag) (name : ReadName) (v : ReadValue) (place : ℕ) (r : Option ReferenceStep) → QuietMode (option_map (in_value tag name v place) r)
quiet_value tag name v place None = tt
quiet_value tag name v place (Some (stepped.More r)) = refl
quiet_value tag name v place (Some (stepped.Done c)) = refl

quiet_tag : (o : Outer) (tag : ReadTag) (c : ℕ) → QuietNext (tag_step o tag c)
quiet_tag o tag c = if_next (is_white c) _ _ refl (if_next (c == 47) _ _ refl (if_next (c == 62) _ _ refl tt))

quiet_tag_name : (o : Outer) (tag : ReadTag) (starts : Bool) (c : ℕ) → QuietNext (tag_name_step o tag starts c)
quiet_tag_name o tag true c = if_next (is_name_start c) _ _ refl tt
quiet_tag_name o tag false c = if_next (is_name_char c) _ _ refl (if_next (c == 58) _ _ refl (quiet_tag o tag c))

quiet_attribute : (tag : ReadTag) (name : ReadName) (starts : Bool) (c : ℕ) → QuietMode (attribute_name_step tag name starts c)
quiet_attribute tag name true c = if_mode (is_name_start c) _ _ refl tt
quiet_attribute tag name false c = if_mode (is_name_char c) _ _ refl (if_mode (c == 58) _ _ refl (if_mode (is_white c) _ _ refl (if_mode (c == 61) _ _ refl tt)))

quiet_end : (o : Outer) (os : List Open) (n c : ℕ) → QuietNext (end_name_step o os n c)
quiet_end o [] n c = tt
quiet_end o (x ∷ xs) n c = if_next (has_at x.name n c) _ _ refl (if_next (n == length x.name && is_white c) _ _ refl (if_next (n == length x.name && c == 62) _ _ refl tt))

quiet_gap : (o : Outer) (os : List Open) (c : ℕ) → QuietNext (end_gap_step o os c)
quiet_gap o [] c = tt
quiet_gap o (x ∷ xs) c = if_next (is_white c) _ _ refl (if_next (c == 62) _ _ refl tt)

quiet_next : (m : Mode) (o : Outer) (at c : ℕ) → is_quiet m ≡ true → (c == 60) ≡ false → QuietNext (next m o at c)
unfolding next
quiet_next (mode.Start marked) o at c q e = quiet_stays o (start_step at marked c) (if_mode (is_white c) _ _ refl (not_mode (c == 60) _ _ e (if_mode (marked && c == 0xFEFF) _ _ refl tt)))
quiet_next (mode.HeadOpened place) o at c q e = absurd (both_ways false refl q)
quiet_next (mode.Declaring d) o at c q e = quiet_stays o (option_map in_declaration (declaring_step d c)) (quiet_declaring (declaring_step d c))
quiet_next (mode.Content n ret) o at c q e = quiet_content (region o) o at n ret c e
quiet_next (mode.TextReference place r) o at c q e = quiet_text o place (reference_step r c)
quiet_next (mode.Opened place) o at c q e = absurd (both_ways false refl q)
quiet_next mode.Bang o at c q e = absurd (both_ways false refl q)
quiet_next mode.Dash o at c q e = absurd (both_ways false refl q)
quiet_next (mode.Comment n) o at c q e = absurd (both_ways false refl q)
quiet_next (mode.SectionWord n) o at c q e = absurd (both_ways false refl q)
quiet_next (mode.Section n ret) o at c q e = absurd (both_ways false refl q)
quiet_next (mode.TagName tag starts) o at c q e = quiet_tag_name o tag starts c
quiet_next (mode.InTag tag spaced) o at c q e = if_next (spaced && is_name_start c) _ _ refl (quiet_tag o tag c)
quiet_next (mode.Slash tag) o at c q e = if_next (c == 62) _ _ refl tt
quiet_next (mode.AttributeName tag name starts) o at c q e = quiet_stays o (attribute_name_step tag name starts c) (quiet_attribute tag name starts c)
quiet_next (mode.BeforeEquals tag name) o at c q e = quiet_stays o (before_equals_step tag name c) (if_mode (is_white c) _ _ refl (if_mode (c == 61) _ _ refl tt))
quiet_next (mode.AfterEquals tag name) o at c q e = quiet_stays o (after_equals_step tag name c) (if_mode (is_white c) _ _ refl (if_mode (is_quote c) _ _ refl tt))
quiet_next (mode.Value tag name v) o at c q e = quiet_stays o (value_step at tag name v c) (if_mode (is_value_char v.quote c) _ _ refl (if_mode (c == 38) _ _ refl (if_mode (c == v.quote) _ _ refl tt)))
quiet_next (mode.ValueReference tag name v place r) o at c q e = quiet_stays o (option_map (in_value tag name v place) (reference_step r c)) (quiet_value tag name v place (reference_step r c))
quiet_next (mode.EndName n) o at c q e = quiet_end o o.opens n c
quiet_next mode.EndGap o at c q e = quiet_gap o o.opens c

-- behind a <, where no ! follows
quiet_region : (r : Region) (place c : ℕ) → (c == 33) ≡ false → QuietMode (opened_step r place c)
quiet_region region_is.Before place c e = if_mode (is_name_start c) _ _ refl (not_mode (c == 33) _ _ e tt)
quiet_region region_is.Inside place c e = if_mode (is_name_start c) _ _ refl (not_mode (c == 33) _ _ e (if_mode (c == 47) _ _ refl tt))
quiet_region region_is.Behind place c e = not_mode (c == 33) _ _ e tt

quiet_opened : (place : ℕ) (o : Outer) (at c : ℕ) → (c == 33) ≡ false → QuietNext (next (mode.Opened place) o at c)
unfolding next
quiet_opened place o at c e = quiet_stays o (opened_step (region o) place c) (quiet_region (region o) place c e)

quiet_head : (place : ℕ) (o : Outer) (at c : ℕ) → (c == 33) ≡ false → QuietNext (next (mode.HeadOpened place) o at c)
unfolding next
quiet_head place o at c e = quiet_stays o (head_opened_step place c) (if_mode (c == 63) _ _ refl (quiet_region region_is.Before place c e))

-- Outside of comments and sections.
abbrev pub IsOut : State → Type 0
IsOut t = is_within t.mode ≡ false

quiet_out : (m : Mode) → is_quiet m ≡ true → is_within m ≡ false
quiet_out (mode.Start marked) q = refl
quiet_out (mode.HeadOpened place) q = refl
quiet_out (mode.Declaring d) q = refl
quiet_out (mode.Content n ret) q = refl
quiet_out (mode.TextReference place r) q = refl
quiet_out (mode.Opened place) q = refl
quiet_out mode.Bang q = refl
quiet_out mode.Dash q = refl
quiet_out (mode.Comment n) q = absurd (both_ways false refl q)
quiet_out (mode.SectionWord n) q = refl
quiet_out (mode.Section n ret) q = absurd (both_ways false refl q)
quiet_out (mode.TagName tag starts) q = refl
quiet_out (mode.InTag tag spaced) q = refl
quiet_out (mode.Slash tag) q = refl
quiet_out (mode.AttributeName tag name starts) q = refl
quiet_out (mode.BeforeEquals tag name) q = refl
quiet_out (mode.AfterEquals tag name) q = refl
quiet_out (mode.Value tag name v) q = refl
quiet_out (mode.ValueReference tag name v place r) q = refl
quiet_out (mode.EndName n) q = refl
quiet_out mode.EndGap q = refl

abbrev pub is_other : ℕ → Bool
is_other c = not (c == 60)

-- from a quiet mode, and no <
pub along_quiet : (s : State) (cs : List ℕ) → is_quiet s.mode ≡ true → list_all is_other cs ≡ true → Along IsOut s cs
along_quiet s [] q h = quiet_out s.mode q
along_quiet s (c ∷ cs) q h =
    let parts = and_parts (is_other c) (list_all is_other cs) h in
    (quiet_out s.mode q, by (next s.mode s.outer s.at c) (quiet_next s.mode s.outer s.at c q (not-true (c == 60) parts.0)) (λ m g. along_quiet (record { at = s.at + length (encode_utf8 c); mode = m.0; outer = m.1 }) cs g parts.1))
  where
    by : (n : Option (Mode × Outer)) → QuietNext n → ((m : Mode × Outer) → is_quiet m.0 ≡ true → Along IsOut (record { at = s.at + length (encode_utf8 c); mode = m.0; outer = m.1 }) cs) → then_along (option_map (λ m. record { at = s.at + length (encode_utf8 c); mode = m.0; outer = m.1 }) n) (λ u. Along IsOut u cs)
    by None g again = tt
    by (Some m) g again = again m g

-- behind a <, where no ! follows
along_next : (s : State) (c : ℕ) (cs : List ℕ) → is_within s.mode ≡ false → QuietNext (next s.mode s.outer s.at c) → list_all is_other cs ≡ true → Along IsOut s (c ∷ cs)
along_next s c cs out q h = (out, by (next s.mode s.outer s.at c) q (λ m g. along_quiet (record { at = s.at + length (encode_utf8 c); mode = m.0; outer = m.1 }) cs g h))
  where
    by : (n : Option (Mode × Outer)) → QuietNext n → ((m : Mode × Outer) → is_quiet m.0 ≡ true → Along IsOut (record { at = s.at + length (encode_utf8 c); mode = m.0; outer = m.1 }) cs) → then_along (option_map (λ m. record { at = s.at + length (encode_utf8 c); mode = m.0; outer = m.1 }) n) (λ u. Along IsOut u cs)
    by None g again = tt
    by (Some m) g again = again m g

pub along_opened : (at place : ℕ) (o : Outer) (c : ℕ) (cs : List ℕ) → (c == 33) ≡ false → list_all is_other cs ≡ true → Along IsOut (record { at = at; mode = mode.Opened place; outer = o }) (c ∷ cs)
along_opened at place o c cs e h = along_next (record { at = at; mode = mode.Opened place; outer = o }) c cs refl (quiet_opened place o at c e) h

pub along_head_opened : (at place : ℕ) (o : Outer) (c : ℕ) (cs : List ℕ) → (c == 33) ≡ false → list_all is_other cs ≡ true → Along IsOut (record { at = at; mode = mode.HeadOpened place; outer = o }) (c ∷ cs)
along_head_opened at place o c cs e h = along_next (record { at = at; mode = mode.HeadOpened place; outer = o }) c cs refl (quiet_head place o at c e) h

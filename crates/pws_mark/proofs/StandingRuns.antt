-- What was read stands, wherever the reader is.
use Rattle.std.proofs.Common.{◌≡◌, ℕ, ◌+◌, true, List, [], ◌∷◌, ◌++◌, length, refl, subst, sym, append_assoc, append-nil, Option, Some, None}
use Rattle.std.specs.Prelude.{option_map, encode_utf8}
use Rattle.pws_mark.specs.Scan.{next, run, then_run, start, outside}
use Rattle.pws_mark.specs.States.{Outer, State}
use Rattle.pws_mark.specs.declared.modes.Mode.{Mode}
use Rattle.pws_mark.specs.declared.modes.Mode.TheVariants as mode
use Rattle.pws_mark.proofs.StandingModes.{Stands, StandsIn, InStart}
use Rattle.pws_mark.proofs.StandingSteps.{content_stands, text_reference_stands, dash_stands, bang_stands, comment_stands, section_word_stands, section_stands}
use Rattle.pws_mark.proofs.StandingTags.{tag_name_stands, in_tag_stands, slash_stands, attribute_name_stands, before_equals_stands, after_equals_stands}
use Rattle.pws_mark.proofs.StandingValues.{value_stands, value_reference_stands, end_gap_stands, end_name_stands, opened_stands}
use Rattle.pws_mark.proofs.StandingHeads.{start_stands, head_opened_stands}
use Rattle.pws_mark.proofs.StandingDeclarations.{declaring_stands}

-- with each character
pub goes_on : (m : Mode) (o : Outer) (front : List ℕ) (at c : ℕ) (z : Mode × Outer) → StandsIn m o front → next m o at c ≡ Some z → Stands z (front ++ c ∷ [])
goes_on (mode.Start marked) o front at c z h s = start_stands o front at c marked z h s
goes_on (mode.HeadOpened place) o front at c z h s = head_opened_stands o front at place c z h s
goes_on (mode.Declaring d) o front at c z h s = declaring_stands o front at c d z h s
goes_on (mode.Content n ret) o front at c z h s = content_stands o front at n c ret z h s
goes_on (mode.TextReference place r) o front at c z h s = text_reference_stands o front at place c r z h s
goes_on (mode.Opened place) o front at c z h s = opened_stands o front at place c z h s
goes_on mode.Bang o front at c z h s = bang_stands o front at c z h s
goes_on mode.Dash o front at c z h s = dash_stands o front at c z h s
goes_on (mode.Comment n) o front at c z h s = comment_stands o front at n c z h s
goes_on (mode.SectionWord n) o front at c z h s = section_word_stands o front at n c z h s
goes_on (mode.Section n ret) o front at c z h s = section_stands o front at n c ret z h s
goes_on (mode.TagName t starts) o front at c z h s = tag_name_stands o front at c t starts z h s
goes_on (mode.InTag t spaced) o front at c z h s = in_tag_stands o front at c t spaced z h s
goes_on (mode.Slash t) o front at c z h s = slash_stands o front at c t z h s
goes_on (mode.AttributeName t n starts) o front at c z h s = attribute_name_stands o front at c t n starts z h s
goes_on (mode.BeforeEquals t n) o front at c z h s = before_equals_stands o front at c t n z h s
goes_on (mode.AfterEquals t n) o front at c z h s = after_equals_stands o front at c t n z h s
goes_on (mode.Value t n v) o front at c z h s = value_stands o front at c t n v z h s
goes_on (mode.ValueReference t n v place r) o front at c z h s = value_reference_stands o front at place c t n v r z h s
goes_on (mode.EndName n) o front at c z h s = end_name_stands o front at n c z h s
goes_on mode.EndGap o front at c z h s = end_gap_stands o front at c z h s

abbrev pub stands_at : State → List ℕ → Type 0
stands_at s front = Stands (s.mode, s.outer) front

same_state : (s t : State) → ◌≡◌ {A = Option State} (Some s) (Some t) → s ≡ t
same_state s t e = let i : s ≡ t = cc in i

then_stands : (front : List ℕ) (c : ℕ) (cs : List ℕ) (s t : State) →
    ((z : Mode × Outer) → next s.mode s.outer s.at c ≡ Some z → run (record { at = s.at + length (encode_utf8 c); mode = z.0; outer = z.1 }) cs ≡ Some t → stands_at t ((front ++ c ∷ []) ++ cs)) →
    (x : Option (Mode × Outer)) → next s.mode s.outer s.at c ≡ x → then_run (option_map (λ n. record { at = s.at + length (encode_utf8 c); mode = n.0; outer = n.1 }) x) (λ u. run u cs) ≡ Some t → stands_at t (front ++ c ∷ cs)
then_stands front c cs s t more None e g = absurd cc
then_stands front c cs s t more (Some z) e g = subst (λ xs. stands_at t xs) (append_assoc front (c ∷ []) cs) (more z e g)

runs_stand : (front cs : List ℕ) (s t : State) → stands_at s front → run s cs ≡ Some t → stands_at t (front ++ cs)
unfolding run
runs_stand front [] s t h r = subst (λ xs. stands_at t xs) (sym (append-nil front)) (subst (λ x. stands_at x front) (same_state s t r) h)
runs_stand front (c ∷ cs) s t h r = then_stands front c cs s t (λ z e g. runs_stand (front ++ c ∷ []) cs (record { at = s.at + length (encode_utf8 c); mode = z.0; outer = z.1 }) t (goes_on s.mode s.outer front s.at c z h e) g) (next s.mode s.outer s.at c) refl r

begins : InStart true outside []
begins = record { outside = record { opens = refl; behind = refl }; is = refl }

pub stand : (front : List ℕ) (s : State) → run start front ≡ Some s → stands_at s front
stand front s r = runs_stand [] front start s begins r

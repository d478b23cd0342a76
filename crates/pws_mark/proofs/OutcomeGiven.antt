-- Where the reader stops at a document type or a processing instruction, one stands there.
use Rattle.std.proofs.Common.{◌≡◌, ℕ, ◌+◌, ◌-◌, Bool, true, false, List, [], ◌∷◌, ◌++◌, length, refl, ap, subst, sym, ◌∙◌, append_assoc, arith, length-append, Some}
use Rattle.std.specs.Prelude.{codes, encode_utf8_all}
use Rattle.std.proofs.lemmas.Bool.{and_parts, and_from}
use Rattle.std.proofs.lemmas.Str.{encodes-append}
use lib.Utf8.{encode}
use Rattle.pws_mark.specs.Causes.{HasDoctype, HasInstruction}
use Rattle.pws_mark.specs.Outcome.{question_before, is_bang}
use Rattle.pws_mark.specs.Places.{is_at}
use Rattle.pws_mark.specs.ReaderLaws.{RunsBegin, RunsArePlaced, is_early, is_early_in, is_before}
use Rattle.pws_mark.specs.Scan.{run, start, region, is_within}
use Rattle.pws_mark.specs.States.{Outer, State}
use Rattle.pws_mark.specs.declared.modes.Mode.{Mode}
use Rattle.pws_mark.specs.declared.modes.Mode.TheVariants as mode
use Rattle.pws_mark.proofs.Counted.{places_count}
use Rattle.pws_mark.proofs.OutcomeCuts.{IsStuck}
use Rattle.pws_mark.proofs.OutcomeInverse.{RunsAreKnown, Known, IsBehind}
use Rattle.pws_mark.proofs.OutcomeMeets.{doctype_given}

abbrev pub DoctypesStand : Type 0
DoctypesStand = (front rest : List ℕ) (s : State) → run start front ≡ Some s → is_early s ≡ true
    → (is_at (encode_utf8_all (front ++ rest)) s.at (codes "<!DOCTYPE") ≡ true → HasDoctype (encode_utf8_all (front ++ rest)) s.at)
    × (is_bang s.mode ≡ true → is_at (encode_utf8_all (front ++ rest)) (s.at - 2) (codes "<!DOCTYPE") ≡ true → HasDoctype (encode_utf8_all (front ++ rest)) (s.at - 2))

abbrev pub InstructionsStand : Type 0
InstructionsStand = (front rest : List ℕ) (s : State) → run start front ≡ Some s → IsStuck s rest
    → (is_within s.mode ≡ false → is_at (encode_utf8_all (front ++ rest)) s.at (codes "<?") ≡ true → HasInstruction (encode_utf8_all (front ++ rest)) s.at)
    × ((before : ℕ) → question_before s.mode ≡ Some before → is_at (encode_utf8_all (front ++ rest)) (s.at - before) (codes "<?") ≡ true → HasInstruction (encode_utf8_all (front ++ rest)) (s.at - before))

bang_known : (m : Mode) (o : Outer) (front : List ℕ) → is_bang m ≡ true → Known m o front → (starts : Bool) × IsBehind (60 ∷ 33 ∷ []) front o starts
bang_known mode.Bang o front h k = k
bang_known _ o front h k = absurd cc

-- the place of what stands before a mark
pub behind_at : (front xs mark : List ℕ) (s u : State) (n : ℕ) → run start front ≡ Some s → run start xs ≡ Some u → front ≡ xs ++ mark → length (encode_utf8_all mark) ≡ n → s.at ≡ u.at + n
behind_at front xs mark s u n runs there is size =
    omega (arith, places_count front s runs, places_count xs u there, ap (λ z. length (encode_utf8_all z)) is, ap length (encodes-append xs mark), length-append (encode_utf8_all xs) (encode_utf8_all mark), size)

bang_stands : RunsBegin → RunsArePlaced → (front rest : List ℕ) (s : State) (starts : Bool) → run start front ≡ Some s → is_early s ≡ true → IsBehind (60 ∷ 33 ∷ []) front s.outer starts
    → is_at (encode_utf8_all (front ++ rest)) (s.at - 2) (codes "<!DOCTYPE") ≡ true → HasDoctype (encode_utf8_all (front ++ rest)) (s.at - 2)
unfolding encode
bang_stands begin are_placed front rest s starts runs early b stands =
    let size = behind_at front b.xs (60 ∷ 33 ∷ []) s b.before 2 runs b.there b.front_is refl in
    let place : s.at - 2 ≡ b.before.at = omega arith in
    let chars : front ++ rest ≡ b.xs ++ 60 ∷ 33 ∷ rest = ap (λ z. z ++ rest) b.front_is ∙ append_assoc b.xs (60 ∷ 33 ∷ []) rest in
    let parts = and_parts (is_early_in s.mode) (is_before (region s.outer)) early in
    let before_early : is_early b.before ≡ true = and_from (is_early_in b.before.mode) (is_before (region b.before.outer)) b.early (ap (λ o. is_before (region o)) (sym b.outer_is) ∙ parts.1) in
    subst (λ n. HasDoctype (encode_utf8_all (front ++ rest)) n) (sym place)
    (subst (λ zs. HasDoctype (encode_utf8_all zs) b.before.at) (sym chars)
    (doctype_given begin are_placed b.xs (60 ∷ 33 ∷ rest) b.before b.there before_early
    (subst (λ zs. is_at (encode_utf8_all zs) b.before.at (codes "<!DOCTYPE") ≡ true) chars (subst (λ n. is_at (encode_utf8_all (front ++ rest)) n (codes "<!DOCTYPE") ≡ true) place stands))))

pub doctypes_stand : RunsBegin → RunsArePlaced → RunsAreKnown → DoctypesStand
doctypes_stand begin are_placed known front rest s runs early =
    (doctype_given begin are_placed front rest s runs early, λ bang stands. let b = bang_known s.mode s.outer front bang (known front s runs) in bang_stands begin are_placed front rest s b.0 runs early b.1 stands)

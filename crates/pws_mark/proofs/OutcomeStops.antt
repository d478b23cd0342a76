-- What refuses a text where the reader stops.
use Rattle.std.proofs.Common.{◌≡◌, ◌⊎◌, inl, inr, ℕ, ◌+◌, ◌-◌, Bool, true, false, ◌&&◌, List, [], ◌∷◌, ◌++◌, refl, ap, subst, sym, ◌∙◌, append-nil, arith, Option, Some, None}
use Rattle.std.specs.Prelude.{◌≢◌, Contains, not, codes, encode_utf8_all}
use Rattle.std.specs.Str.{all_scalars}
use Rattle.std.proofs.lemmas.Bool.{and_parts, and_from}
use Rattle.std.proofs.lemmas.Str.{encodes_same}
use Rattle.std.proofs.lemmas.List.Elements.{Contains-append_cases, Contains-append_left, Contains-append_right}
use Rattle.pws_mark.specs.Beginnings.{IsText, IsLongest}
use Rattle.pws_mark.specs.Causes.{HasDoctype, HasInstruction, HasFault, IsCause}
use Rattle.pws_mark.specs.Noted.{if_found}
use Rattle.pws_mark.specs.Outcome.{found, stop_finds, question_before, question_finds, is_bang, AreCauses, StopsAt, StopsTell}
use Rattle.pws_mark.specs.Places.{is_at}
use Rattle.pws_mark.specs.ReaderLaws.{RunsBegin, RunsArePlaced, is_early}
use Rattle.pws_mark.specs.Scan.{step, run, start, then_run, is_whole, is_within}
use Rattle.pws_mark.specs.Spelling.{write}
use Rattle.pws_mark.specs.States.{State}
use Rattle.pws_mark.specs.declared.errors.MarkKind.{MarkKind}
use Rattle.pws_mark.specs.declared.errors.MarkKind.TheVariants as kind
use Rattle.pws_mark.proofs.Followed.{documents_are_followed}
use Rattle.pws_mark.proofs.Going.{run_append}
use Rattle.pws_mark.proofs.Spelled.{document_spelled}
use Rattle.pws_mark.proofs.OutcomeCuts.{IsStuck}
use Rattle.pws_mark.proofs.OutcomeFaults.{contains_cons, fault_found, found_fault, found_kind, is_noted}
use Rattle.pws_mark.proofs.OutcomeFronts.{one_longest}
use Rattle.pws_mark.proofs.OutcomeLongest.{Comes, ends_come, stops_come}
use Rattle.pws_mark.proofs.OutcomeMeets.{doctype_found}
use Rattle.pws_mark.proofs.OutcomeQuestions.{MarksOpen, HeadsBegin, instruction_found}
use Rattle.pws_mark.proofs.OutcomeGiven.{DoctypesStand, InstructionsStand}

-- it stops where it is stuck
is_stuck : (s : State) (rest : List ℕ) (k : ℕ) → StopsAt s rest k → IsStuck s rest
is_stuck s [] k h c cs e = absurd cc
is_stuck s (d ∷ ds) k h c cs e = let same : c ≡ d = cc in ap (step s) same ∙ h.0

comes : RunsBegin → (front rest : List ℕ) (s : State) (k : ℕ) → run start front ≡ Some s → StopsAt s rest k → Comes (encode_utf8_all (front ++ rest)) front s k
comes begin front [] s k runs h =
    subst (λ n. Comes (encode_utf8_all (front ++ [])) front s n) (sym h.1)
    (subst (λ zs. Comes (encode_utf8_all zs) front s 0) (sym (append-nil front)) (ends_come begin front s runs))
comes begin front (c ∷ cs) s k runs h = stops_come begin front c cs s k runs h.1

no_run : (s last : State) (rest : List ℕ) (k : ℕ) → StopsAt s rest k → run s rest ≡ Some last → is_whole last ≡ true → ⊥
unfolding run
no_run s last [] k h runs whole = let same : s ≡ last = cc in let not_so = h.0 in let yes : is_whole s ≡ true = ap is_whole same ∙ whole in let bad : false ≡ true = sym not_so ∙ yes in absurd cc
no_run s last (c ∷ cs) k h runs whole = let none : then_run None (λ t. run t cs) ≡ Some last = ap (λ z. then_run z (λ t. run t cs)) (sym h.0) ∙ runs in absurd cc

no_text : (front rest : List ℕ) (s : State) (k : ℕ) → run start front ≡ Some s → StopsAt s rest k → IsText (encode_utf8_all (front ++ rest)) → ⊥
no_text front rest s k runs h text =
    let d = text.0 in
    let written : write d ≡ front ++ rest = encodes_same (write d) (front ++ rest) (document_spelled d text.1.lawful ∙ text.1.spelled) in
    let f = documents_are_followed d text.1.lawful in
    let onward : run s rest ≡ Some f.last = sym (run_append start front rest ∙ ap (λ z. then_run z (λ t. run t rest)) runs) ∙ (ap (run start) (sym written) ∙ f.runs) in
    no_run s f.last rest k h onward f.whole

-- what is found by a test

found_by : (b : Bool) (k : MarkKind) (at : ℕ) → b ≡ true → Contains (if_found b k at) (k, at)
found_by true k at h = (0, omega arith, refl)
found_by false k at h = absurd cc

record Tested (b : Bool) (k : MarkKind) (at : ℕ) (kd : MarkKind) (place : ℕ) : Type 0 where
  holds : b ≡ true
  kind_is : k ≡ kd
  at_is : at ≡ place

tested : (b : Bool) (k : MarkKind) (at : ℕ) (kd : MarkKind) (place : ℕ) → Contains (if_found b k at) (kd, place) → Tested b k at kd place
tested true k at kd place h = by (contains_cons (k, at) [] (kd, place) h)
  where
    by : (◌≡◌ {A = MarkKind × ℕ} (k, at) (kd, place)) ⊎ Contains {X = MarkKind × ℕ} [] (kd, place) → Tested true k at kd place
    by (inl e) = record { holds = refl; kind_is = ap (λ (z : MarkKind × ℕ). z.0) e; at_is = ap (λ (z : MarkKind × ℕ). z.1) e }
    by (inr w) = absurd (omega (arith, w.1))
tested false k at kd place h = absurd (omega (arith, h.1))

-- what is found where it stops

abbrev one_test : State → List ℕ → Bool
one_test s bytes = is_early s && is_at bytes s.at (codes "<!DOCTYPE")

abbrev two_test : State → List ℕ → Bool
two_test s bytes = is_early s && (is_bang s.mode && is_at bytes (s.at - 2) (codes "<!DOCTYPE"))

abbrev three_test : State → List ℕ → Bool
three_test s bytes = not (is_within s.mode) && is_at bytes s.at (codes "<?")

record IsQuestion (bytes : List ℕ) (at : ℕ) (o : Option ℕ) (kd : MarkKind) (place : ℕ) : Type 0 where
  before : ℕ
  is : o ≡ Some before
  test : Tested (is_at bytes (at - before) (codes "<?")) kind.Instruction (at - before) kd place

question_cases : (bytes : List ℕ) (at : ℕ) (o : Option ℕ) (kd : MarkKind) (place : ℕ) → Contains (question_finds bytes at o) (kd, place) → IsQuestion bytes at o kd place
question_cases bytes at None kd place h = absurd (omega (arith, h.1))
question_cases bytes at (Some before) kd place h = record { before = before; is = refl; test = tested _ kind.Instruction (at - before) kd place h }

StopCase : State → List ℕ → MarkKind → ℕ → Type 0
StopCase s bytes kd place =
    Tested (one_test s bytes) kind.Doctype s.at kd place ⊎ (Tested (two_test s bytes) kind.Doctype (s.at - 2) kd place
    ⊎ (Tested (three_test s bytes) kind.Instruction s.at kd place ⊎ IsQuestion bytes s.at (question_before s.mode) kd place))

stop_cases : (s : State) (bytes : List ℕ) (kd : MarkKind) (place : ℕ) → Contains (stop_finds s bytes) (kd, place) → StopCase s bytes kd place
unfolding stop_finds StopCase
stop_cases s bytes kd place h = one (Contains-append_cases (if_found (one_test s bytes) kind.Doctype s.at) (if_found (two_test s bytes) kind.Doctype (s.at - 2) ++ (if_found (three_test s bytes) kind.Instruction s.at ++ question_finds bytes s.at (question_before s.mode))) (kd, place) h)
  where
    three : Contains (if_found (three_test s bytes) kind.Instruction s.at) (kd, place) ⊎ Contains (question_finds bytes s.at (question_before s.mode)) (kd, place) → StopCase s bytes kd place
    three (inl w) = inr (inr (inl (tested (three_test s bytes) kind.Instruction s.at kd place w)))
    three (inr w) = inr (inr (inr (question_cases bytes s.at (question_before s.mode) kd place w)))

    two : Contains (if_found (two_test s bytes) kind.Doctype (s.at - 2)) (kd, place) ⊎ Contains (if_found (three_test s bytes) kind.Instruction s.at ++ question_finds bytes s.at (question_before s.mode)) (kd, place) → StopCase s bytes kd place
    two (inl w) = inr (inl (tested (two_test s bytes) kind.Doctype (s.at - 2) kd place w))
    two (inr w) = three (Contains-append_cases (if_found (three_test s bytes) kind.Instruction s.at) (question_finds bytes s.at (question_before s.mode)) (kd, place) w)

    one : Contains (if_found (one_test s bytes) kind.Doctype s.at) (kd, place) ⊎ Contains (if_found (two_test s bytes) kind.Doctype (s.at - 2) ++ (if_found (three_test s bytes) kind.Instruction s.at ++ question_finds bytes s.at (question_before s.mode))) (kd, place) → StopCase s bytes kd place
    one (inl w) = inl (tested (one_test s bytes) kind.Doctype s.at kd place w)
    one (inr w) = two (Contains-append_cases (if_found (two_test s bytes) kind.Doctype (s.at - 2)) (if_found (three_test s bytes) kind.Instruction s.at ++ question_finds bytes s.at (question_before s.mode)) (kd, place) w)

abbrev is_stop : MarkKind → Bool
is_stop kind.Doctype = true
is_stop kind.Instruction = true
is_stop _ = false

stop_kind : (s : State) (bytes : List ℕ) (kd : MarkKind) (place : ℕ) → StopCase s bytes kd place → is_stop kd ≡ true
unfolding StopCase
stop_kind s bytes kd place (inl t) = ap is_stop (sym t.kind_is)
stop_kind s bytes kd place (inr (inl t)) = ap is_stop (sym t.kind_is)
stop_kind s bytes kd place (inr (inr (inl t))) = ap is_stop (sym t.kind_is)
stop_kind s bytes kd place (inr (inr (inr t))) = ap is_stop (sym t.test.kind_is)

in_one : (s : State) (bytes : List ℕ) → one_test s bytes ≡ true → Contains (stop_finds s bytes) (kind.Doctype, s.at)
unfolding stop_finds
in_one s bytes h = Contains-append_left (if_found (one_test s bytes) kind.Doctype s.at) _ (kind.Doctype, s.at) (found_by (one_test s bytes) kind.Doctype s.at h)

in_two : (s : State) (bytes : List ℕ) → two_test s bytes ≡ true → Contains (stop_finds s bytes) (kind.Doctype, s.at - 2)
unfolding stop_finds
in_two s bytes h = Contains-append_right (if_found (one_test s bytes) kind.Doctype s.at) _ (kind.Doctype, s.at - 2) (Contains-append_left (if_found (two_test s bytes) kind.Doctype (s.at - 2)) _ (kind.Doctype, s.at - 2) (found_by (two_test s bytes) kind.Doctype (s.at - 2) h))

in_three : (s : State) (bytes : List ℕ) → three_test s bytes ≡ true → Contains (stop_finds s bytes) (kind.Instruction, s.at)
unfolding stop_finds
in_three s bytes h = Contains-append_right (if_found (one_test s bytes) kind.Doctype s.at) _ (kind.Instruction, s.at) (Contains-append_right (if_found (two_test s bytes) kind.Doctype (s.at - 2)) _ (kind.Instruction, s.at) (Contains-append_left (if_found (three_test s bytes) kind.Instruction s.at) _ (kind.Instruction, s.at) (found_by (three_test s bytes) kind.Instruction s.at h)))

in_four : (s : State) (bytes : List ℕ) (before : ℕ) → question_before s.mode ≡ Some before → is_at bytes (s.at - before) (codes "<?") ≡ true → Contains (stop_finds s bytes) (kind.Instruction, s.at - before)
unfolding stop_finds
in_four s bytes before is h =
    let there : Contains (question_finds bytes s.at (question_before s.mode)) (kind.Instruction, s.at - before) = subst (λ o. Contains (question_finds bytes s.at o) (kind.Instruction, s.at - before)) (sym is) (found_by (is_at bytes (s.at - before) (codes "<?")) kind.Instruction (s.at - before) h) in
    Contains-append_right (if_found (one_test s bytes) kind.Doctype s.at) _ (kind.Instruction, s.at - before) (Contains-append_right (if_found (two_test s bytes) kind.Doctype (s.at - 2)) _ (kind.Instruction, s.at - before) (Contains-append_right (if_found (three_test s bytes) kind.Instruction s.at) _ (kind.Instruction, s.at - before) there))

not_found : (front : List ℕ) (k : MarkKind) (at : ℕ) → is_noted k ≡ false → Contains (found front) (k, at) → ⊥
not_found front k at h w = let yes = found_kind front k at w in let bad : true ≡ false = sym yes ∙ h in absurd cc

no_stop : (s : State) (bytes : List ℕ) (k : MarkKind) (at : ℕ) → is_stop k ≡ false → Contains (stop_finds s bytes) (k, at) → ⊥
no_stop s bytes k at h w = let yes = stop_kind s bytes k at (stop_cases s bytes k at w) in let bad : true ≡ false = sym yes ∙ h in absurd cc

-- a document type is told where one stands
doctype_told : RunsArePlaced → (front rest : List ℕ) (s : State) (at : ℕ) → all_scalars (front ++ rest) ≡ true → run start front ≡ Some s → IsStuck s rest → HasDoctype (encode_utf8_all (front ++ rest)) at
    → Contains (stop_finds s (encode_utf8_all (front ++ rest))) (kind.Doctype, at)
doctype_told are_placed front rest s at scalars runs stuck h = by (doctype_found are_placed front rest s at scalars runs stuck h)
  where
    by : ((is_early s ≡ true) × (s.at ≡ at) × (rest ≢ [])) ⊎ ((is_early s ≡ true) × (is_bang s.mode ≡ true) × (s.at ≡ at + 2)) → Contains (stop_finds s (encode_utf8_all (front ++ rest))) (kind.Doctype, at)
    by (inl w) =
        subst (λ n. Contains (stop_finds s (encode_utf8_all (front ++ rest))) (kind.Doctype, n)) w.1
        (in_one s (encode_utf8_all (front ++ rest)) (and_from (is_early s) (is_at (encode_utf8_all (front ++ rest)) s.at (codes "<!DOCTYPE")) w.0 (subst (λ n. is_at (encode_utf8_all (front ++ rest)) n (codes "<!DOCTYPE") ≡ true) (sym w.1) h.stands)))
    by (inr w) =
        let place : s.at - 2 ≡ at = omega (arith, w.2) in
        subst (λ n. Contains (stop_finds s (encode_utf8_all (front ++ rest))) (kind.Doctype, n)) place
        (in_two s (encode_utf8_all (front ++ rest)) (and_from (is_early s) (is_bang s.mode && is_at (encode_utf8_all (front ++ rest)) (s.at - 2) (codes "<!DOCTYPE")) w.0 (and_from (is_bang s.mode) (is_at (encode_utf8_all (front ++ rest)) (s.at - 2) (codes "<!DOCTYPE")) w.1 (subst (λ n. is_at (encode_utf8_all (front ++ rest)) n (codes "<!DOCTYPE") ≡ true) (sym place) h.stands))))

instruction_told : RunsArePlaced → MarksOpen → HeadsBegin → (front rest : List ℕ) (s : State) (at : ℕ) → all_scalars (front ++ rest) ≡ true → run start front ≡ Some s → IsStuck s rest → HasInstruction (encode_utf8_all (front ++ rest)) at
    → Contains (stop_finds s (encode_utf8_all (front ++ rest))) (kind.Instruction, at)
instruction_told are_placed open_marks heads front rest s at scalars runs stuck h = by (instruction_found are_placed open_marks heads front rest s at scalars runs stuck h)
  where
    by : ((is_within s.mode ≡ false) × (s.at ≡ at) × (rest ≢ [])) ⊎ ((before : ℕ) × (question_before s.mode ≡ Some before) × (s.at ≡ at + before)) → Contains (stop_finds s (encode_utf8_all (front ++ rest))) (kind.Instruction, at)
    by (inl w) =
        subst (λ n. Contains (stop_finds s (encode_utf8_all (front ++ rest))) (kind.Instruction, n)) w.1
        (in_three s (encode_utf8_all (front ++ rest)) (and_from (not (is_within s.mode)) (is_at (encode_utf8_all (front ++ rest)) s.at (codes "<?")) (ap not w.0) (subst (λ n. is_at (encode_utf8_all (front ++ rest)) n (codes "<?") ≡ true) (sym w.1) h.stands)))
    by (inr w) =
        let place : s.at - w.0 ≡ at = omega (arith, w.2) in
        subst (λ n. Contains (stop_finds s (encode_utf8_all (front ++ rest))) (kind.Instruction, n)) place
        (in_four s (encode_utf8_all (front ++ rest)) w.0 w.1 (subst (λ n. is_at (encode_utf8_all (front ++ rest)) n (codes "<?") ≡ true) (sym place) h.stands))

-- and only there

not_true : (b : Bool) → not b ≡ true → b ≡ false
not_true true h = sym h
not_true false h = refl

doctype_back : DoctypesStand → (front rest : List ℕ) (s : State) (k at : ℕ) → run start front ≡ Some s → StopsAt s rest k → StopCase s (encode_utf8_all (front ++ rest)) kind.Doctype at → HasDoctype (encode_utf8_all (front ++ rest)) at
unfolding StopCase
doctype_back stand front rest s k at runs stops (inl t) =
    let parts = and_parts (is_early s) (is_at (encode_utf8_all (front ++ rest)) s.at (codes "<!DOCTYPE")) t.holds in
    subst (λ n. HasDoctype (encode_utf8_all (front ++ rest)) n) t.at_is ((stand front rest s runs parts.0).0 parts.1)
doctype_back stand front rest s k at runs stops (inr (inl t)) =
    let parts = and_parts (is_early s) (is_bang s.mode && is_at (encode_utf8_all (front ++ rest)) (s.at - 2) (codes "<!DOCTYPE")) t.holds in
    let more = and_parts (is_bang s.mode) (is_at (encode_utf8_all (front ++ rest)) (s.at - 2) (codes "<!DOCTYPE")) parts.1 in
    subst (λ n. HasDoctype (encode_utf8_all (front ++ rest)) n) t.at_is ((stand front rest s runs parts.0).1 more.0 more.1)
doctype_back stand front rest s k at runs stops (inr (inr (inl t))) = absurd (let e = t.kind_is in cc)
doctype_back stand front rest s k at runs stops (inr (inr (inr t))) = absurd (let e = t.test.kind_is in cc)

instruction_back : InstructionsStand → (front rest : List ℕ) (s : State) (k at : ℕ) → run start front ≡ Some s → StopsAt s rest k → StopCase s (encode_utf8_all (front ++ rest)) kind.Instruction at → HasInstruction (encode_utf8_all (front ++ rest)) at
unfolding StopCase
instruction_back stand front rest s k at runs stops (inl t) = absurd (let e = t.kind_is in cc)
instruction_back stand front rest s k at runs stops (inr (inl t)) = absurd (let e = t.kind_is in cc)
instruction_back stand front rest s k at runs stops (inr (inr (inl t))) =
    let parts = and_parts (not (is_within s.mode)) (is_at (encode_utf8_all (front ++ rest)) s.at (codes "<?")) t.holds in
    subst (λ n. HasInstruction (encode_utf8_all (front ++ rest)) n) t.at_is ((stand front rest s runs (is_stuck s rest k stops)).0 (not_true (is_within s.mode) parts.0) parts.1)
instruction_back stand front rest s k at runs stops (inr (inr (inr t))) =
    subst (λ n. HasInstruction (encode_utf8_all (front ++ rest)) n) t.test.at_is ((stand front rest s runs (is_stuck s rest k stops)).1 t.before t.is t.test.holds)

-- all that is found
abbrev every : List ℕ → State → List ℕ → ℕ → List (MarkKind × ℕ)
every front s bytes k = found front ++ (stop_finds s bytes ++ (kind.Syntax, s.at + k) ∷ [])

at_front : (front : List ℕ) (s : State) (bytes : List ℕ) (k : ℕ) (kd : MarkKind) (at : ℕ) → Contains (found front) (kd, at) → Contains (every front s bytes k) (kd, at)
at_front front s bytes k kd at h = Contains-append_left (found front) (stop_finds s bytes ++ (kind.Syntax, s.at + k) ∷ []) (kd, at) h

at_stop : (front : List ℕ) (s : State) (bytes : List ℕ) (k : ℕ) (kd : MarkKind) (at : ℕ) → Contains (stop_finds s bytes) (kd, at) → Contains (every front s bytes k) (kd, at)
at_stop front s bytes k kd at h = Contains-append_right (found front) (stop_finds s bytes ++ (kind.Syntax, s.at + k) ∷ []) (kd, at) (Contains-append_left (stop_finds s bytes) ((kind.Syntax, s.at + k) ∷ []) (kd, at) h)

at_last : (front : List ℕ) (s : State) (bytes : List ℕ) (k : ℕ) → Contains (every front s bytes k) (kind.Syntax, s.at + k)
at_last front s bytes k = Contains-append_right (found front) (stop_finds s bytes ++ (kind.Syntax, s.at + k) ∷ []) (kind.Syntax, s.at + k) (Contains-append_right (stop_finds s bytes) ((kind.Syntax, s.at + k) ∷ []) (kind.Syntax, s.at + k) (0, omega arith, refl))

parted : (front : List ℕ) (s : State) (bytes : List ℕ) (k : ℕ) (kd : MarkKind) (at : ℕ) → Contains (every front s bytes k) (kd, at) → Contains (found front) (kd, at) ⊎ (Contains (stop_finds s bytes) (kd, at) ⊎ ((kind.Syntax ≡ kd) × (s.at + k ≡ at)))
parted front s bytes k kd at h = one (Contains-append_cases (found front) (stop_finds s bytes ++ (kind.Syntax, s.at + k) ∷ []) (kd, at) h)
  where
    three : (◌≡◌ {A = MarkKind × ℕ} (kind.Syntax, s.at + k) (kd, at)) ⊎ Contains {X = MarkKind × ℕ} [] (kd, at) → (kind.Syntax ≡ kd) × (s.at + k ≡ at)
    three (inl e) = (ap (λ (z : MarkKind × ℕ). z.0) e, ap (λ (z : MarkKind × ℕ). z.1) e)
    three (inr w) = absurd (omega (arith, w.1))

    two : Contains (stop_finds s bytes) (kd, at) ⊎ Contains {X = MarkKind × ℕ} ((kind.Syntax, s.at + k) ∷ []) (kd, at) → Contains (stop_finds s bytes) (kd, at) ⊎ ((kind.Syntax ≡ kd) × (s.at + k ≡ at))
    two (inl w) = inl w
    two (inr w) = inr (three (contains_cons (kind.Syntax, s.at + k) [] (kd, at) w))

    one : Contains (found front) (kd, at) ⊎ Contains (stop_finds s bytes ++ (kind.Syntax, s.at + k) ∷ []) (kd, at) → Contains (found front) (kd, at) ⊎ (Contains (stop_finds s bytes) (kd, at) ⊎ ((kind.Syntax ≡ kd) × (s.at + k ≡ at)))
    one (inl w) = inl w
    one (inr w) = inr (two (Contains-append_cases (stop_finds s bytes) ((kind.Syntax, s.at + k) ∷ []) (kd, at) w))

pub stops_told : RunsBegin → RunsArePlaced → MarksOpen → HeadsBegin → DoctypesStand → InstructionsStand → StopsTell
stops_told begin are_placed open_marks heads doctypes instructions front rest s k scalars runs stops = kinds
  where
    nothing : (kd : MarkKind) (at : ℕ) → is_noted kd ≡ false → is_stop kd ≡ false → (kind.Syntax ≡ kd → ⊥) → Contains (found front) (kd, at) ⊎ (Contains (stop_finds s (encode_utf8_all (front ++ rest))) (kd, at) ⊎ ((kind.Syntax ≡ kd) × (s.at + k ≡ at))) → ⊥
    nothing kd at a b d (inl w) = not_found front kd at a w
    nothing kd at a b d (inr (inl w)) = no_stop s (encode_utf8_all (front ++ rest)) kd at b w
    nothing kd at a b d (inr (inr w)) = d w.0

    fault : (kd : MarkKind) (at : ℕ) → HasFault (encode_utf8_all (front ++ rest)) kd at → Contains (every front s (encode_utf8_all (front ++ rest)) k) (kd, at)
    fault kd at h = at_front front s (encode_utf8_all (front ++ rest)) k kd at (fault_found (encode_utf8_all (front ++ rest)) front s k runs (comes begin front rest s k runs stops) kd at h)

    back : (kd : MarkKind) (at : ℕ) → is_stop kd ≡ false → (kind.Syntax ≡ kd → ⊥) → Contains (found front) (kd, at) ⊎ (Contains (stop_finds s (encode_utf8_all (front ++ rest))) (kd, at) ⊎ ((kind.Syntax ≡ kd) × (s.at + k ≡ at))) → HasFault (encode_utf8_all (front ++ rest)) kd at
    back kd at b d (inl w) = found_fault (encode_utf8_all (front ++ rest)) front s k runs (comes begin front rest s k runs stops) kd at w
    back kd at b d (inr (inl w)) = absurd (no_stop s (encode_utf8_all (front ++ rest)) kd at b w)
    back kd at b d (inr (inr w)) = absurd (d w.0)

    syntax : (at : ℕ) → IsCause (encode_utf8_all (front ++ rest)) kind.Syntax at → Contains (every front s (encode_utf8_all (front ++ rest)) k) (kind.Syntax, at)
    syntax at (inl h) = fault kind.Syntax at h
    syntax at (inr h) =
        let same : s.at + k ≡ at = one_longest (encode_utf8_all (front ++ rest)) (s.at + k) at (comes begin front rest s k runs stops).longest h.1 in
        subst (λ n. Contains (every front s (encode_utf8_all (front ++ rest)) k) (kind.Syntax, n)) same (at_last front s (encode_utf8_all (front ++ rest)) k)

    syntax_back : (at : ℕ) → Contains (found front) (kind.Syntax, at) ⊎ (Contains (stop_finds s (encode_utf8_all (front ++ rest))) (kind.Syntax, at) ⊎ ((kind.Syntax ≡ kind.Syntax) × (s.at + k ≡ at))) → IsCause (encode_utf8_all (front ++ rest)) kind.Syntax at
    syntax_back at (inl w) = inl (found_fault (encode_utf8_all (front ++ rest)) front s k runs (comes begin front rest s k runs stops) kind.Syntax at w)
    syntax_back at (inr (inl w)) = absurd (no_stop s (encode_utf8_all (front ++ rest)) kind.Syntax at refl w)
    syntax_back at (inr (inr w)) = inr (no_text front rest s k runs stops, subst (λ n. IsLongest (encode_utf8_all (front ++ rest)) n) w.1 (comes begin front rest s k runs stops).longest)

    doctype : (at : ℕ) → Contains (found front) (kind.Doctype, at) ⊎ (Contains (stop_finds s (encode_utf8_all (front ++ rest))) (kind.Doctype, at) ⊎ ((kind.Syntax ≡ kind.Doctype) × (s.at + k ≡ at))) → HasDoctype (encode_utf8_all (front ++ rest)) at
    doctype at (inl w) = absurd (not_found front kind.Doctype at refl w)
    doctype at (inr (inl w)) = doctype_back doctypes front rest s k at runs stops (stop_cases s (encode_utf8_all (front ++ rest)) kind.Doctype at w)
    doctype at (inr (inr w)) = absurd (let e = w.0 in cc)

    instruction : (at : ℕ) → Contains (found front) (kind.Instruction, at) ⊎ (Contains (stop_finds s (encode_utf8_all (front ++ rest))) (kind.Instruction, at) ⊎ ((kind.Syntax ≡ kind.Instruction) × (s.at + k ≡ at))) → HasInstruction (encode_utf8_all (front ++ rest)) at
    instruction at (inl w) = absurd (not_found front kind.Instruction at refl w)
    instruction at (inr (inl w)) = instruction_back instructions front rest s k at runs stops (stop_cases s (encode_utf8_all (front ++ rest)) kind.Instruction at w)
    instruction at (inr (inr w)) = absurd (let e = w.0 in cc)

    cases : (kd : MarkKind) (at : ℕ) → Contains (every front s (encode_utf8_all (front ++ rest)) k) (kd, at) → Contains (found front) (kd, at) ⊎ (Contains (stop_finds s (encode_utf8_all (front ++ rest))) (kd, at) ⊎ ((kind.Syntax ≡ kd) × (s.at + k ≡ at)))
    cases kd at h = parted front s (encode_utf8_all (front ++ rest)) k kd at h

    kinds : AreCauses (encode_utf8_all (front ++ rest)) (every front s (encode_utf8_all (front ++ rest)) k)
    kinds kind.Size at = (λ h. absurd h, λ h. nothing kind.Size at refl refl (λ e. absurd cc) (cases kind.Size at h))
    kinds kind.Utf8 at = (λ h. absurd h, λ h. nothing kind.Utf8 at refl refl (λ e. absurd cc) (cases kind.Utf8 at h))
    kinds kind.Doctype at = (λ h. at_stop front s (encode_utf8_all (front ++ rest)) k kind.Doctype at (doctype_told are_placed front rest s at scalars runs (is_stuck s rest k stops) h), λ h. doctype at (cases kind.Doctype at h))
    kinds kind.Instruction at = (λ h. at_stop front s (encode_utf8_all (front ++ rest)) k kind.Instruction at (instruction_told are_placed open_marks heads front rest s at scalars runs (is_stuck s rest k stops) h), λ h. instruction at (cases kind.Instruction at h))
    kinds kind.Depth at = (fault kind.Depth at, λ h. back kind.Depth at refl (λ e. absurd cc) (cases kind.Depth at h))
    kinds kind.Prefix at = (fault kind.Prefix at, λ h. back kind.Prefix at refl (λ e. absurd cc) (cases kind.Prefix at h))
    kinds kind.Twice at = (fault kind.Twice at, λ h. back kind.Twice at refl (λ e. absurd cc) (cases kind.Twice at h))
    kinds kind.Entity at = (fault kind.Entity at, λ h. back kind.Entity at refl (λ e. absurd cc) (cases kind.Entity at h))
    kinds kind.Syntax at = (syntax at, λ h. syntax_back at (cases kind.Syntax at h))

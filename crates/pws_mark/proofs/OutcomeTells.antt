-- What refuses a text is what the reader finds in it.
use Rattle.std.proofs.Common.{◌≡◌, ◌⊎◌, inl, inr, ℕ, ◌+◌, true, false, List, [], ◌++◌, refl, subst, sym, ◌∙◌, append-nil, Some, None}
use Rattle.std.specs.Prelude.{◌≢◌, Contains, encode_utf8_all}
use Rattle.std.specs.Str.{all_scalars}
use Rattle.pws_mark.specs.Beginnings.{IsText}
use Rattle.pws_mark.specs.Causes.{HasDoctype, HasInstruction, HasFault, IsCause}
use Rattle.pws_mark.specs.Outcome.{found, question_before, is_bang, AreCauses, EndsTell}
use Rattle.pws_mark.specs.ReaderLaws.{RunsBegin, RunsArePlaced, is_early}
use Rattle.pws_mark.specs.Scan.{run, start, is_whole, is_whole_in, is_within}
use Rattle.pws_mark.specs.States.{Outer, State}
use Rattle.pws_mark.specs.declared.errors.MarkKind.{MarkKind}
use Rattle.pws_mark.specs.declared.errors.MarkKind.TheVariants as kind
use Rattle.pws_mark.specs.declared.modes.Mode.{Mode}
use Rattle.pws_mark.specs.declared.modes.Mode.TheVariants as mode
use Rattle.pws_mark.proofs.OutcomeEnds.{is_one}
use Rattle.pws_mark.proofs.OutcomeFaults.{fault_found, found_fault, found_kind, is_noted}
use Rattle.pws_mark.proofs.OutcomeLongest.{ends_come}
use Rattle.pws_mark.proofs.OutcomeMeets.{doctype_found}
use Rattle.pws_mark.proofs.OutcomeQuestions.{MarksOpen, HeadsBegin, instruction_found}

-- at the end

whole_apart : (m : Mode) (o : Outer) → is_whole_in m o ≡ true → (is_bang m ≡ false) × (question_before m ≡ None)
whole_apart (mode.Content n after_return) o h = (refl, refl)
whole_apart _ o h = absurd cc

ends_no_doctype : RunsArePlaced → (chars : List ℕ) (s : State) → all_scalars chars ≡ true → run start chars ≡ Some s → is_whole s ≡ true → (at : ℕ) → HasDoctype (encode_utf8_all chars) at → ⊥
ends_no_doctype are_placed chars s scalars runs whole at h =
    let same : chars ≡ chars ++ [] = sym (append-nil chars) in
    by (doctype_found are_placed chars [] s at (subst (λ zs. all_scalars zs ≡ true) same scalars) runs (λ c cs e. absurd cc) (subst (λ zs. HasDoctype (encode_utf8_all zs) at) same h))
  where
    by : ((is_early s ≡ true) × (s.at ≡ at) × (◌≢◌ {A = List ℕ} [] [])) ⊎ ((is_early s ≡ true) × (is_bang s.mode ≡ true) × (s.at ≡ at + 2)) → ⊥
    by (inl w) = w.2 refl
    by (inr w) = let apart = (whole_apart s.mode s.outer whole).0 in let given = w.1 in let bad : false ≡ true = sym apart ∙ given in absurd cc

ends_no_instruction : RunsArePlaced → MarksOpen → HeadsBegin → (chars : List ℕ) (s : State) → all_scalars chars ≡ true → run start chars ≡ Some s → is_whole s ≡ true → (at : ℕ) → HasInstruction (encode_utf8_all chars) at → ⊥
ends_no_instruction are_placed open_marks heads chars s scalars runs whole at h =
    let same : chars ≡ chars ++ [] = sym (append-nil chars) in
    by (instruction_found are_placed open_marks heads chars [] s at (subst (λ zs. all_scalars zs ≡ true) same scalars) runs (λ c cs e. absurd cc) (subst (λ zs. HasInstruction (encode_utf8_all zs) at) same h))
  where
    by : ((is_within s.mode ≡ false) × (s.at ≡ at) × (◌≢◌ {A = List ℕ} [] [])) ⊎ ((before : ℕ) × (question_before s.mode ≡ Some before) × (s.at ≡ at + before)) → ⊥
    by (inl w) = w.2 refl
    by (inr w) = let apart = (whole_apart s.mode s.outer whole).1 in let given = w.1 in absurd cc

not_found : (front : List ℕ) (k : MarkKind) (at : ℕ) → is_noted k ≡ false → Contains (found front) (k, at) → ⊥
not_found front k at h w = let yes = found_kind front k at w in let bad : true ≡ false = sym yes ∙ h in absurd cc

pub ends_told : RunsBegin → RunsArePlaced → MarksOpen → HeadsBegin → EndsTell
ends_told begin are_placed open_marks heads chars s scalars runs whole = kinds
  where
    fault : (k : MarkKind) (at : ℕ) → HasFault (encode_utf8_all chars) k at → Contains (found chars) (k, at)
    fault k at = fault_found (encode_utf8_all chars) chars s 0 runs (ends_come begin chars s runs) k at

    back : (k : MarkKind) (at : ℕ) → Contains (found chars) (k, at) → HasFault (encode_utf8_all chars) k at
    back k at = found_fault (encode_utf8_all chars) chars s 0 runs (ends_come begin chars s runs) k at

    text : IsText (encode_utf8_all chars)
    text = let w = is_one begin chars s runs whole in (w.document, record { lawful = w.lawful; spelled = w.spelled })

    syntax : (at : ℕ) → IsCause (encode_utf8_all chars) kind.Syntax at → Contains (found chars) (kind.Syntax, at)
    syntax at (inl h) = fault kind.Syntax at h
    syntax at (inr h) = absurd (h.0 text)

    kinds : AreCauses (encode_utf8_all chars) (found chars)
    kinds kind.Size at = (λ h. absurd h, λ h. not_found chars kind.Size at refl h)
    kinds kind.Utf8 at = (λ h. absurd h, λ h. not_found chars kind.Utf8 at refl h)
    kinds kind.Doctype at = (λ h. absurd (ends_no_doctype are_placed chars s scalars runs whole at h), λ h. absurd (not_found chars kind.Doctype at refl h))
    kinds kind.Instruction at = (λ h. absurd (ends_no_instruction are_placed open_marks heads chars s scalars runs whole at h), λ h. absurd (not_found chars kind.Instruction at refl h))
    kinds kind.Depth at = (fault kind.Depth at, back kind.Depth at)
    kinds kind.Prefix at = (fault kind.Prefix at, back kind.Prefix at)
    kinds kind.Twice at = (fault kind.Twice at, back kind.Twice at)
    kinds kind.Entity at = (fault kind.Entity at, back kind.Entity at)
    kinds kind.Syntax at = (syntax at, λ h. inl (back kind.Syntax at h))

-- The digests that are chosen place by place.
use Rattle.std.proofs.Common.{◌≡◌, ℕ, ◌+◌, ◌-◌, ◌<◌, ◌≤◌, inl, inr, List, [], ◌∷◌, ◌++◌, length, get_or, sym, subst, arith}
use Rattle.std.proofs.lemmas.Bool.{cases_lt}
use Rattle.std.proofs.lemmas.List.{get_or_append_left, get_or_push, length-append}
use Rattle.pws_change.specs.declared.heard.Heard.{Heard}
use Rattle.pws_change.specs.Choices.{IsChosenAt}

-- the digests are those that are chosen at the places after a checkpoint
abbrev pub AreChosen : ℕ → List Heard → ℕ → List (List ℕ) → Type 0
AreChosen f changes start chosen = (p : ℕ) → start < p → p ≤ start + length chosen → IsChosenAt f changes p (get_or chosen (p - (start + 1)) [])

-- one more
pub chosen_more : (f : ℕ) (changes : List Heard) (start : ℕ) (chosen : List (List ℕ)) (d : List ℕ) → AreChosen f changes start chosen → IsChosenAt f changes (start + length chosen + 1) d → AreChosen f changes start (chosen ++ d ∷ [])
chosen_more f changes start chosen d each more p a b =
    let at : (n : ℕ) → List ℕ = λ n. get_or (chosen ++ d ∷ []) n [] in
    let long : p ≤ start + length chosen + 1 = omega (arith, length-append chosen (d ∷ [])) in
    elim (cases_lt (start + length chosen) p) [
      | inl l ↦ (
          let same : p ≡ start + length chosen + 1 = omega arith in
          let e : at (p - (start + 1)) ≡ d = get_or_push chosen d [] (p - (start + 1)) (omega arith) in
          subst (λ x. IsChosenAt f changes p x) (sym e) (subst (λ n. IsChosenAt f changes n d) (sym same) more))
      | inr l ↦ (
          let e : at (p - (start + 1)) ≡ get_or chosen (p - (start + 1)) [] = get_or_append_left chosen (d ∷ []) [] (p - (start + 1)) (omega arith) in
          subst (λ x. IsChosenAt f changes p x) (sym e) (each p a l))
    ]

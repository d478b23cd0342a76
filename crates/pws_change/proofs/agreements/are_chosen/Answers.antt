use Rattle.std.proofs.Common.{◌≡◌, ℕ, ◌+◌, ◌-◌, List, [], get_or, sym, ◌∙◌, subst, inl, inr, arith}
use Rattle.std.proofs.lemmas.Bool.{false≢true, cases_lt}
use Rattle.pws_change.specs.declared.heard.Heard.{Heard}
use Rattle.pws_change.specs.Choices.{IsChosenAt}
use Rattle.pws_change.proofs.agreements.are_chosen.Goals as goal

-- the index of a place, and the place of an index
index_is : (start i : ℕ) → start + 1 + i - (start + 1) ≡ i
index_is start i = omega arith

at_index : (f : ℕ) (changes : List Heard) (chosen : List (List ℕ)) (start i place : ℕ) → place ≡ start + 1 + i → IsChosenAt f changes (start + 1 + i) (get_or chosen i []) → IsChosenAt f changes place (get_or chosen (place - (start + 1)) [])
at_index f changes chosen start i place e h =
    subst (λ n. IsChosenAt f changes n (get_or chosen (n - (start + 1)) [])) (sym e) (subst (λ n. IsChosenAt f changes (start + 1 + i) (get_or chosen n [])) (sym (index_is start i)) h)

pub returns-then-not-is_chosen_at : goal.returns-then-not-is_chosen_at
returns-then-not-is_chosen_at c =
    let start = c.args.start in
    let i = c.loop-i.i in (
      λ e. absurd (false≢true e),
      λ each. (
          let h = each (start + 1 + i) (omega arith) (omega arith) in
          let k = subst (λ n. IsChosenAt c.args.shape c.args.changes.now (start + 1 + i) (get_or c.args.chosen.now n [])) (index_is start i) h in
          sym c.if-not-is_chosen_at.true ∙ c.is_chosen_at.ensures.1 k),
    )

pub loop-i-preserved : goal.loop-i-preserved
loop-i-preserved c place a b =
    let start = c.args.start in
    let i = c.loop-i.i in
    elim (cases_lt (start + i) place) [
      | inl l ↦ at_index c.args.shape c.args.changes.now c.args.chosen.now start i place (omega arith) (c.is_chosen_at.ensures.0 c.if-not-is_chosen_at.false)
      | inr l ↦ c.loop-i.invariant place a l
    ]

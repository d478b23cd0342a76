-- The group keeps its invariant as one of its voters acts.
use Rattle.std.proofs.Common.{◌≡◌, inl, inr, ℕ, Bool, true, false, cond, ◌++◌, refl, sym, ◌∙◌, ap, subst, ◌==◌}
use mathlib.Core.Path.{fun_ext}
use Rattle.std.proofs.lemmas.Bool.{eqb-true}
use Rattle.pws_safety.specs.Voters.{Core, Step}
use Rattle.pws_safety.specs.Kept.{GroupKeeps}
use Rattle.pws_safety.specs.Runs.{with_core, said_by}
use Rattle.pws_safety.proofs.Group.{steps_keep_said}
use Rattle.pws_protocol.specs.Doing.{did}
use Rattle.pws_refine.specs.Cores.{core_of, statements_in}
use Rattle.pws_refine.specs.Laws.{ActionsKeepGroup}
use Rattle.pws_refine.proofs.Steps.{actions_refine}

same_core : (cores : ℕ → Core) (i k : ℕ) (b : Bool) → (k == i) ≡ b → cond b (cores i) (cores k) ≡ cores k
same_core cores i k true e = ap cores (sym (eqb-true k i e))
same_core cores i k false e = refl

-- a replica's own core in its place changes nothing
pub own_core : (cores : ℕ → Core) (i : ℕ) (k : Core) → k ≡ cores i → with_core cores i k ≡ cores
own_core cores i k e = ap (with_core cores i) e ∙ fun_ext (λ j. same_core cores i j (j == i) refl)

pub actions_keep_group : ActionsKeepGroup
actions_keep_group c cores sent s said asked a trusted keeps correct at law st h b =
    let xs = statements_in (did s a).outs in
    let u = core_of (did s a).state (xs ++ said) in
    elim (actions_refine c sent s said asked a law st h b) [
      | inl x ↦ steps_keep_said c.group cores sent c.me.index u xs trusted keeps correct (subst (λ y. Step c.group sent c.me.index y u) (sym at) x) (ap (λ (y : Core). xs ++ y.said) (sym at))
      | inr x ↦
          let same : core_of (did s a).state (xs ++ said) ≡ cores c.me.index = ap (λ ys. core_of (did s a).state (ys ++ said)) x.0 ∙ x.1 ∙ sym at in
          subst (λ ys. GroupKeeps c.group (with_core cores c.me.index u) (said_by c.me.index ys ++ sent)) (sym x.0) (subst (λ cs. GroupKeeps c.group cs sent) (sym (own_core cores c.me.index u same)) keeps)
    ]

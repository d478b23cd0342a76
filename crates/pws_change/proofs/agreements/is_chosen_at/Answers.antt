use Rattle.std.proofs.Common.{sym, ◌∙◌, subst}
use Rattle.std.proofs.lemmas.Bool.{false≢true}
use Rattle.std.proofs.lemmas.Slice.Eq.{bytes_eq-Decides}
use Rattle.pws_change.specs.Choices.{IsChosenAt}
use Rattle.pws_change.proofs.Unique.{one_chosen, chosen_decides}
use Rattle.pws_change.proofs.agreements.is_chosen_at.Goals as goal

pub returns-in-Some : goal.returns-in-Some
returns-in-Some c =
    let f = c.args.shape in
    let changes = c.args.changes.now in
    let place = c.args.place in
    let d = c.in-Some.d in
    let e = c.args.digest.now in (
      λ t. subst (λ x. IsChosenAt f changes place x) ((bytes_eq-Decides d e).0 (sym c.is_same.ensures ∙ t)) c.in-Some.ensures,
      λ h. c.is_same.ensures ∙ (bytes_eq-Decides d e).1 (one_chosen f changes place d e c.in-Some.ensures h),
    )

pub returns-in-None : goal.returns-in-None
returns-in-None c = (λ t. absurd (false≢true t), λ h. absurd (chosen_decides c.args.shape c.args.changes.now c.args.place c.args.digest.now h c.in-None.ensures))

use Rattle.std.proofs.Common.{◌≡◌, ◌+◌, List, ℕ, [], ◌∷◌, length, sym, ap, subst, inr, arith}
use Rattle.std.proofs.lemmas.List.{length-append}
use Rattle.pws_change.specs.Choices.{IsChosenAt}
use Rattle.pws_change.proofs.Decided.{AreChosen, chosen_more}
use Rattle.pws_change.proofs.Unique.{chosen_decides}
use Rattle.pws_change.proofs.choices.choose_from.Goals as goal

pub returns-in-None : goal.returns-in-None
returns-in-None c =
    let f = c.args.shape in
    let changes = c.args.changes.now in
    let last = c.last_place-place-end.ensures.value in
    let at = c.loop-place.invariant.last in
    inr (
      c.args.start.now.place,
      c.args.start.now.digest,
      record {
        checkpoint = c.requires;
        after = omega arith;
        within = omega arith;
        undecided = c.in-None.ensures;
        first = λ p a b u. chosen_decides f changes p _ (c.loop-place.invariant.each p a (omega arith)) u;
      },
    )

pub loop-place-preserved : goal.loop-place-preserved
loop-place-preserved c =
    let f = c.args.shape in
    let changes = c.args.changes.now in
    let start = c.args.start.now.place in
    let old = c.loop-place.chosen in
    let d = c.in-Some.digest in
    let e = c.in_ok-push-in-Some.ensures.ok in
    let last = c.loop-place.invariant.last in
    let at : start + length old + 1 ≡ c.loop-place.place + 1 = omega arith in
    let more = chosen_more f changes start old d c.loop-place.invariant.each (subst (λ n. IsChosenAt f changes n d) (sym at) c.in-Some.ensures) in
    record {
      last = omega (arith, ap length e, length-append old (d ∷ []));
      each = subst (λ (xs : List (List ℕ)). AreChosen f changes start xs) (sym e) more;
    }

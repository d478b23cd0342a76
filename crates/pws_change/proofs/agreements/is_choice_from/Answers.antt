use Rattle.std.proofs.Common.{ℕ, ◌==◌, List, sym, ◌∙◌, subst}
use Rattle.std.specs.Str.{bytes_eq}
use Rattle.std.proofs.lemmas.Bool.{false≢true, and_parts, and_from, eq-eqb, eqb-true}
use Rattle.std.proofs.lemmas.Slice.Eq.{bytes_eq-Decides}
use Rattle.pws_change.specs.Choices.{IsStart}
use Rattle.pws_change.proofs.Decided.{AreChosen}
use Rattle.pws_change.proofs.Unique.{one_start}
use Rattle.pws_change.proofs.agreements.is_choice_from.Goals as goal

pub returns-then-not-is_start : goal.returns-then-not-is_start
returns-then-not-is_start c = (
  λ t. absurd (false≢true t),
  λ g. (
      let start = c.args.start.now in
      let choice = c.args.choice.now in
      let e = one_start c.args.shape c.args.changes.now start.place choice.place start.digest choice.digest c.requires g.start in
      sym c.if-not-is_start.true ∙ (c.is_start.ensures ∙ and_from (start.place == choice.place) (bytes_eq start.digest choice.digest) (eq-eqb start.place choice.place e.0) ((bytes_eq-Decides start.digest choice.digest).1 e.1))),
)

pub returns : goal.returns
returns c =
    let f = c.args.shape in
    let changes = c.args.changes.now in
    let start = c.args.start.now in
    let choice = c.args.choice.now in
    let t = and_parts (start.place == choice.place) (bytes_eq start.digest choice.digest) (sym c.is_start.ensures ∙ c.if-not-is_start.false) in
    let p = eqb-true start.place choice.place t.0 in
    let d = (bytes_eq-Decides start.digest choice.digest).0 t.1 in
    let e = c.as_slice.ensures in (
      λ r. record {
        start = subst (λ n. IsStart f changes n choice.digest) p (subst (λ x. IsStart f changes start.place x) d c.requires);
        last = c.is_whole.ensures.whole.0 c.if-not-is_whole.false;
        chosen = subst (λ (xs : List (List ℕ)). AreChosen f changes choice.place xs) e (c.are_chosen.ensures.0 r);
      },
      λ g. c.are_chosen.ensures.1 (subst (λ (xs : List (List ℕ)). AreChosen f changes choice.place xs) (sym e) g.chosen),
    )

use Rattle.std.proofs.Common.{◌≡◌, ◌∙◌, sym, ap, subst}
use Rattle.std.specs.Prelude.{IfOk, OnOk}
use Rattle.pws_protocol.specs.Evidence.{Noted}
use Rattle.pws_evidence.proofs.Heard.{none_of, outside_is, first_is, again_is}
use Rattle.pws_evidence.proofs.stores.Evidence.hear_about.Goals as goal

pub hear_first-requires-clause-first : goal.hear_first-requires-clause-first
hear_first-requires-clause-first c = none_of _ (sym c.has_first.ensures ∙ c.if-has_first.false)

pub returns-then-not-is_inside-clause-answer : goal.returns-then-not-is_inside-clause-answer
returns-then-not-is_inside-clause-answer c =
    ap (λ (n : Noted). n.answer) (outside_is c.args.self.now c.args.asked.now c.args.key c.args.content.now c.args.body.now c.group.result c.layout.result c.group.ensures.value c.layout.ensures.value (sym c.is_inside.ensures ∙ c.if-not-is_inside.true))

pub returns-then-not-is_inside-clause-heard : goal.returns-then-not-is_inside-clause-heard
returns-then-not-is_inside-clause-heard c =
    ap (λ (n : Noted). n.evidence) (outside_is c.args.self.now c.args.asked.now c.args.key c.args.content.now c.args.body.now c.group.result c.layout.result c.group.ensures.value c.layout.ensures.value (sym c.is_inside.ensures ∙ c.if-not-is_inside.true))

pub returns-then-has_first-clause-answer : goal.returns-then-has_first-clause-answer
returns-then-has_first-clause-answer c =
    subst (λ (n : Noted). IfOk c.hear_again.result (λ v. v ≡ n.answer))
    (again_is c.args.self.now c.args.asked.now c.args.key c.args.content.now c.args.body.now c.group.result c.layout.result c.group.ensures.value c.layout.ensures.value c.new_body-new.result
    (sym c.is_inside.ensures ∙ c.if-not-is_inside.false) (sym c.has_first.ensures ∙ c.if-has_first.true) c.new_body-new.ensures)
    c.hear_again.ensures.answer

pub returns-then-has_first-clause-heard : goal.returns-then-has_first-clause-heard
returns-then-has_first-clause-heard c =
    subst (λ (n : Noted). OnOk c.hear_again.result (c.hear_again.new.self ≡ n.evidence))
    (again_is c.args.self.now c.args.asked.now c.args.key c.args.content.now c.args.body.now c.group.result c.layout.result c.group.ensures.value c.layout.ensures.value c.new_body-new.result
    (sym c.is_inside.ensures ∙ c.if-not-is_inside.false) (sym c.has_first.ensures ∙ c.if-has_first.true) c.new_body-new.ensures)
    c.hear_again.ensures.heard

pub returns-else-has_first-clause-answer : goal.returns-else-has_first-clause-answer
returns-else-has_first-clause-answer c =
    subst (λ (n : Noted). IfOk c.hear_first.result (λ v. v ≡ n.answer))
    (first_is c.args.self.now c.args.asked.now c.args.key c.args.content.now c.args.body.now c.group.result c.layout.result c.group.ensures.value c.layout.ensures.value c.new_body-new.result
    (sym c.is_inside.ensures ∙ c.if-not-is_inside.false) (sym c.has_first.ensures ∙ c.if-has_first.false) c.new_body-new.ensures)
    c.hear_first.ensures.answer

pub returns-else-has_first-clause-heard : goal.returns-else-has_first-clause-heard
returns-else-has_first-clause-heard c =
    subst (λ (n : Noted). OnOk c.hear_first.result (c.hear_first.new.self ≡ n.evidence))
    (first_is c.args.self.now c.args.asked.now c.args.key c.args.content.now c.args.body.now c.group.result c.layout.result c.group.ensures.value c.layout.ensures.value c.new_body-new.result
    (sym c.is_inside.ensures ∙ c.if-not-is_inside.false) (sym c.has_first.ensures ∙ c.if-has_first.false) c.new_body-new.ensures)
    c.hear_first.ensures.heard

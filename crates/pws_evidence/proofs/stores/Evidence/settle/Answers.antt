use Rattle.std.proofs.Common.{◌∙◌, sym, ap, subst}
use Rattle.pws_protocol.specs.Evidence.{Evidence, settled}
use Rattle.pws_evidence.specs.Stores.{IsStore}
use Rattle.pws_evidence.proofs.Stored.{evidence_of, after_settle, settled_is}
use Rattle.pws_evidence.proofs.stores.Evidence.settle.Goals as goal

pub invariant_of-self : goal.invariant_of-self
invariant_of-self c =
    let i = c.self.inside in
    subst (λ (x : Evidence). IsStore x)
    (sym (settled_is i.group i.layout c.args.asked.now i.statements.entries c.keep_statements.new.statements.entries i.bodies.entries c.keep_bodies.new.bodies.entries c.keep_statements.ensures c.keep_bodies.ensures))
    (after_settle (evidence_of i.group i.layout i.statements.entries i.bodies.entries) c.args.asked.now c.self.invariant)

pub returns : goal.returns
returns c =
    let i = c.self.inside in
    settled_is i.group i.layout c.args.asked.now i.statements.entries c.keep_statements.new.statements.entries i.bodies.entries c.keep_bodies.new.bodies.entries c.keep_statements.ensures c.keep_bodies.ensures
    ∙ ap (λ x. settled x c.args.asked.now) c.self.view_is

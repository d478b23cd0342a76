use Rattle.std.proofs.Common.{◌∙◌, sym, ap, subst}
use Rattle.std.specs.FinMap.{from_entries}
use Rattle.pws_protocol.specs.Evidence.{Evidence}
use Rattle.pws_evidence.specs.Stores.{IsStore, without_statement}
use Rattle.pws_evidence.proofs.Compared.{statement_removed}
use Rattle.pws_evidence.proofs.Stored.{evidence_of, after_removal, statement_taken}
use Rattle.pws_evidence.proofs.stores.Evidence.take_back.Goals as goal

pub invariant_of-self : goal.invariant_of-self
invariant_of-self c =
    let e = evidence_of c.self.inside.group c.self.inside.layout c.self.inside.statements.entries c.self.inside.bodies.entries in
    let taken = statement_taken e (from_entries c.remove-statement.new.self.entries) c.args.key.now
    (statement_removed c.self.inside.statements.entries c.remove-statement.new.self.entries c.args.key.now c.remove-statement.ensures.updates.0) in
    subst (λ (x : Evidence). IsStore x) (sym taken) (after_removal e c.args.key.now c.self.invariant)

pub returns : goal.returns
returns c =
    let e = evidence_of c.self.inside.group c.self.inside.layout c.self.inside.statements.entries c.self.inside.bodies.entries in
    statement_taken e (from_entries c.remove-statement.new.self.entries) c.args.key.now
    (statement_removed c.self.inside.statements.entries c.remove-statement.new.self.entries c.args.key.now c.remove-statement.ensures.updates.0)
    ∙ ap (λ x. without_statement x c.args.key.now) c.self.view_is

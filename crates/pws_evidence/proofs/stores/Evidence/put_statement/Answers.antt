use Rattle.std.proofs.Common.{◌≡◌, ◌∙◌, sym, ap, subst, Some}
use Rattle.std.specs.FinMap.{from_entries}
use Rattle.pws_msg.specs.Contents.{IsContent}
use Rattle.pws_msg.specs.declared.contents.Content.{Content}
use Rattle.pws_protocol.specs.Evidence.{Evidence, with_statement, matter_of}
use Rattle.pws_evidence.specs.Stores.{IsStore}
use Rattle.pws_evidence.proofs.Compared.{statement_inserted}
use Rattle.pws_evidence.proofs.Stored.{evidence_of, after_statement, statement_put}
use Rattle.pws_evidence.proofs.stores.Evidence.put_statement.Goals as goal

pub invariant_of-self-2 : goal.invariant_of-self-2
invariant_of-self-2 c =
    let e = evidence_of c.self.inside.group c.self.inside.layout c.self.inside.statements.entries c.self.inside.bodies.entries in
    let put = statement_put e (from_entries c.insert.new.self.entries) c.args.key c.args.statement
    (statement_inserted c.self.inside.statements.entries c.insert.new.self.entries c.args.key c.args.statement c.in_ok-insert.ensures.updates.0) in
    let matter : matter_of e.group c.args.key.sender c.args.statement ≡ Some c.args.key.matter = ap (λ (x : Evidence). matter_of x.group c.args.key.sender c.args.statement) c.self.view_is ∙ c.requires in
    subst (λ (x : Evidence). IsStore x) (sym put) (after_statement e c.args.key c.args.statement matter (subst (λ (x : Content). IsContent x) c.content.ensures c.is_lawful.ensures) c.self.invariant)

pub returns-clause-ok : goal.returns-clause-ok
returns-clause-ok c =
    let e = evidence_of c.self.inside.group c.self.inside.layout c.self.inside.statements.entries c.self.inside.bodies.entries in
    statement_put e (from_entries c.insert.new.self.entries) c.args.key c.args.statement
    (statement_inserted c.self.inside.statements.entries c.insert.new.self.entries c.args.key c.args.statement c.in_ok-insert.ensures.updates.0)
    ∙ ap (λ x. with_statement x c.args.key c.args.statement) c.self.view_is

use Rattle.std.proofs.Common.{◌∙◌, sym, ap, subst, Some}
use Rattle.std.specs.FinMap.{from_entries}
use Rattle.pws_protocol.specs.Evidence.{Evidence, with_body}
use Rattle.pws_protocol.proofs.Keyed.{keys_are_ordered}
use Rattle.pws_evidence.specs.Stores.{IsStore}
use Rattle.pws_evidence.proofs.Maps.{inserted}
use Rattle.pws_evidence.proofs.Stored.{evidence_of, after_body, body_put}
use Rattle.pws_evidence.proofs.stores.Evidence.put_body.Goals as goal

pub invariant_of-self-2 : goal.invariant_of-self-2
invariant_of-self-2 c =
    let e = evidence_of c.self.inside.group c.self.inside.layout c.self.inside.statements.entries c.self.inside.bodies.entries in
    let put = body_put e (from_entries c.insert.new.self.entries) c.args.key c.in_ok-from_slice.field-0 c.args.body.now
    (inserted keys_are_ordered.bodies keys_are_ordered.bodies_exact c.self.inside.bodies.entries c.insert.new.self.entries c.args.key c.in_ok-from_slice.field-0 c.in_ok-insert.ensures.updates.0) c.in_ok-from_slice.ensures in
    subst (λ (x : Evidence). IsStore x) (sym put) (after_body e c.args.key c.args.body.now c.requires.digest c.requires.short c.self.invariant)

pub returns-clause-ok : goal.returns-clause-ok
returns-clause-ok c =
    let e = evidence_of c.self.inside.group c.self.inside.layout c.self.inside.statements.entries c.self.inside.bodies.entries in
    body_put e (from_entries c.insert.new.self.entries) c.args.key c.in_ok-from_slice.field-0 c.args.body.now
    (inserted keys_are_ordered.bodies keys_are_ordered.bodies_exact c.self.inside.bodies.entries c.insert.new.self.entries c.args.key c.in_ok-from_slice.field-0 c.in_ok-insert.ensures.updates.0) c.in_ok-from_slice.ensures
    ∙ ap (λ x. with_body x (Some c.args.key) c.args.body.now) c.self.view_is

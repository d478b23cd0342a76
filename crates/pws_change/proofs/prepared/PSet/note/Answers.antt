use Rattle.std.proofs.Common.{◌∙◌, ap}
use Rattle.pws_change.specs.Sets.{Prepared, with_prepared}
use Rattle.pws_change.proofs.Placed.{rows_put}
use Rattle.pws_change.proofs.prepared.PSet.note.Goals as goal

pub invariant_of-self-2 : goal.invariant_of-self-2
invariant_of-self-2 c = (rows_put c.self.inside.rows.items c.put_row.new.rows.items c.args.place c.args.digest.now c.args.view c.self.invariant c.in_ok-put_row.ensures.ok).0

pub returns-clause-ok : goal.returns-clause-ok
returns-clause-ok c =
    (rows_put c.self.inside.rows.items c.put_row.new.rows.items c.args.place c.args.digest.now c.args.view c.self.invariant c.in_ok-put_row.ensures.ok).1
    ∙ ap (λ (m : Prepared). with_prepared m c.args.place c.args.digest.now c.args.view) c.self.view_is

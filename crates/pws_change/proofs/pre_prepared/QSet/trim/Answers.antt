use Rattle.std.proofs.Common.{◌∙◌, ap}
use Rattle.pws_change.specs.Rows.{pre_prepared_in}
use Rattle.pws_change.specs.Sets.{trimmed}
use Rattle.pws_change.proofs.Witnessed.{rows_kept}
use Rattle.pws_change.proofs.pre_prepared.QSet.trim.Goals as goal

pub invariant_of-self : goal.invariant_of-self
invariant_of-self c = rw c.keep_above.ensures (rows_kept c.self.inside.rows.items c.args.low c.self.invariant).0

pub returns : goal.returns
returns c = ap pre_prepared_in c.keep_above.ensures ∙ ((rows_kept c.self.inside.rows.items c.args.low c.self.invariant).1 ∙ ap (trimmed c.args.low) c.self.view_is)

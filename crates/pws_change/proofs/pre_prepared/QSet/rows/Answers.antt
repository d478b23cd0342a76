use Rattle.std.proofs.Common.{◌∙◌, ap}
use Rattle.pws_change.specs.Sets.{q_rows}
use Rattle.pws_change.proofs.Witnessed.{rows_back}
use Rattle.pws_change.proofs.pre_prepared.QSet.rows.Goals as goal

pub returns-clause-value : goal.returns-clause-value
returns-clause-value c = c.as_slice.ensures.value ∙ (rows_back c.self.inside.rows.items c.self.invariant ∙ ap q_rows c.self.view_is)

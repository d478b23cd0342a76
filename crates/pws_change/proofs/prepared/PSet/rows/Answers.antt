use Rattle.std.proofs.Common.{◌∙◌, ap}
use Rattle.pws_change.specs.Sets.{p_rows}
use Rattle.pws_change.proofs.Placed.{rows_back}
use Rattle.pws_change.proofs.prepared.PSet.rows.Goals as goal

pub returns-clause-value : goal.returns-clause-value
returns-clause-value c = c.as_slice.ensures.value ∙ (rows_back c.self.inside.rows.items c.self.invariant ∙ ap p_rows c.self.view_is)

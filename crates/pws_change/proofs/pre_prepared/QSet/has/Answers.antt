use Rattle.std.proofs.Common.{◌∙◌}
use Rattle.pws_change.proofs.Readers.{has_at_in}
use Rattle.pws_change.proofs.pre_prepared.QSet.has.Goals as goal

pub returns : goal.returns
returns c = c.has_at.ensures ∙ has_at_in c.self.inside.rows.items c.deref.result.now c.args.self.now c.args.place c.args.digest.now c.self.invariant c.deref.ensures.value c.self.view_is

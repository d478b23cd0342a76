use Rattle.pws_change.proofs.Agreeing.{same_as_agrees}
use Rattle.pws_change.proofs.agreements.agrees.Goals as goal

pub returns-clause-value : goal.returns-clause-value
returns-clause-value c = same_as_agrees c.args.shape c.args.new.now c.args.changes.now _ c.meets_all.ensures

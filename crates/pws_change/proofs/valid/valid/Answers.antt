use Rattle.pws_change.proofs.Agreeing.{same_as_valid}
use Rattle.pws_change.proofs.valid.valid.Goals as goal

pub returns-clause-value : goal.returns-clause-value
returns-clause-value c = same_as_valid c.args.change.now _ c.meets_all.ensures

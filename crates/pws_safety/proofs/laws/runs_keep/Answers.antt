use Rattle.pws_safety.proofs.Group.{runs_keep}
use Rattle.pws_safety.proofs.laws.runs_keep.Goals as goal

pub returns : goal.returns
returns c = runs_keep

use Rattle.pws_safety.proofs.Agreed.{runs_agree}
use Rattle.pws_safety.proofs.laws.runs_agree.Goals as goal

pub returns : goal.returns
returns c = runs_agree

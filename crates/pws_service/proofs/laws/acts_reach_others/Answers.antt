use Rattle.pws_service.proofs.Others.{acts_reach}
use Rattle.pws_service.proofs.laws.acts_reach_others.Goals as goal

pub returns : goal.returns
returns c = acts_reach

use Rattle.pws_safety.proofs.Group.{committed_is_settled}
use Rattle.pws_safety.proofs.laws.committed_is_settled.Goals as goal

pub returns : goal.returns
returns c = committed_is_settled

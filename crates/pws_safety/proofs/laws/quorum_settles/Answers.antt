use Rattle.pws_safety.proofs.Views.{quorum_settles}
use Rattle.pws_safety.proofs.laws.quorum_settles.Goals as goal

pub returns : goal.returns
returns c = quorum_settles

use Rattle.pws_event.proofs.Follow.{effects_follow as law}
use Rattle.pws_event.proofs.laws.effects_follow.Goals as goal

pub returns : goal.returns
returns c = law

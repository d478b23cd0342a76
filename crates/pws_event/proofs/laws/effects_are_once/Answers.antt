use Rattle.pws_event.proofs.Once.{effects_are_once as law}
use Rattle.pws_event.proofs.laws.effects_are_once.Goals as goal

pub returns : goal.returns
returns c = law

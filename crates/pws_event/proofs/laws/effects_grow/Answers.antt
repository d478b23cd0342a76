use Rattle.pws_event.proofs.Grown.{effects_grow as law}
use Rattle.pws_event.proofs.laws.effects_grow.Goals as goal

pub returns : goal.returns
returns c = law

use Rattle.pws_event.proofs.Determined.{determined as law}
use Rattle.pws_event.proofs.laws.counters_are_determined.Goals as goal

pub returns : goal.returns
returns c = law

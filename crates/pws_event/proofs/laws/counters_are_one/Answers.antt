use Rattle.pws_event.proofs.Determined.{one_each as law}
use Rattle.pws_event.proofs.laws.counters_are_one.Goals as goal

pub returns : goal.returns
returns c = law

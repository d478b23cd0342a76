use Rattle.pws_event.proofs.Follow.{events_are_last as law}
use Rattle.pws_event.proofs.laws.events_are_last.Goals as goal

pub returns : goal.returns
returns c = law

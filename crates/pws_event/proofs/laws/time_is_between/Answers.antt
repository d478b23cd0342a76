use Rattle.pws_event.proofs.Between.{time_is_between as law}
use Rattle.pws_event.proofs.laws.time_is_between.Goals as goal

pub returns : goal.returns
returns c = law

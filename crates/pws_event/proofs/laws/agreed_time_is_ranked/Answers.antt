use Rattle.pws_event.proofs.Ranked.{agreed_time_is_ranked as law}
use Rattle.pws_event.proofs.laws.agreed_time_is_ranked.Goals as goal

pub returns : goal.returns
returns c = law

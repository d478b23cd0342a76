use Rattle.pws_safety.proofs.Agreed.{settled_is_backed, settled_as_more_is_sent}
use Rattle.pws_safety.proofs.laws.settled_is_backed.Goals as goal

pub returns : goal.returns
returns c = record { backed = settled_is_backed; later = settled_as_more_is_sent }

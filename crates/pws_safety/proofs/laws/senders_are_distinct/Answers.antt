use Rattle.pws_safety.proofs.Senders.{senders_are_distinct}
use Rattle.pws_safety.proofs.laws.senders_are_distinct.Goals as goal

pub returns : goal.returns
returns c = senders_are_distinct

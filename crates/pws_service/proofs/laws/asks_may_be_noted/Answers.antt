use Rattle.pws_service.proofs.Asks.{may_ask}
use Rattle.pws_service.proofs.laws.asks_may_be_noted.Goals as goal

pub returns : goal.returns
returns c = may_ask

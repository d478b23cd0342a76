use Rattle.pws_service.proofs.Calls.{may_call}
use Rattle.pws_service.proofs.laws.calls_may_be_noted.Goals as goal

pub returns : goal.returns
returns c = may_call

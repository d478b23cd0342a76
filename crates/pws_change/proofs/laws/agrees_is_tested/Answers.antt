use Rattle.pws_change.proofs.Agreeing as laws
use Rattle.pws_change.proofs.laws.agrees_is_tested.Goals as goal

pub returns : goal.returns
returns c = laws.agrees_is_tested

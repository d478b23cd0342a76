use Rattle.pws_change.proofs.Deciding as laws
use Rattle.pws_change.proofs.laws.decision_is_choice.Goals as goal

pub returns : goal.returns
returns c = laws.decision_is_choice

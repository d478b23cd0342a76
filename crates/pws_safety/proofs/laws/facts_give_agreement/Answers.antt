use Rattle.pws_safety.proofs.Agreed.{facts_give_agreement}
use Rattle.pws_safety.proofs.laws.facts_give_agreement.Goals as goal

pub returns : goal.returns
returns c = facts_give_agreement

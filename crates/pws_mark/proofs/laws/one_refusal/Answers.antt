use Rattle.pws_mark.proofs.OneRefusal.{one_refusal}
use Rattle.pws_mark.proofs.laws.one_refusal.Goals as goal

pub returns : goal.returns
returns c = one_refusal

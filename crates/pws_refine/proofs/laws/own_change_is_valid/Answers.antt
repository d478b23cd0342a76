use Rattle.pws_refine.proofs.Reported as proof
use Rattle.pws_refine.proofs.laws.own_change_is_valid.Goals as goal

pub returns : goal.returns
returns c = proof.own_change_is_valid

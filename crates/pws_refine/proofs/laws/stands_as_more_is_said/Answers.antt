use Rattle.pws_refine.proofs.Grown as proof
use Rattle.pws_refine.proofs.laws.stands_as_more_is_said.Goals as goal

pub returns : goal.returns
returns c = proof.stands_as_more_is_said

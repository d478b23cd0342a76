use Rattle.pws_refine.proofs.Steps as proof
use Rattle.pws_refine.proofs.laws.actions_refine.Goals as goal

pub returns : goal.returns
returns c = proof.actions_refine

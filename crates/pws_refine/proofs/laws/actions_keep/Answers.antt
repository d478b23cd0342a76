use Rattle.pws_refine.proofs.Readied as proof
use Rattle.pws_refine.proofs.laws.actions_keep.Goals as goal

pub returns : goal.returns
returns c = proof.actions_keep

use Rattle.pws_refine.proofs.Grouped as proof
use Rattle.pws_refine.proofs.laws.actions_keep_group.Goals as goal

pub returns : goal.returns
returns c = proof.actions_keep_group

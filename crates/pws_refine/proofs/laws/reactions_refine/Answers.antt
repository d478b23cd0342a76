use Rattle.pws_refine.proofs.Reacted as proof
use Rattle.pws_refine.proofs.laws.reactions_refine.Goals as goal

pub returns : goal.returns
returns c = proof.reactions_refine

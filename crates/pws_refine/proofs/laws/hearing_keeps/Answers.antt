use Rattle.pws_refine.proofs.Heard as proof
use Rattle.pws_refine.proofs.laws.hearing_keeps.Goals as goal

pub returns : goal.returns
returns c = proof.hearing_keeps

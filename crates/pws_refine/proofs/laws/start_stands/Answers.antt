use Rattle.pws_refine.proofs.Started as proof
use Rattle.pws_refine.proofs.laws.start_stands.Goals as goal

pub returns : goal.returns
returns c = proof.start_stands

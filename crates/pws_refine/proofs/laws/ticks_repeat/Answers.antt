use Rattle.pws_refine.proofs.Repeated as proof
use Rattle.pws_refine.proofs.laws.ticks_repeat.Goals as goal

pub returns : goal.returns
returns c = proof.ticks_repeat

use Rattle.pws_refine.proofs.Started as proof
use Rattle.pws_refine.proofs.laws.fits_is_ready.Goals as goal

pub returns : goal.returns
returns c = proof.fits_is_ready

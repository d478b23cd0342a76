use Rattle.pws_protocol.proofs.Starting as lemma
use Rattle.pws_protocol.proofs.laws.start_fits.Goals as goal

pub returns : goal.returns
returns c = lemma.start_fits

use Rattle.pws_protocol.proofs.Noting as lemma
use Rattle.pws_protocol.proofs.laws.evidence_fits.Goals as goal

pub returns : goal.returns
returns c = lemma.evidence_fits

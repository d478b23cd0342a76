use Rattle.pws_protocol.proofs.Staying as lemma
use Rattle.pws_protocol.proofs.laws.evidence_stays_fit.Goals as goal

pub returns : goal.returns
returns c = lemma.evidence_stays_fit

use Rattle.pws_evidence.proofs.Bounded as lemma
use Rattle.pws_evidence.proofs.laws.evidence_is_bounded.Goals as goal

pub returns : goal.returns
returns c = lemma.evidence_is_bounded

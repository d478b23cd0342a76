use Rattle.pws_evidence.proofs.Due as lemma
use Rattle.pws_evidence.proofs.laws.candidates_are_due.Goals as goal

pub returns : goal.returns
returns c = lemma.candidates_are_due

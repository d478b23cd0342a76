use Rattle.pws_evidence.proofs.Settling as lemma
use Rattle.pws_evidence.proofs.laws.evidence_stays_settled.Goals as goal

pub returns-clause-start : goal.returns-clause-start
returns-clause-start c = lemma.start_is_settled

pub returns-clause-settled : goal.returns-clause-settled
returns-clause-settled c = lemma.settling_settles

pub returns-clause-heard : goal.returns-clause-heard
returns-clause-heard c = lemma.hearing_keeps_settled

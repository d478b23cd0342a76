use Rattle.pws_holding.proofs.Holding as lemma
use Rattle.pws_holding.proofs.laws.voters_hold_little.Goals as goal

pub returns-clause-parts : goal.returns-clause-parts
returns-clause-parts c = lemma.parts_are_small

pub returns-clause-whole : goal.returns-clause-whole
returns-clause-whole c = lemma.voters_hold_little

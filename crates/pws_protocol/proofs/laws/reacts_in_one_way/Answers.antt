use Rattle.pws_protocol.proofs.Reacting as lemma
use Rattle.pws_protocol.proofs.laws.reacts_in_one_way.Goals as goal

pub returns-clause-one : goal.returns-clause-one
returns-clause-one c = lemma.reacts_in_one_way

pub returns-clause-met : goal.returns-clause-met
returns-clause-met c = lemma.react_is_met

use Rattle.pws_voter_laws.proofs.Ending as lemma
use Rattle.pws_voter_laws.proofs.laws.reactions_rest.Goals as goal

pub returns-clause-less : goal.returns-clause-less
returns-clause-less c = lemma.actions_leave_less

pub returns-clause-few : goal.returns-clause-few
returns-clause-few c = lemma.actions_are_few

pub returns-clause-met : goal.returns-clause-met
returns-clause-met c = lemma.reactions_rest

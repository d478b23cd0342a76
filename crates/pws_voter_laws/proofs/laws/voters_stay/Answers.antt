use Rattle.pws_voter_laws.proofs.Staying as lemma
use Rattle.pws_voter_laws.proofs.laws.voters_stay.Goals as goal

pub returns-clause-action : goal.returns-clause-action
returns-clause-action c = lemma.actions_leave_the_voter

pub returns-clause-reaction : goal.returns-clause-reaction
returns-clause-reaction c = lemma.reactions_leave_the_voter

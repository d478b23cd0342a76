use Rattle.pws_voter_laws.proofs.Keeping as lemma
use Rattle.pws_voter_laws.proofs.laws.voters_fit.Goals as goal

pub returns-clause-settled : goal.returns-clause-settled
returns-clause-settled c = lemma.settling_keeps_fits

pub returns-clause-given : goal.returns-clause-given
returns-clause-given c = lemma.settling_keeps_inputs

pub returns-clause-action : goal.returns-clause-action
returns-clause-action c = lemma.actions_keep_fits

pub returns-clause-turn : goal.returns-clause-turn
returns-clause-turn c = lemma.turns_keep_fits

pub returns-clause-input : goal.returns-clause-input
returns-clause-input c = lemma.inputs_keep_fits

pub returns-clause-reaction : goal.returns-clause-reaction
returns-clause-reaction c = lemma.reactions_keep_fits

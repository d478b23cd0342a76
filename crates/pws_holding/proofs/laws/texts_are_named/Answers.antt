use Rattle.pws_holding.proofs.Keeping as lemma
use Rattle.pws_holding.proofs.laws.texts_are_named.Goals as goal

pub returns-clause-start : goal.returns-clause-start
returns-clause-start c = lemma.start_is_tidy

pub returns-clause-turn : goal.returns-clause-turn
returns-clause-turn c = lemma.turns_are_tidy

pub returns-clause-input : goal.returns-clause-input
returns-clause-input c = lemma.inputs_keep_tidy

pub returns-clause-reaction : goal.returns-clause-reaction
returns-clause-reaction c = lemma.reactions_keep_tidy

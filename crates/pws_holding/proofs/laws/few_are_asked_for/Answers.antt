use Rattle.pws_holding.proofs.Asking as lemma
use Rattle.pws_holding.proofs.laws.few_are_asked_for.Goals as goal

pub returns-clause-start : goal.returns-clause-start
returns-clause-start c = lemma.start_asks_for_few

pub returns-clause-turn : goal.returns-clause-turn
returns-clause-turn c = lemma.turns_ask_for_few

pub returns-clause-input : goal.returns-clause-input
returns-clause-input c = lemma.inputs_ask_for_few

pub returns-clause-reaction : goal.returns-clause-reaction
returns-clause-reaction c = lemma.reactions_ask_for_few

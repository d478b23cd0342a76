use Rattle.pws_protocol.proofs.Supporting as lemma
use Rattle.pws_protocol.proofs.laws.support_is_honest.Goals as goal

pub returns : goal.returns
returns c = lemma.support_is_honest

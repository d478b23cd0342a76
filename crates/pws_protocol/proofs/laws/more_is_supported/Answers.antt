use Rattle.pws_protocol.proofs.Supporting as lemma
use Rattle.pws_protocol.proofs.laws.more_is_supported.Goals as goal

pub returns : goal.returns
returns c = lemma.more_is_supported

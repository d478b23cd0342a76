use Rattle.pws_protocol.proofs.Proposing as lemma
use Rattle.pws_protocol.proofs.laws.candidates_are_supported.Goals as goal

pub returns : goal.returns
returns c = lemma.candidates_are_supported

use Rattle.pws_protocol.proofs.Keyed as lemma
use Rattle.pws_protocol.proofs.laws.keys_are_ordered.Goals as goal

pub returns : goal.returns
returns c = lemma.keys_are_ordered

use Rattle.pws_protocol.proofs.Staying as lemma
use Rattle.pws_protocol.proofs.laws.executes_in_order.Goals as goal

pub returns : goal.returns
returns c = lemma.executes_in_order

use Rattle.pws_soap.proofs.Roots.{read_back}
use Rattle.pws_soap.proofs.laws.envelopes_read_back.Goals as goal

pub returns : goal.returns
returns c = read_back

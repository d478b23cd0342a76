use Rattle.pws_soap.proofs.Roots.{root_read}
use Rattle.pws_soap.proofs.laws.roots_are_read.Goals as goal

pub returns : goal.returns
returns c = root_read

use Rattle.pws_soap.proofs.Roots.{roots_apart}
use Rattle.pws_soap.proofs.laws.roots_tell_apart.Goals as goal

pub returns : goal.returns
returns c = roots_apart

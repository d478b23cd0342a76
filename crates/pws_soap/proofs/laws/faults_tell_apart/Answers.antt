use Rattle.pws_soap.proofs.FaultsApart.{faults_apart}
use Rattle.pws_soap.proofs.laws.faults_tell_apart.Goals as goal

pub returns : goal.returns
returns c = faults_apart

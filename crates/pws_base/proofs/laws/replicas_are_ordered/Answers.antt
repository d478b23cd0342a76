use Rattle.pws_base.proofs.ReplicaOrder.{replicas_total, replicas_exact}
use Rattle.pws_base.proofs.laws.replicas_are_ordered.Goals as goal

pub returns : goal.returns
returns c = record { total = replicas_total; exact = replicas_exact }

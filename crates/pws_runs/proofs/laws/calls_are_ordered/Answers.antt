use Rattle.pws_runs.proofs.CallOrder.{calls_total, calls_exact}
use Rattle.pws_runs.proofs.laws.calls_are_ordered.Goals as goal

pub returns : goal.returns
returns g = record { total = calls_total; exact = calls_exact }

use Rattle.pws_sim.proofs.Done.{is_report}
use Rattle.pws_sim.proofs.top.replayed.Goals as goal

pub returns-clause-taken : goal.returns-clause-taken
returns-clause-taken c = is_report c.report_of.result c.loop-request.replica.places c.events.result.now c.report_of.ensures c.events.ensures.value c.events.ensures.taken

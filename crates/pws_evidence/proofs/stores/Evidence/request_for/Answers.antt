use Rattle.pws_protocol.specs.Candidates.{is_due, kept_request}
use Rattle.pws_evidence.proofs.ProposingAnswers.{best_more}
use Rattle.pws_evidence.proofs.stores.Evidence.request_for.Goals as goal

pub loop-index-preserved : goal.loop-index-preserved
loop-index-preserved c =
    best_more (is_due c.args.self.now c.args.asked.now) (kept_request c.args.self.now c.args.caller _) c.loop-index.index c.loop-index.best _ c.loop-index.invariant c.in_ok-best.ensures

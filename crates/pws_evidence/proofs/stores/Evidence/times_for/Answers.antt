use Rattle.std.specs.Option.{option_and_then}
use Rattle.pws_protocol.specs.Candidates.{time_in, kept_value}
use Rattle.pws_evidence.proofs.ProposingAnswers.{push_more}
use Rattle.pws_evidence.proofs.stores.Evidence.times_for.Goals as goal

pub loop-index-preserved : goal.loop-index-preserved
loop-index-preserved c =
    push_more (λ i. option_and_then (time_in i) (kept_value c.args.self.now c.args.ask i)) c.loop-index.index c.loop-index.times.items c.push_some.new.items.items c.time_of.result
    c.loop-index.invariant c.time_of.ensures c.in_ok-push_some.ensures

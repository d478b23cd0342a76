use Rattle.std.specs.Option.{option_and_then}
use Rattle.pws_protocol.specs.Candidates.{share_in, kept_value}
use Rattle.pws_evidence.proofs.ProposingAnswers.{push_more}
use Rattle.pws_evidence.proofs.stores.Evidence.shares_for.Goals as goal

pub loop-index-preserved : goal.loop-index-preserved
loop-index-preserved c =
    push_more (λ i. option_and_then (share_in i) (kept_value c.args.self.now c.args.ask i)) c.loop-index.index c.loop-index.shares.items c.push_some.new.items.items c.share_of.result
    c.loop-index.invariant c.share_of.ensures c.in_ok-push_some.ensures

use Rattle.std.proofs.Common.{◌≡◌, ◌≤◌}
use Rattle.pws_base.specs.Counts.{count_below}
use Rattle.pws_protocol.specs.Keys.{replica}
use Rattle.pws_protocol.specs.Evidence.{is_kept}
use Rattle.pws_evidence.specs.Counted.{reply_content}
use Rattle.pws_evidence.proofs.stores.Evidence.count_replies.Given as goal

abbrev pub invariant-loop-index : goal.invariant-loop-index
invariant-loop-index l =
    record {
      counted : l.count ≡ count_below l.index (λ i. is_kept l.self (replica l.called i) (reply_content l.self.group l.number l.digest));
      few : l.count ≤ l.index;
    }

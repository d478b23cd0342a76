use Rattle.std.proofs.Common.{◌≡◌, ◌≤◌}
use Rattle.pws_base.specs.Counts.{count_below}
use Rattle.pws_protocol.specs.Keys.{replica}
use Rattle.pws_protocol.specs.Evidence.{is_kept}
use Rattle.pws_evidence.specs.Counted.{request_content}
use Rattle.pws_evidence.proofs.stores.Evidence.count_requests.Given as goal

abbrev pub invariant-loop-index : goal.invariant-loop-index
invariant-loop-index l =
    record {
      counted : l.count ≡ count_below l.index (λ i. is_kept l.self (replica l.caller i) (request_content l.number l.low l.body));
      few : l.count ≤ l.index;
    }

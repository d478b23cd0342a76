use Rattle.std.proofs.Common.{◌≡◌, ◌++◌, filter}
use Rattle.std.specs.List.{filter_map, range_with_len}
use Rattle.pws_base.specs.Replicas.{is_other}
use Rattle.pws_protocol.specs.Candidates.{request_for}
use Rattle.pws_evidence.proofs.stores.Evidence.put_requests.Given as goal

abbrev pub invariant-loop-caller : goal.invariant-loop-caller
invariant-loop-caller l = l.events.items ≡ l.initial.events.items ++ filter_map (request_for l.self l.asked) (filter (is_other l.self.group l.layout) (range_with_len 0 l.caller))

use Rattle.std.proofs.Common.{◌≡◌, filter}
use Rattle.std.specs.List.{filter_map, range_with_len}
use Rattle.pws_protocol.specs.Candidates.{least_event, is_due, kept_request}
use Rattle.pws_evidence.proofs.stores.Evidence.request_for.Given as goal

abbrev pub invariant-loop-index : goal.invariant-loop-index
invariant-loop-index l = l.best ≡ least_event (filter (is_due l.self l.asked) (filter_map (kept_request l.self l.caller l.number) (range_with_len 0 l.index)))

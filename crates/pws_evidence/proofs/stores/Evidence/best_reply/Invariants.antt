use Rattle.std.proofs.Common.{◌≡◌, filter}
use Rattle.std.specs.List.{filter_map, range_with_len}
use Rattle.std.specs.Option.{option_and_then}
use Rattle.pws_protocol.specs.Support.{supports}
use Rattle.pws_protocol.specs.Candidates.{least_event, kept_reply}
use Rattle.pws_evidence.specs.Proposed.{reply_under}
use Rattle.pws_evidence.proofs.stores.Evidence.best_reply.Given as goal

abbrev pub invariant-loop-index : goal.invariant-loop-index
invariant-loop-index l = option_and_then (reply_under l.self l.called l.number) l.best ≡ least_event (filter (supports l.self) (filter_map (kept_reply l.self l.called l.number) (range_with_len 0 l.index)))

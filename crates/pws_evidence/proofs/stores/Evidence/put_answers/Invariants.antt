use Rattle.std.proofs.Common.{◌≡◌, ◌-◌, ◌++◌}
use Rattle.std.specs.List.{filter_map, range_with_len}
use Rattle.pws_protocol.specs.Candidates.{answer_for}
use Rattle.pws_evidence.proofs.stores.Evidence.put_answers.Given as goal

abbrev pub invariant-loop-number : goal.invariant-loop-number
invariant-loop-number l = l.events.items ≡ l.initial.events.items ++ filter_map (answer_for l.self l.asked l.called) (range_with_len l.least (l.number - l.least))

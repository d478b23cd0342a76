use Rattle.std.proofs.Common.{◌≡◌, ◌++◌, filter}
use Rattle.std.specs.List.{flat_map, range_with_len}
use Rattle.pws_base.specs.Replicas.{is_other}
use Rattle.pws_protocol.specs.Candidates.{answers_from}
use Rattle.pws_evidence.proofs.stores.Evidence.put_all_answers.Given as goal

abbrev pub invariant-loop-called : goal.invariant-loop-called
invariant-loop-called l = l.events.items ≡ l.initial.events.items ++ flat_map (answers_from l.self l.asked) (filter (is_other l.self.group l.layout) (range_with_len 0 l.called))

use Rattle.std.proofs.Common.{◌≡◌}
use Rattle.std.specs.List.{filter_map, range_with_len}
use Rattle.std.specs.Option.{option_and_then}
use Rattle.pws_protocol.specs.Candidates.{share_in, kept_value}
use Rattle.pws_evidence.proofs.stores.Evidence.shares_for.Given as goal

abbrev pub invariant-loop-index : goal.invariant-loop-index
invariant-loop-index l = l.shares.items ≡ filter_map (λ i. option_and_then (share_in i) (kept_value l.self l.ask i)) (range_with_len 0 l.index)

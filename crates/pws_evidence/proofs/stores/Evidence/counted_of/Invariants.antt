use Rattle.std.proofs.Common.{◌≡◌}
use Rattle.pws_protocol.specs.Support.{support_of}
use Rattle.pws_evidence.specs.Counted.{counted_among}
use Rattle.pws_evidence.proofs.stores.Evidence.counted_of.Given as goal

abbrev pub invariant-loop-index : goal.invariant-loop-index
invariant-loop-index l = l.counted.items ≡ counted_among l.self (support_of l.self.group l.event) l.index

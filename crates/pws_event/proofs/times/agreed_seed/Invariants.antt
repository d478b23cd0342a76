use Rattle.std.proofs.Common.{take}
use Rattle.std.specs.List.{flat_map}
use Rattle.sha2.specs.Hashers.{Holds256}
use Rattle.pws_event.proofs.times.agreed_seed.Given as goal

abbrev pub invariant-loop-share : goal.invariant-loop-share
invariant-loop-share l = Holds256 l.hasher (flat_map (λ s. s.bytes) (take l.share-index l.shares))

use Rattle.std.proofs.Common.{take}
use Rattle.std.specs.List.{flat_map}
use Rattle.pws_change.specs.Best.{rank_of_checkpoint, may_start}
use Rattle.pws_change.specs.Searched.{IsBest, is_same_checkpoint}
use Rattle.pws_change.proofs.search.start_of.Given as goal

abbrev pub invariant-loop-h : goal.invariant-loop-h
invariant-loop-h l =
    IsBest (may_start l.shape l.changes) rank_of_checkpoint is_same_checkpoint (flat_map (λ h. h.change.checkpoints) (take l.h-index l.changes)) l.found

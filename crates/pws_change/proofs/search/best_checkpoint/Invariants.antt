use Rattle.std.proofs.Common.{List, take, ◌++◌}
use Rattle.pws_msg.specs.declared.changes.Checkpoint.{Checkpoint}
use Rattle.pws_change.specs.Best.{rank_of_checkpoint, may_start}
use Rattle.pws_change.specs.Searched.{IsBest, is_same_checkpoint}
use Rattle.pws_change.proofs.search.best_checkpoint.Given as goal

abbrev pub invariant-loop-c : goal.invariant-loop-c
invariant-loop-c l =
    (seen : List Checkpoint)
    → IsBest (may_start l.shape l.changes) rank_of_checkpoint is_same_checkpoint seen l.fn.best
    → IsBest (may_start l.shape l.changes) rank_of_checkpoint is_same_checkpoint (seen ++ take l.c-index l.checkpoints) l.found

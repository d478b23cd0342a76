use Rattle.std.proofs.Common.{take, arith, subst}
use Rattle.pws_msg.specs.declared.changes.Checkpoint.{Checkpoint}
use Rattle.std.proofs.Common.{List, ◌++◌}
use Rattle.pws_change.specs.declared.heard.Heard.{Heard}
use Rattle.pws_change.specs.Best.{rank_of_checkpoint, may_start}
use Rattle.pws_change.specs.Searched.{IsBest, is_same_checkpoint}
use Rattle.pws_change.proofs.Best.{best_flat_more, best_flat_all}
use Rattle.pws_change.proofs.Found.{same_checkpoint, held_checkpoints, found_start}
use Rattle.pws_change.proofs.search.start_of.Goals as goal

pub loop-h-preserved : goal.loop-h-preserved
loop-h-preserved c =
    let ok = may_start c.args.shape c.args.changes.now in
    let seen = held_checkpoints (take c.loop-h.h-index c.args.changes.now) in
    best_flat_more ok rank_of_checkpoint is_same_checkpoint same_checkpoint (λ (h : Heard). h.change.checkpoints) c.args.changes.now c.loop-h.h-index c.h-item.result _ (omega arith) c.h-item.is
    (subst (λ (cs : List Checkpoint). IsBest ok rank_of_checkpoint is_same_checkpoint (seen ++ cs) c.best_checkpoint-found.result) c.checkpoints.ensures (c.best_checkpoint-found.ensures seen c.loop-h.invariant))

pub returns : goal.returns
returns c =
    found_start c.args.shape c.args.changes.now c.loop-h.found
    (best_flat_all (may_start c.args.shape c.args.changes.now) rank_of_checkpoint is_same_checkpoint same_checkpoint (λ (h : Heard). h.change.checkpoints) c.args.changes.now c.loop-h.h-index _ (omega arith) c.loop-h.invariant)

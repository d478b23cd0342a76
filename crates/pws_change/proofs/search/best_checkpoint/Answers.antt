use Rattle.std.proofs.Common.{◌++◌, take, arith}
use Rattle.pws_change.specs.Best.{rank_of_checkpoint, may_start}
use Rattle.pws_change.specs.Searched.{is_same_checkpoint}
use Rattle.pws_change.proofs.Best.{best_more, best_all}
use Rattle.pws_change.proofs.Found.{same_checkpoint}
use Rattle.pws_change.proofs.search.best_checkpoint.Goals as goal

pub loop-c-preserved : goal.loop-c-preserved
loop-c-preserved c seen h =
    let xs = c.args.checkpoints.now in
    best_more (may_start c.args.shape c.args.changes.now) rank_of_checkpoint is_same_checkpoint same_checkpoint seen xs c.loop-c.c-index _ _ (omega arith)
    (c.better_checkpoint-found.ensures (seen ++ take c.loop-c.c-index xs) (c.loop-c.invariant seen h))

pub returns : goal.returns
returns c seen h = best_all (may_start c.args.shape c.args.changes.now) rank_of_checkpoint is_same_checkpoint same_checkpoint seen c.args.checkpoints.now c.loop-c.c-index _ (omega arith) (c.loop-c.invariant seen h)

use Rattle.std.proofs.Common.{sym, ◌∙◌}
use Rattle.pws_change.specs.Best.{rank_of_checkpoint, may_start}
use Rattle.pws_change.specs.Searched.{is_same_checkpoint}
use Rattle.pws_change.proofs.Best.{best_takes, best_keeps}
use Rattle.pws_change.proofs.Found.{same_checkpoint}
use Rattle.pws_change.proofs.search.better_checkpoint.Goals as goal

pub returns-then-takes_checkpoint : goal.returns-then-takes_checkpoint
returns-then-takes_checkpoint c seen h =
    best_takes (may_start c.args.shape c.args.changes.now) rank_of_checkpoint is_same_checkpoint same_checkpoint seen c.args.best c.args.c.now h (sym c.takes_checkpoint.ensures ∙ c.if-takes_checkpoint.true)

pub returns-else-takes_checkpoint : goal.returns-else-takes_checkpoint
returns-else-takes_checkpoint c seen h =
    best_keeps (may_start c.args.shape c.args.changes.now) rank_of_checkpoint is_same_checkpoint same_checkpoint seen c.args.best c.args.c.now h (sym c.takes_checkpoint.ensures ∙ c.if-takes_checkpoint.false)

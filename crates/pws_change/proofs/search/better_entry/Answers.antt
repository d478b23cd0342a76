use Rattle.std.proofs.Common.{sym, ◌∙◌}
use Rattle.pws_change.specs.Best.{rank_of_row, is_candidate}
use Rattle.pws_change.specs.Searched.{is_same_row}
use Rattle.pws_change.proofs.Best.{best_takes, best_keeps}
use Rattle.pws_change.proofs.Found.{same_row}
use Rattle.pws_change.proofs.search.better_entry.Goals as goal

pub returns-then-takes_row : goal.returns-then-takes_row
returns-then-takes_row c seen h =
    best_takes (is_candidate c.args.shape c.args.changes.now c.args.place) rank_of_row is_same_row same_row seen c.args.best c.args.r.now h (sym c.takes_row.ensures ∙ c.if-takes_row.true)

pub returns-else-takes_row : goal.returns-else-takes_row
returns-else-takes_row c seen h =
    best_keeps (is_candidate c.args.shape c.args.changes.now c.args.place) rank_of_row is_same_row same_row seen c.args.best c.args.r.now h (sym c.takes_row.ensures ∙ c.if-takes_row.false)

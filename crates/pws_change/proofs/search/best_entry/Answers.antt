use Rattle.std.proofs.Common.{◌++◌, take, arith}
use Rattle.pws_change.specs.Best.{rank_of_row, is_candidate}
use Rattle.pws_change.specs.Searched.{is_same_row}
use Rattle.pws_change.proofs.Best.{best_more, best_all}
use Rattle.pws_change.proofs.Found.{same_row}
use Rattle.pws_change.proofs.search.best_entry.Goals as goal

pub loop-r-preserved : goal.loop-r-preserved
loop-r-preserved c seen h =
    let xs = c.args.rows.now in
    best_more (is_candidate c.args.shape c.args.changes.now c.args.place) rank_of_row is_same_row same_row seen xs c.loop-r.r-index _ _ (omega arith)
    (c.better_entry-found.ensures (seen ++ take c.loop-r.r-index xs) (c.loop-r.invariant seen h))

pub returns : goal.returns
returns c seen h = best_all (is_candidate c.args.shape c.args.changes.now c.args.place) rank_of_row is_same_row same_row seen c.args.rows.now c.loop-r.r-index _ (omega arith) (c.loop-r.invariant seen h)

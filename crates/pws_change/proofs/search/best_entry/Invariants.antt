use Rattle.std.proofs.Common.{List, take, ◌++◌}
use Rattle.pws_msg.specs.declared.changes.PRow.{PRow}
use Rattle.pws_change.specs.Best.{rank_of_row, is_candidate}
use Rattle.pws_change.specs.Searched.{IsBest, is_same_row}
use Rattle.pws_change.proofs.search.best_entry.Given as goal

abbrev pub invariant-loop-r : goal.invariant-loop-r
invariant-loop-r l =
    (seen : List PRow)
    → IsBest (is_candidate l.shape l.changes l.place) rank_of_row is_same_row seen l.fn.best
    → IsBest (is_candidate l.shape l.changes l.place) rank_of_row is_same_row (seen ++ take l.r-index l.rows) l.found

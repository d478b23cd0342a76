use Rattle.std.proofs.Common.{take}
use Rattle.pws_change.specs.Best.{rank_of_row, is_candidate}
use Rattle.pws_change.specs.Searched.{IsBest, is_same_row}
use Rattle.pws_change.specs.Choices.{prepared_rows}
use Rattle.pws_change.proofs.search.entry_at.Given as goal

abbrev pub invariant-loop-h : goal.invariant-loop-h
invariant-loop-h l = IsBest (is_candidate l.shape l.changes l.place) rank_of_row is_same_row (prepared_rows (take l.h-index l.changes)) l.found

use Rattle.std.proofs.Common.{take, arith, subst, List, ◌++◌}
use Rattle.pws_msg.specs.declared.changes.PRow.{PRow}
use Rattle.pws_change.specs.declared.heard.Heard.{Heard}
use Rattle.pws_change.specs.Best.{rank_of_row, is_candidate}
use Rattle.pws_change.specs.Searched.{IsBest, is_same_row}
use Rattle.pws_change.specs.Choices.{prepared_rows}
use Rattle.pws_change.proofs.Best.{best_flat_more, best_flat_all}
use Rattle.pws_change.proofs.Found.{same_row, found_entry}
use Rattle.pws_change.proofs.search.entry_at.Goals as goal

pub loop-h-preserved : goal.loop-h-preserved
loop-h-preserved c =
    let ok = is_candidate c.args.shape c.args.changes.now c.args.place in
    let seen = prepared_rows (take c.loop-h.h-index c.args.changes.now) in
    best_flat_more ok rank_of_row is_same_row same_row (λ (h : Heard). h.change.prepared) c.args.changes.now c.loop-h.h-index c.h-item.result _ (omega arith) c.h-item.is
    (subst (λ (rows : List PRow). IsBest ok rank_of_row is_same_row (seen ++ rows) c.best_entry-found.result) c.prepared.ensures (c.best_entry-found.ensures seen c.loop-h.invariant))

pub returns : goal.returns
returns c =
    found_entry c.args.shape c.args.changes.now c.args.place c.loop-h.found
    (best_flat_all (is_candidate c.args.shape c.args.changes.now c.args.place) rank_of_row is_same_row same_row (λ (h : Heard). h.change.prepared) c.args.changes.now c.loop-h.h-index _ (omega arith) c.loop-h.invariant)

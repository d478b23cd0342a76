use Rattle.std.proofs.Common.{refl, map, ◌∙◌, ap}
use Rattle.std.specs.Ordering.{nat_cmp}
use Rattle.std.specs.FinMap.{nat_cmp-IsAntisymmetric}
use Rattle.pws_change.specs.Rows.{p_entry}
use Rattle.pws_change.proofs.Sorted.{put_found, put_missing}
use Rattle.pws_change.proofs.prepared.put_row.Goals as goal

pub returns-in-Ok-clause-ok : goal.returns-in-Ok-clause-ok
returns-in-Ok-clause-ok c =
    let row = c.args.row in
    put_found nat_cmp p_entry nat_cmp-IsAntisymmetric row.place (row.digest, row.view) c.args.rows.now.items c.in-Ok.i row refl (rw c.deref.ensures.value at c.in-Ok.ensures.found)

pub returns-in_ok-insert-in-Err-clause-ok : goal.returns-in_ok-insert-in-Err-clause-ok
returns-in_ok-insert-in-Err-clause-ok c =
    let row = c.args.row in
    ap (map p_entry) c.in_ok-insert-in-Err.ensures.items
    ∙ put_missing nat_cmp p_entry row.place (row.digest, row.view) c.args.rows.now.items c.in-Err.i row refl (rw c.deref.ensures.value at c.in-Err.ensures.missing)

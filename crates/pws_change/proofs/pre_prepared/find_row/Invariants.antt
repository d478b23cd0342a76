use Rattle.std.proofs.Common.{◌≡◌, ℕ, ◌<◌}
use Rattle.std.specs.List.{slice_index_or}
use Rattle.std.specs.Ordering.{nat_cmp}
use Rattle.std.specs.declared.cmp.Ordering.TheVariants.{Greater}
use Rattle.pws_msg.specs.declared.changes.QRow.{QRow}
use Rattle.pws_change.proofs.pre_prepared.find_row.Given as goal

abbrev pub invariant-loop-i : goal.invariant-loop-i
invariant-loop-i l = (j : ℕ) (d : QRow) → j < l.i → nat_cmp l.place (slice_index_or l.rows j d).place ≡ Greater

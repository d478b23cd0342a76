use Rattle.std.proofs.Common.{◌≡◌, ◌*◌, ◌≤◌, take, length}
use Rattle.std.specs.List.{sum_by}
use Rattle.pws_msg.specs.declared.changes.QRow.{QRow}
use Rattle.pws_change.proofs.pre_prepared.count_in.Given as goal

abbrev pub invariant-loop-row : goal.invariant-loop-row
invariant-loop-row l = (l.count ≡ sum_by (λ (r : QRow). length r.digests) (take l.row-index l.rows)) × (l.count ≤ 16 * l.row-index)

use Rattle.std.proofs.Common.{◌≡◌, ◌≤◌, ◌*◌, length, take}
use Rattle.std.specs.List.{flat_map}
use Rattle.pws_msg.specs.Rows.{q_row_text}
use Rattle.pws_msg.proofs.content_lengths.q_rows_length.Given as goal

abbrev pub invariant-loop-row : goal.invariant-loop-row
invariant-loop-row l = (l.sum ≡ length (flat_map q_row_text (take l.row-index l.rows))) × (l.sum ≤ 581 * l.row-index)

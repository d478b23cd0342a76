use Rattle.std.proofs.Common.{arith}
use Rattle.pws_msg.proofs.Sizes.{q_rows_step}
use Rattle.pws_msg.proofs.content_lengths.q_rows_length.Goals as goal

pub loop-row-preserved : goal.loop-row-preserved
loop-row-preserved c = rw c.len.ensures (q_rows_step c.args.rows.now c.loop-row.row-index c.loop-row.sum c.row-item.result c.requires.lawful (omega arith) c.row-item.is c.loop-row.invariant.0 c.loop-row.invariant.1)

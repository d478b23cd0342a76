use Rattle.std.proofs.Common.{take}
use Rattle.pws_auth.proofs.Rows.{HasRows}
use Rattle.pws_auth.proofs.tables.KeyTable.from_rows.Given as goal

abbrev pub invariant-loop-row : goal.invariant-loop-row
invariant-loop-row l = HasRows l.table l.layout l.me (take l.row-index l.rows)

use Rattle.std.proofs.Common.{◌≡◌, ◌-◌, ◌≤◌, length, All}
use Rattle.pws_msg.specs.RowFields.{rows_at}
use Rattle.pws_msg.proofs.RowsRead.{prepended}
use Rattle.pws_msg.proofs.rows.take_rows.Given as goal

abbrev pub invariant-loop : goal.invariant-loop
invariant-loop g l =
    record {
      read : rows_at g.T.Row.row_at l.count l.initial.fields ≡ prepended l.rows (rows_at g.T.Row.row_at (l.count - l.counter) l.fields);
      lawful : All g.T.Row.is_lawful l.rows;
      count : length l.rows ≡ l.counter;
    }

use Rattle.pws_change.proofs.RowLemmas.{prepared_rows, pre_prepared_rows, seen_rows, rows_are_rising}
use Rattle.pws_change.proofs.laws.rows_are_sets.Goals as goal

pub returns : goal.returns
returns c = record { prepared = prepared_rows; pre_prepared = pre_prepared_rows; digests = seen_rows; rise = rows_are_rising }

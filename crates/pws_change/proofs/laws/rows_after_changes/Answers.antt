use Rattle.pws_change.proofs.RowLemmas.{noted_prepared, noted_pre_prepared, trimmed_rows}
use Rattle.pws_change.proofs.laws.rows_after_changes.Goals as goal

pub returns : goal.returns
returns c = record { prepared = noted_prepared; pre_prepared = noted_pre_prepared; trimmed = trimmed_rows }

use Rattle.pws_change.proofs.Covered.{covered_is_kept, hardly_lacked_is_kept}
use Rattle.pws_change.proofs.laws.what_is_covered_is_kept.Goals as goal

pub returns-clause-covered : goal.returns-clause-covered
returns-clause-covered c = covered_is_kept

pub returns-clause-hardly_lacked : goal.returns-clause-hardly_lacked
returns-clause-hardly_lacked c = hardly_lacked_is_kept

use Rattle.pws_mark.proofs.CanonicalStands.{may_be_read}
use Rattle.pws_mark.proofs.laws.canonical_may_be_read.Goals as goal

pub returns : goal.returns
returns c = may_be_read

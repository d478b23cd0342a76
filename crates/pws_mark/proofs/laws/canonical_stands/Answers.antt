use Rattle.pws_mark.proofs.CanonicalStands.{stands}
use Rattle.pws_mark.proofs.laws.canonical_stands.Goals as goal

pub returns : goal.returns
returns c = stands

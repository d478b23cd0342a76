use Rattle.pws_mark.proofs.CanonicalApart.{apart}
use Rattle.pws_mark.proofs.laws.canonical_tells_apart.Goals as goal

pub returns : goal.returns
returns c = apart

use Rattle.pws_event.proofs.ReadBack.{texts_differ as law}
use Rattle.pws_event.proofs.laws.texts_differ.Goals as goal

pub returns : goal.returns
returns c = law

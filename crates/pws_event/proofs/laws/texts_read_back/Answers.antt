use Rattle.pws_event.proofs.ReadBack.{texts_read_back as law}
use Rattle.pws_event.proofs.laws.texts_read_back.Goals as goal

pub returns : goal.returns
returns c = law

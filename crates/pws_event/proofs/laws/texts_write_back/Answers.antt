use Rattle.pws_event.proofs.WriteBack.{texts_write_back as law}
use Rattle.pws_event.proofs.laws.texts_write_back.Goals as goal

pub returns : goal.returns
returns c = law

use Rattle.pws_mark.proofs.SharedBytes.{shared_tells}
use Rattle.pws_mark.proofs.reader_laws.shared_tells.Goals as goal

pub returns : goal.returns
returns c = shared_tells

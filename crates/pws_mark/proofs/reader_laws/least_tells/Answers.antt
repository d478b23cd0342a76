use Rattle.pws_mark.proofs.OutcomeLeast.{least_tells}
use Rattle.pws_mark.proofs.reader_laws.least_tells.Goals as goal

pub returns : goal.returns
returns c = least_tells

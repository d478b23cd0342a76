use Rattle.pws_mark.proofs.BeyondChars.{beyond_tells}
use Rattle.pws_mark.proofs.reader_laws.beyond_tells.Goals as goal

pub returns : goal.returns
returns c = beyond_tells

use Rattle.pws_addr.proofs.Exchanged.{answers_are_read}
use Rattle.pws_addr.proofs.laws.answers_are_read.Goals as goal

pub returns : goal.returns
returns c = answers_are_read

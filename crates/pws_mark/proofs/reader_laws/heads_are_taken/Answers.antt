use Rattle.pws_mark.proofs.TakesHeads.{heads_are_taken}
use Rattle.pws_mark.proofs.reader_laws.heads_are_taken.Goals as goal

pub returns : goal.returns
returns c = heads_are_taken

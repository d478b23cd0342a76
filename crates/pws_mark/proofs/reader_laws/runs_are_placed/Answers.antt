use Rattle.pws_mark.proofs.Placed as placed
use Rattle.pws_mark.proofs.reader_laws.runs_are_placed.Goals as goal

pub returns : goal.returns
returns c = placed.runs_are_placed

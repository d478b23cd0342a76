use Rattle.pws_mark.proofs.TakesEnds.{ends_are_taken}
use Rattle.pws_mark.proofs.reader_laws.ends_are_taken.Goals as goal

pub returns : goal.returns
returns c = ends_are_taken

use Rattle.pws_mark.proofs.TakesSections.{sections_are_taken}
use Rattle.pws_mark.proofs.reader_laws.sections_are_taken.Goals as goal

pub returns : goal.returns
returns c = sections_are_taken

use Rattle.pws_mark.proofs.TakesTags.{starts_are_taken}
use Rattle.pws_mark.proofs.reader_laws.starts_are_taken.Goals as goal

pub returns : goal.returns
returns c = starts_are_taken

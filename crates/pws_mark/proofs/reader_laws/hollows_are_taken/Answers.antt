use Rattle.pws_mark.proofs.TakesTags.{hollows_are_taken}
use Rattle.pws_mark.proofs.reader_laws.hollows_are_taken.Goals as goal

pub returns : goal.returns
returns c = hollows_are_taken

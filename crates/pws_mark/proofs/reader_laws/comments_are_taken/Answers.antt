use Rattle.pws_mark.proofs.TakesComments.{comments_are_taken}
use Rattle.pws_mark.proofs.reader_laws.comments_are_taken.Goals as goal

pub returns : goal.returns
returns c = comments_are_taken

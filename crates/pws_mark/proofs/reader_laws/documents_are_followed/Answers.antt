use Rattle.pws_mark.proofs.Followed.{documents_are_followed}
use Rattle.pws_mark.proofs.reader_laws.documents_are_followed.Goals as goal

pub returns : goal.returns
returns c = documents_are_followed

use Rattle.pws_mark.proofs.ReadBack.{read_back}
use Rattle.pws_mark.proofs.texts_read_back.Goals as goal

pub returns : goal.returns
returns c = read_back

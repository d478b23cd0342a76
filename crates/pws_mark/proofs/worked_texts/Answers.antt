use Rattle.pws_mark.proofs.Worked.{worked}
use Rattle.pws_mark.proofs.worked_texts.Goals as goal

pub returns : goal.returns
returns c = worked

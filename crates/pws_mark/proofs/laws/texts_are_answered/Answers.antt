use Rattle.pws_mark.proofs.Answered.{texts_are_answered}
use Rattle.pws_mark.proofs.laws.texts_are_answered.Goals as goal

pub returns : goal.returns
returns c = texts_are_answered

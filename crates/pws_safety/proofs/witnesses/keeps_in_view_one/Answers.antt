use Rattle.pws_safety.proofs.SecondRun.{keeps_in_view_one}
use Rattle.pws_safety.proofs.witnesses.keeps_in_view_one.Goals as goal

pub returns : goal.returns
returns c = keeps_in_view_one

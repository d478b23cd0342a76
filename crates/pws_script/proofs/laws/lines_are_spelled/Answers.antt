use Rattle.pws_script.proofs.ScriptLaws.{lines_are_spelled}
use Rattle.pws_script.proofs.laws.lines_are_spelled.Goals as goal

pub returns : goal.returns
returns c = lines_are_spelled

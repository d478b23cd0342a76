use Rattle.pws_script.proofs.ScriptLaws.{registers_are_spelled}
use Rattle.pws_script.proofs.laws.registers_are_spelled.Goals as goal

pub returns : goal.returns
returns c = registers_are_spelled

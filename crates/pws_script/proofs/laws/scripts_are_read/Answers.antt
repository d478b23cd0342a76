use Rattle.pws_script.proofs.ScriptLaws.{scripts_are_read}
use Rattle.pws_script.proofs.laws.scripts_are_read.Goals as goal

pub returns : goal.returns
returns c = scripts_are_read

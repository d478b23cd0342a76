use Rattle.pws_script.proofs.ScriptLaws.{reads_what_is_printed}
use Rattle.pws_script.proofs.laws.reads_what_is_printed.Goals as goal

pub returns : goal.returns
returns c = reads_what_is_printed

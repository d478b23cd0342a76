use Rattle.pws_script.proofs.ScriptLaws.{texts_are_quoted}
use Rattle.pws_script.proofs.laws.texts_are_quoted.Goals as goal

pub returns : goal.returns
returns c = texts_are_quoted

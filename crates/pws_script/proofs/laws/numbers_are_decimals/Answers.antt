use Rattle.pws_script.proofs.ScriptLaws.{numbers_are_decimals}
use Rattle.pws_script.proofs.laws.numbers_are_decimals.Goals as goal

pub returns : goal.returns
returns c = numbers_are_decimals

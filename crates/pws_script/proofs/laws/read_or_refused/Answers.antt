use Rattle.pws_script.proofs.ScriptLaws.{read_or_refused}
use Rattle.pws_script.proofs.laws.read_or_refused.Goals as goal

pub returns : goal.returns
returns c = read_or_refused

use Rattle.pws_driver.specs.Lemmas.RunLaws.{run_resumed}
use Rattle.pws_driver.proofs.laws.runs_go_on.Goals as goal

pub returns : goal.returns
returns c = run_resumed

use Rattle.pws_driver.specs.Lemmas.RunLaws.{run_over}
use Rattle.pws_driver.proofs.laws.runs_end.Goals as goal

pub returns : goal.returns
returns c = run_over

use Rattle.pws_driver.specs.Lemmas.CallRuns.{calls_lawful}
use Rattle.pws_driver.proofs.laws.calls_are_lawful.Goals as goal

pub returns : goal.returns
returns c = calls_lawful

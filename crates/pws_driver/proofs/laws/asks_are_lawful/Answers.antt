use Rattle.pws_driver.specs.Lemmas.AskRuns.{asks_lawful}
use Rattle.pws_driver.proofs.laws.asks_are_lawful.Goals as goal

pub returns : goal.returns
returns c = asks_lawful

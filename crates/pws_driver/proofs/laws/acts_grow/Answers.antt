use Rattle.pws_driver.specs.Lemmas.RunLaws.{acts_grow}
use Rattle.pws_driver.proofs.laws.acts_grow.Goals as goal

pub returns : goal.returns
returns c = acts_grow

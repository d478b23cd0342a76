use Rattle.pws_driver.specs.Lemmas.ReplyRuns.{replies_lawful}
use Rattle.pws_driver.proofs.laws.replies_are_lawful.Goals as goal

pub returns : goal.returns
returns c s effects = replies_lawful s s.me s.layout effects

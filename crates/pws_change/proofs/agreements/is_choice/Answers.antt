use Rattle.std.proofs.lemmas.Bool.{false≢true}
use Rattle.pws_change.proofs.agreements.is_choice.Goals as goal

pub returns-in-None : goal.returns-in-None
returns-in-None c = (λ t. absurd (false≢true t), λ g. absurd (c.in-None.ensures c.args.choice.now.place c.args.choice.now.digest g.start.may))

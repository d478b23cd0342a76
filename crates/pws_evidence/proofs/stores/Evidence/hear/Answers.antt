use Rattle.pws_evidence.proofs.Settling.{heard_bounded}
use Rattle.pws_evidence.proofs.stores.Evidence.hear.Goals as goal

pub returns-clause-bounded : goal.returns-clause-bounded
returns-clause-bounded c = heard_bounded c.hear_content.result c.args.self.now c.hear_content.new.self c.args.asked.now c.args.sender c.args.content.now c.args.body.now c.hear_content.ensures.heard c.hear_content.ensures.err c.is_lawful.ensures c.requires

use Rattle.pws_mark.proofs.Levels.{removed_at}
use Rattle.pws_mark.proofs.scopes.take_levels.Goals as goal

pub returns-in-Some-clause-others : goal.returns-in-Some-clause-others
returns-in-Some-clause-others c = removed_at c.args.levels.now c.remove.new.self c.args.prefix.now c.in-Some.ensures.updates

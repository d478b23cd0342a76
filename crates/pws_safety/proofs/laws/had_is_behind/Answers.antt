use Rattle.pws_safety.proofs.Group.{had_is_behind}
use Rattle.pws_safety.proofs.laws.had_is_behind.Goals as goal

pub returns : goal.returns
returns c = had_is_behind

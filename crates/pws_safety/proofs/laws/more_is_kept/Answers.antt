use Rattle.pws_safety.proofs.Group.{more_is_kept}
use Rattle.pws_safety.proofs.laws.more_is_kept.Goals as goal

pub returns : goal.returns
returns c = more_is_kept

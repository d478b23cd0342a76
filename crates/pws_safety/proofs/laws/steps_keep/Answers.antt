use Rattle.pws_safety.proofs.Group.{steps_keep, repeats_keep}
use Rattle.pws_safety.proofs.laws.steps_keep.Goals as goal

pub returns : goal.returns
returns c = record { step = steps_keep; repeats = repeats_keep }

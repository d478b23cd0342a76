use Rattle.pws_safety.proofs.Group.{slots_keep_the_choice}
use Rattle.pws_safety.proofs.laws.slots_keep_the_choice.Goals as goal

pub returns : goal.returns
returns c = slots_keep_the_choice

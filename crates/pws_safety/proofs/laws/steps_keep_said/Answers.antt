use Rattle.pws_safety.proofs.Group.{steps_keep_said}
use Rattle.pws_safety.proofs.Next.{said_is_sent}
use Rattle.pws_safety.proofs.laws.steps_keep_said.Goals as goal

pub returns : goal.returns
returns c = record { step = steps_keep_said; sender = said_is_sent }

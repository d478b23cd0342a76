use Rattle.pws_safety.proofs.Forgetful.{forgets_slots_misleads}
use Rattle.pws_safety.proofs.counterexamples.forgets_slots_misleads.Goals as goal

pub returns : goal.returns
returns c = forgets_slots_misleads

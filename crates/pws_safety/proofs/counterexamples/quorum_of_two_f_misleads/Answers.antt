use Rattle.pws_safety.proofs.Ruled.{quorum_of_two_f_misleads}
use Rattle.pws_safety.proofs.counterexamples.quorum_of_two_f_misleads.Goals as goal

pub returns : goal.returns
returns c = quorum_of_two_f_misleads

use Rattle.pws_safety.proofs.Unwitnessed.{choice_without_witnesses_misleads}
use Rattle.pws_safety.proofs.counterexamples.choice_without_witnesses_misleads.Goals as goal

pub returns : goal.returns
returns c = choice_without_witnesses_misleads

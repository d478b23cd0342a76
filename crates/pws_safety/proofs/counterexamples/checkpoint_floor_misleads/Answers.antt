use Rattle.pws_safety.proofs.LowFloor.{checkpoint_floor_misleads}
use Rattle.pws_safety.proofs.counterexamples.checkpoint_floor_misleads.Goals as goal

pub returns : goal.returns
returns c = checkpoint_floor_misleads

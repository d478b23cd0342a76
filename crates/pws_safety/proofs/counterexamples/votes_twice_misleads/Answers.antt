use Rattle.pws_safety.proofs.SecondVotes.{votes_twice_misleads}
use Rattle.pws_safety.proofs.counterexamples.votes_twice_misleads.Goals as goal

pub returns : goal.returns
returns c = votes_twice_misleads

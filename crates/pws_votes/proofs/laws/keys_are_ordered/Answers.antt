use Rattle.pws_votes.proofs.VoteLemmas as lemmas
use Rattle.pws_votes.proofs.laws.keys_are_ordered.Goals as goal

pub returns : goal.returns
returns c = lemmas.keys_are_ordered

use Rattle.pws_votes.proofs.VoteLemmas.{votes_after_a_vote, votes_after_the_view, votes_above_the_mark}
use Rattle.pws_votes.proofs.laws.votes_after_a_step.Goals as goal

pub returns : goal.returns
returns c = record { vote = votes_after_a_vote; view = votes_after_the_view; low = votes_above_the_mark }

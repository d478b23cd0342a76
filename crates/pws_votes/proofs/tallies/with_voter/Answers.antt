use Rattle.pws_votes.proofs.MaskLemmas.{set_same, set_other}
use Rattle.pws_votes.proofs.tallies.with_voter.Goals as goal

pub returns-clause-same : goal.returns-clause-same
returns-clause-same c = set_same c.args.mask c.args.voter c.requires

pub returns-clause-others : goal.returns-clause-others
returns-clause-others c = λ q n. set_other c.args.mask c.args.voter q c.requires n

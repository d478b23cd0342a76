use Rattle.pws_voter_laws.proofs.Choosing as lemma
use Rattle.pws_voter_laws.proofs.laws.done_is_enabled.Goals as goal

pub returns : goal.returns
returns c = lemma.done_is_enabled

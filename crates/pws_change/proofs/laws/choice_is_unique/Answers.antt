use Rattle.pws_change.proofs.Unique as unique
use Rattle.pws_change.proofs.laws.choice_is_unique.Goals as goal

pub returns : goal.returns
returns c = unique.choice_is_unique

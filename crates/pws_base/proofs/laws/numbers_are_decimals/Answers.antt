use Rattle.pws_base.proofs.DecimalLemmas.{numbers_are_decimals}
use Rattle.pws_base.proofs.laws.numbers_are_decimals.Goals as goal

pub returns : goal.returns
returns c = numbers_are_decimals

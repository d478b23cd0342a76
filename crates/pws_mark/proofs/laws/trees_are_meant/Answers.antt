use Rattle.pws_mark.proofs.TreeOf.{trees_are_meant}
use Rattle.pws_mark.proofs.laws.trees_are_meant.Goals as goal

pub returns : goal.returns
returns c = trees_are_meant

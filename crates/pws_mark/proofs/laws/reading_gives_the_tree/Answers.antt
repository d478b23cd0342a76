use Rattle.pws_mark.proofs.TreeOf.{reading_gives_the_tree}
use Rattle.pws_mark.proofs.laws.reading_gives_the_tree.Goals as goal

pub returns : goal.returns
returns c = reading_gives_the_tree

use Rattle.std.specs.Cmp.Lexicographic.{pointwise_decides}
use Rattle.pws_tree.proofs.Same.{attr_decides}
use Rattle.pws_tree.proofs.trees.same_attrs.Goals as goal

pub returns : goal.returns
returns c = rw c.eq.ensures (pointwise_decides attr_decides _ _)

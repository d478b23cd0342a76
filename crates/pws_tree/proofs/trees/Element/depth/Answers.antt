use Rattle.std.proofs.Common.{arith}
use Rattle.pws_tree.proofs.Levels.{lawful_depth}
use Rattle.pws_tree.proofs.trees.Element.depth.Goals as goal

pub returns-clause-few : goal.returns-clause-few
returns-clause-few c = omega (arith, lawful_depth _ c.self.invariant.0)

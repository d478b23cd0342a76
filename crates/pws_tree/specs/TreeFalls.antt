-- The children of an element are smaller than it.
use Rattle.std.specs.Prelude.{◌+◌, ◌≤◌, List, [], ◌∷◌, length, None}
use Rattle.std.proofs.Common.{arith, length-append}
use denote.Param.Weighed.{most}
use Rattle.pws_tree.specs.Trees.{marks}
use Rattle.pws_tree.specs.Nodes.{nodes_of}
use Rattle.pws_tree.specs.declared.trees.Node.{Node}
use Rattle.pws_tree.specs.declared.trees.Node.TheVariants as node
use Rattle.pws_tree.specs.declared.trees.Element.TheDeep.{deep-Node}

pub size_falls : (ns : List Node) → most deep-Node ns ≤ length (marks (nodes_of ns)) + 1
size_falls [] = omega arith
size_falls (node.Text t ∷ rest) = omega (arith, size_falls rest)
size_falls (node.Qualified n ∷ rest) = omega (arith, size_falls rest)
size_falls (node.Element e ∷ rest) = omega (arith, size_falls rest, length-append (marks e.children) (None ∷ marks (nodes_of rest)))

use Rattle.std.proofs.Common.{◌≡◌, drop}
use Rattle.pws_tree.specs.Lawful.{has_qualified}
use Rattle.pws_tree.specs.Nodes.{nodes_of}
use Rattle.pws_tree.proofs.lawful.has_qualified.Given as goal

abbrev pub invariant-loop-child : goal.invariant-loop-child
invariant-loop-child l = has_qualified (nodes_of l.children) ≡ has_qualified (nodes_of (drop l.child-index l.children))

use Rattle.std.proofs.Common.{◌≡◌, ◌≤◌, max, drop}
use Rattle.pws_tree.specs.Lawful.{levels}
use Rattle.pws_tree.specs.Nodes.{nodes_of}
use Rattle.pws_tree.proofs.lawful.levels.Given as goal

abbrev pub invariant-loop-child : goal.invariant-loop-child
invariant-loop-child l = (levels (nodes_of l.children) ≡ max l.most (levels (nodes_of (drop l.child-index l.children)))) × (l.most ≤ 64)

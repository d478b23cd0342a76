use Rattle.std.proofs.Common.{◌≡◌, ◌++◌, drop, length}
use Rattle.pws_tree.specs.Trees.{NoNode, marks}
use Rattle.pws_tree.specs.Nodes.{nodes_of, node_then, tree_size}
use Rattle.pws_mark.specs.Canonical.{nodes_text}
use Rattle.pws_mark.proofs.writing.+putting.Given as goal

abbrev pub decreases-put_child : goal.decreases-put_child
decreases-put_child l = length (marks (node_then l.child.now NoNode))

abbrev pub decreases-put_children : goal.decreases-put_children
decreases-put_children l = tree_size l.element.now

abbrev pub invariant-put_children-loop-child : goal.invariant-put_children-loop-child
invariant-put_children-loop-child l = l.out ++ nodes_text l.spaces (nodes_of (drop l.child-index l.child-items)) ≡ l.initial.out ++ nodes_text l.spaces (nodes_of l.child-items)

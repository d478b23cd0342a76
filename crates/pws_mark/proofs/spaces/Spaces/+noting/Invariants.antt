use Rattle.std.proofs.Common.{◌≡◌, drop, fold, length}
use Rattle.pws_tree.specs.Trees.{NoNode, marks}
use Rattle.pws_tree.specs.Nodes.{nodes_of, node_then, tree_size}
use Rattle.pws_mark.specs.Canonical.{with_space, uses}
use Rattle.pws_mark.proofs.spaces.Spaces.+noting.Given as goal

abbrev pub decreases-note_child : goal.decreases-note_child
decreases-note_child l = length (marks (node_then l.child.now NoNode))

abbrev pub decreases-note_element : goal.decreases-note_element
decreases-note_element l = tree_size l.element.now

abbrev pub invariant-note_element-loop-child : goal.invariant-note_element-loop-child
invariant-note_element-loop-child l = fold with_space l.self (uses (nodes_of (drop l.child-index l.child-items))) ≡ fold with_space l.initial.self (uses (nodes_of l.child-items))

use Rattle.std.proofs.Common.{◌≡◌, ◌++◌, drop, length}
use Rattle.pws_tree.specs.Trees.{NoNode, marks}
use Rattle.pws_tree.specs.Nodes.{nodes_of, node_then, tree_size}
use Rattle.pws_envelopes.specs.Fields.{texts_within}
use Rattle.pws_envelopes.proofs.fields.+gathering.Given as goal

abbrev pub decreases-put_child : goal.decreases-put_child
decreases-put_child l = length (marks (node_then l.child.now NoNode))

abbrev pub decreases-put_texts : goal.decreases-put_texts
decreases-put_texts l = tree_size l.element.now

abbrev pub invariant-put_texts-loop-child : goal.invariant-put_texts-loop-child
invariant-put_texts-loop-child l = l.text ++ texts_within (nodes_of (drop l.child-index l.child-items)) ≡ l.initial.text ++ texts_within (nodes_of l.child-items)

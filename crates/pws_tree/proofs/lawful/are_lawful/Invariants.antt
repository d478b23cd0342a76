use Rattle.std.proofs.Common.{◌≡◌, drop}
use Rattle.pws_tree.specs.Lawful.{are_lawful}
use Rattle.pws_tree.specs.Nodes.{nodes_of}
use Rattle.pws_tree.proofs.Children.{are_lawful_behind}
use Rattle.pws_tree.proofs.lawful.are_lawful.Given as goal

abbrev pub invariant-loop-child : goal.invariant-loop-child
invariant-loop-child l = are_lawful (nodes_of l.children) ≡ are_lawful_behind l.after_text (nodes_of (drop l.child-index l.children))

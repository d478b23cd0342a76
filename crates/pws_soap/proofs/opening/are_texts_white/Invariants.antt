use Rattle.std.proofs.Common.{◌≡◌, drop}
use Rattle.pws_tree.specs.Nodes.{nodes_of}
use Rattle.pws_soap.specs.Envelopes.{are_texts_white}
use Rattle.pws_soap.proofs.opening.are_texts_white.Given as goal

abbrev pub invariant-loop-child : goal.invariant-loop-child
invariant-loop-child l = are_texts_white (nodes_of l.children) ≡ are_texts_white (nodes_of (drop l.child-index l.children))

use Rattle.std.proofs.Common.{◌≡◌}
use Rattle.pws_tree.specs.Nodes.{nodes_of}
use Rattle.pws_soap.specs.Envelopes.{elements}
use Rattle.pws_soap.proofs.opening.elements_of.Given as goal

abbrev pub invariant-loop-child : goal.invariant-loop-child
invariant-loop-child l = l.found.items ≡ elements (nodes_of l.yielded)

use Rattle.std.proofs.Common.{◌≡◌}
use Rattle.pws_soap.proofs.Elements.{as_nodes}
use Rattle.pws_soap.proofs.envelopes.nodes_of_elements.Given as goal

abbrev pub invariant-loop-element : goal.invariant-loop-element
invariant-loop-element l = l.nodes.items ≡ as_nodes l.yielded

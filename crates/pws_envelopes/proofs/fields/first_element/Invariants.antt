use Rattle.std.proofs.Common.{◌≡◌, drop}
use Rattle.pws_tree.specs.Nodes.{nodes_of}
use Rattle.pws_envelopes.specs.Fields.{first_element}
use Rattle.pws_envelopes.proofs.fields.first_element.Given as goal

abbrev pub invariant-loop-node : goal.invariant-loop-node
invariant-loop-node l = first_element (nodes_of l.nodes) ≡ first_element (nodes_of (drop l.node-index l.nodes))

use Rattle.std.proofs.Common.{◌≡◌, drop}
use Rattle.pws_tree.specs.Nodes.{nodes_of}
use Rattle.pws_envelopes.specs.Fields.{first_named}
use Rattle.pws_envelopes.proofs.fields.first_named.Given as goal

abbrev pub invariant-loop-node : goal.invariant-loop-node
invariant-loop-node l = first_named l.fn.name (nodes_of l.nodes) ≡ first_named l.fn.name (nodes_of (drop l.node-index l.nodes))

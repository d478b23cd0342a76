use Rattle.std.proofs.Common.{◌≡◌, ◌++◌, drop, filter}
use Rattle.std.specs.Option.{option_copied, option_to_list}
use Rattle.pws_tree.specs.Nodes.{nodes_of}
use Rattle.pws_soap.specs.Envelopes.{elements}
use Rattle.pws_addr.specs.Reading.{is_address}
use Rattle.pws_addr.proofs.reading.only_address.Given as goal

abbrev pub invariant-loop-child : goal.invariant-loop-child
invariant-loop-child l =
    filter is_address (elements (nodes_of l.children)) ≡ option_to_list (option_copied l.found) ++ filter is_address (elements (nodes_of (drop l.child-index l.children)))

use Rattle.std.proofs.Common.{ap, ◌∙◌, sym, rules, ◌++◌}
use Rattle.std.proofs.lemmas.List.{map-id}
use Rattle.std.proofs.lemmas.Iterator.Adapters.{YieldsList-from_vec}
use Rattle.std.proofs.lemmas.Iterator.Consumers.{YieldsList-end}
use Rattle.pws_tree.specs.Nodes.{nodes_of, node_then}
use Rattle.pws_tree.specs.Trees.{NoNode}
use Rattle.pws_soap.specs.Envelopes.{elements}
use Rattle.pws_soap.proofs.Elements.{elements_push}
use Rattle.pws_soap.proofs.opening.elements_of.Goals as goal

pub loop-child-preserved : goal.loop-child-preserved
loop-child-preserved c = c.in_ok-keep_element.ensures ∙ (ap (λ z. z ++ elements (node_then c.in-Some.child NoNode)) c.loop-child.invariant ∙ sym (elements_push c.loop-child.yielded c.in-Some.child))

pub returns : goal.returns
returns c =
    let t = YieldsList-end (YieldsList-from_vec {s = c.into_iter-child-iterator.result} c.args.children.items (search rules) (search rules)) c.loop-child.yielded c.loop-child.child-iterator c.loop-child.yielded_by c.next.result c.next.new.self c.in-None.is c.next.ensures.steps in
    rw c.loop-child.invariant (ap (λ z. elements (nodes_of z)) (sym (map-id c.loop-child.yielded) ∙ t.0))

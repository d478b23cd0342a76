use Rattle.std.proofs.Common.{ap, ◌∙◌, sym, rules}
use Rattle.std.proofs.lemmas.List.{map-id}
use Rattle.std.proofs.lemmas.Iterator.Adapters.{YieldsList-from_vec}
use Rattle.std.proofs.lemmas.Iterator.Consumers.{YieldsList-end}
use Rattle.pws_soap.specs.Envelopes.{nodes_of_trees}
use Rattle.pws_soap.proofs.Elements.{as_nodes_are, as_nodes_push}
use Rattle.pws_soap.proofs.envelopes.nodes_of_elements.Goals as goal

pub loop-element-preserved : goal.loop-element-preserved
loop-element-preserved c = rw (c.in_ok-push.ensures.items, c.loop-element.invariant) (sym (as_nodes_push c.loop-element.yielded c.in-Some.element))

pub returns : goal.returns
returns c =
    let t = YieldsList-end (YieldsList-from_vec {s = c.into_iter-element-iterator.result} c.args.elements.items (search rules) (search rules)) c.loop-element.yielded c.loop-element.element-iterator c.loop-element.yielded_by c.next.result c.next.new.self c.in-None.is c.next.ensures.steps in
    rw c.loop-element.invariant (as_nodes_are c.loop-element.yielded ∙ ap nodes_of_trees (sym (map-id c.loop-element.yielded) ∙ t.0))

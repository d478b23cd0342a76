use Rattle.std.proofs.Common.{◌≡◌, subst, IsTrue, rules, sym}
use Rattle.pws_tree.specs.Lawful.{is_lawful}
use Rattle.pws_tree.specs.Nodes.{nodes_of}
use Rattle.pws_tree.specs.Trees.{Tree}
use Rattle.pws_soap.specs.Faults.{text_nodes}
use Rattle.pws_addr.specs.Envelopes.{text_local, service_tree}
use Rattle.pws_addr.proofs.Messages.{text_tree_lawful}
use Rattle.pws_addr.proofs.envelopes.text_element.Goals as goal

pub of_lawful-requires : goal.of_lawful-requires
unfolding text_local
of_lawful-requires c =
    let t : Tree = record { name = c.in_ok-name.name; attrs = c.new.result.items; children = nodes_of c.in_ok-children.children.items } in
    let e : t ≡ service_tree text_local (text_nodes c.args.text.now) = search rules in
    subst (λ x. IsTrue (is_lawful x)) (sym e) (text_tree_lawful c.args.text.now c.as_str.ensures.lawful)

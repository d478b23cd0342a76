use Rattle.std.proofs.Common.{◌≡◌, subst, IsTrue, rules, sym}
use Rattle.pws_tree.specs.Lawful.{is_lawful}
use Rattle.pws_tree.specs.Nodes.{nodes_of}
use Rattle.pws_tree.specs.Trees.{Tree}
use Rattle.pws_addr.specs.Envelopes.{message_tree}
use Rattle.pws_addr.proofs.Messages.{message_lawful}
use Rattle.pws_addr.proofs.envelopes.message_element.Goals as goal

pub of_lawful-requires : goal.of_lawful-requires
of_lawful-requires c =
    let t : Tree = record { name = c.in_ok-name.name; attrs = c.new.result.items; children = nodes_of c.in_ok-children.children.items } in
    let e : t ≡ message_tree c.args.local.now c.args.text.now = search rules in
    subst (λ x. IsTrue (is_lawful x)) (sym e) (message_lawful c.args.local.now c.args.text.now c.requires c.as_str-lawful.ensures.lawful)

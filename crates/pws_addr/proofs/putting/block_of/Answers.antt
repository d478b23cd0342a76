use Rattle.std.proofs.Common.{◌≡◌, subst, IsTrue, rules, sym}
use Rattle.pws_tree.specs.Lawful.{is_lawful}
use Rattle.pws_tree.specs.Nodes.{nodes_of}
use Rattle.pws_tree.specs.Trees.{Tree}
use Rattle.pws_addr.specs.Blocks.{block_of}
use Rattle.pws_addr.proofs.Lawful.{block_lawful}
use Rattle.pws_addr.proofs.putting.block_of.Goals as goal

pub of_lawful-requires : goal.of_lawful-requires
of_lawful-requires c =
    let t : Tree = record { name = c.in_ok-name.name; attrs = c.args.attrs.items; children = nodes_of c.in_ok-children.children.items } in
    let e : t ≡ block_of c.args.header c.args.attrs.items c.args.text.now = search rules in
    subst (λ x. IsTrue (is_lawful x)) (sym e) (block_lawful c.args.header c.args.attrs.items c.args.text.now c.requires.lawful c.requires.sorted (search rules))

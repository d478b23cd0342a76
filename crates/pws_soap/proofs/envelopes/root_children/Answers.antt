use Rattle.pws_tree.specs.Nodes.{nodes_of}
use Rattle.pws_soap.proofs.Made.{body_lawful, header_lawful}
use Rattle.pws_soap.proofs.envelopes.root_children.Goals as goal

pub body_element-requires : goal.body_element-requires
body_element-requires c = body_lawful (record { headers = c.args.headers.items; body = nodes_of c.args.body.items }) c.requires

pub header_element-requires : goal.header_element-requires
header_element-requires c = header_lawful (record { headers = c.args.headers.items; body = nodes_of c.args.body.items }) c.requires

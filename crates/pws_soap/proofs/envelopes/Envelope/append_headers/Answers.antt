use Rattle.std.proofs.Common.{◌∙◌, sym, ap}
use Rattle.std.specs.List.{list_all}
use Rattle.pws_tree.specs.Lawful.{is_lawful}
use Rattle.pws_tree.specs.Nodes.{nodes_of}
use Rattle.pws_soap.proofs.Made.{append_lawful}
use Rattle.pws_soap.proofs.envelopes.Envelope.append_headers.Goals as goal

pub invariant_of-self-2 : goal.invariant_of-self-2
invariant_of-self-2 c =
    rw c.in_ok-append.ensures.items (append_lawful (record { headers = c.self.inside.headers.items; body = nodes_of c.self.inside.body.items }) c.args.headers.items c.self.invariant (ap (list_all is_lawful) (sym c.as_slice.ensures.value) ∙ c.note_lawful.ensures) c.requires)

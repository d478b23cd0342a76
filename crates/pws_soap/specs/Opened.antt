-- How the definitions see what the code holds while it opens an envelope.
use Rattle.pws_tree.specs.Nodes.{nodes_of}
use Rattle.pws_soap.specs.Envelopes.{Enveloped}
use Rattle.pws_soap.specs.Envelopes as envelopes
use Rattle.pws_soap.specs.declared.opening.Parts.{Parts}
use Rattle.pws_soap.specs.declared.opening.Opened.{Opened}

abbrev pub parts_seen : Parts → envelopes.Parts
parts_seen p = record { header = nodes_of p.header.items; body = nodes_of p.body.items }

abbrev pub envelope_seen : Opened → Enveloped
envelope_seen o = record { headers = o.headers.items; body = nodes_of o.body.items }

use Rattle.std.proofs.Common.{◌∙◌, sym, ap}
use Rattle.std.specs.List.{list_all}
use Rattle.pws_tree.specs.Nodes.{nodes_of}
use Rattle.pws_soap.specs.Blocks.{is_well_marked}
use Rattle.pws_soap.specs.Envelopes.{are_texts_white}
use Rattle.pws_soap.specs.Opened.{parts_seen}
use Rattle.pws_soap.proofs.Read.{blocks_found}
use Rattle.pws_soap.proofs.opening.blocks_of.Goals as goal

pub returns : goal.returns
returns c =
    blocks_found (parts_seen c.args.parts) c.in_ok-headers.headers.items
    (ap (λ z. are_texts_white (nodes_of z)) (sym c.as_slice.ensures.value) ∙ (sym c.are_texts_white.ensures ∙ c.if-not-are_texts_white.false))
    c.in_ok-headers.ensures
    (ap (list_all is_well_marked) (sym c.as_slice-2.ensures.value) ∙ (sym c.are_well_marked.ensures ∙ c.if-not-are_well_marked.false))

use Rattle.pws_soap.proofs.Texts.{nothing_else}
use Rattle.pws_soap.proofs.reading.nothing_else_is_read.Goals as goal

pub returns : goal.returns
returns c = nothing_else c.canonical_may_be_read.ensures c.reading_gives_the_tree.ensures

use Rattle.pws_soap.proofs.Texts.{written_read}
use Rattle.pws_soap.proofs.reading.written_are_read.Goals as goal

pub returns : goal.returns
returns c = written_read c.canonical_may_be_read.ensures

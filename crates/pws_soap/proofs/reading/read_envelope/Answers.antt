use Rattle.pws_soap.proofs.Texts.{reads_on}
use Rattle.pws_soap.proofs.reading.read_envelope.Goals as goal

pub returns-in-Ok : goal.returns-in-Ok
returns-in-Ok c = reads_on c.args.text.now c.in-Ok.root c.envelope_of.result c.in-Ok.ensures c.envelope_of.ensures

use Rattle.pws_look.proofs.Told.{read_soap_answers, refused_soap_answers}
use Rattle.pws_look.proofs.envelopes.soap_answer.Goals as goal

pub returns-in-Ok : goal.returns-in-Ok
returns-in-Ok c = read_soap_answers c.args.text.now c.read_envelope.result c.in-Ok.envelope c.envelope_read.result c.read_envelope.ensures c.in-Ok.is c.envelope_read.ensures

pub returns-in-Err : goal.returns-in-Err
returns-in-Err c = refused_soap_answers c.args.text.now c.read_envelope.result c.in-Err.error c.envelope_refused.result c.read_envelope.ensures c.in-Err.is c.envelope_refused.ensures.answer c.envelope_refused.ensures.told

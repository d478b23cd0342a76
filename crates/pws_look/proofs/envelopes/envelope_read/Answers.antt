use Rattle.pws_look.proofs.Told.{addressed_answers, refused_addressing_answers}
use Rattle.pws_look.proofs.envelopes.envelope_read.Goals as goal

pub returns-in-Ok : goal.returns-in-Ok
returns-in-Ok c = addressed_answers c.args.envelope.now c.read_addressing.result c.in-Ok.addressing c.addressed.result c.read_addressing.ensures c.in-Ok.is c.addressed.ensures

pub returns-in-Err : goal.returns-in-Err
returns-in-Err c = refused_addressing_answers c.args.envelope.now c.read_addressing.result c.in-Err.error c.not_addressed.result c.read_addressing.ensures c.in-Err.is c.not_addressed.ensures.answer c.not_addressed.ensures.wanted

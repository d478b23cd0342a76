use Rattle.std.proofs.Common.{◌∙◌, ap, Err}
use Rattle.pws_look.proofs.Told.{read_element_answers, refused_element_answers}
use Rattle.pws_look.proofs.envelopes.envelope_answer.Goals as goal

pub returns-in-Ok : goal.returns-in-Ok
returns-in-Ok c = read_element_answers c.args.lines c.args.text.now c.read_element.result c.in-Ok.element c.element_read.result c.read_element.ensures c.in-Ok.is c.element_read.ensures

pub returns-in-Err-Mark : goal.returns-in-Err-Mark
returns-in-Err-Mark c = refused_element_answers c.args.lines c.args.text.now c.read_element.result c.in-Err-Mark.error c.element_refused.result c.read_element.ensures (c.in-Err-Mark.is ∙ ap Err c.in-Err-Mark.field-0-is) c.element_refused.ensures

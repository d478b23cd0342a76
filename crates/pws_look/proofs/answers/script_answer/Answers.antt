use Rattle.std.proofs.Common.{◌∙◌, ap, Err}
use Rattle.pws_look.proofs.Scripts.{read_answers, refused_answers}
use Rattle.pws_look.proofs.answers.script_answer.Goals as goal

pub returns-in-Ok : goal.returns-in-Ok
returns-in-Ok c = read_answers c.args.text.now c.read.result c.in-Ok.script c.script_read.result c.read.ensures c.in-Ok.is c.script_read.ensures

pub returns-in-Err-Script : goal.returns-in-Err-Script
returns-in-Err-Script c = refused_answers c.args.text.now c.read.result c.in-Err-Script.error c.script_refused.result c.read.ensures (c.in-Err-Script.is ∙ ap Err c.in-Err-Script.field-0-is) c.script_refused.ensures

use Rattle.pws_mark.proofs.Stopped.{stop_noted}
use Rattle.pws_mark.proofs.stopping.note_stop.Goals as goal

pub returns : goal.returns
returns c =
    stop_noted c.args.stand c.args.bytes.now c.args.at c.saturating_sub.result c.is_early_bang.result c.is_early_bang.ensures c.saturating_sub.ensures c.args.least.now c.note_doctype.new.least c.note_doctype-2.new.least c.note_instruction.new.least c.note_question.new.least
    c.note_doctype.ensures c.note_doctype-2.ensures c.note_instruction.ensures c.note_question.ensures

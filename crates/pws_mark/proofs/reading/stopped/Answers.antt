use Rattle.std.proofs.Common.{sym, ◌∙◌}
use Rattle.pws_mark.proofs.TextsRead.{noted_last}
use Rattle.pws_mark.proofs.reading.stopped.Goals as goal

pub returns : goal.returns
returns c = noted_last c.args.least c.note_stop.new.least c.note.new.self c.args.stand c.args.bytes.now c.args.at c.args.shared c.in-Some.error c.note_stop.ensures c.note.ensures (sym c.error.ensures ∙ c.in-Some.is)

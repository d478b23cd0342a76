use Rattle.pws_mark.proofs.SeenSets.{written_more}
use Rattle.pws_mark.proofs.seen.add_written.Goals as goal

pub returns : goal.returns
returns c = written_more c.args.set.now c.insert.new.self c.args.written c.in_ok-insert.ensures.updates

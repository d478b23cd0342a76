use Rattle.pws_mark.proofs.Stopped.{stop_shared}
use Rattle.pws_mark.proofs.stopping.shared.Goals as goal

pub returns : goal.returns
returns c = stop_shared c.args.stand c.args.c c.shared_by.result c.shared_by.ensures

use Rattle.pws_mark.proofs.Outcome.{ends_tell}
use Rattle.pws_mark.proofs.StandingBegins.{runs_begin}
use Rattle.pws_mark.proofs.Placed.{runs_are_placed}
use Rattle.pws_mark.proofs.reader_laws.ends_tell.Goals as goal

pub returns : goal.returns
returns c = ends_tell runs_begin runs_are_placed

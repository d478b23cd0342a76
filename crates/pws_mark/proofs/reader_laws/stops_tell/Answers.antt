use Rattle.pws_mark.proofs.Outcome.{stops_tell}
use Rattle.pws_mark.proofs.StandingBegins.{runs_begin}
use Rattle.pws_mark.proofs.Placed.{runs_are_placed}
use Rattle.pws_mark.proofs.reader_laws.stops_tell.Goals as goal

pub returns : goal.returns
returns c = stops_tell runs_begin runs_are_placed

use Rattle.pws_mark.proofs.OutcomeEnds.{ends_mean}
use Rattle.pws_mark.proofs.StandingBegins.{runs_begin}
use Rattle.pws_mark.proofs.reader_laws.ends_mean.Goals as goal

pub returns : goal.returns
returns c = ends_mean runs_begin

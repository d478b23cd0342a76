use Rattle.pws_mark.proofs.StandingBegins.{runs_begin}
use Rattle.pws_mark.proofs.reader_laws.runs_begin.Goals as goal

pub returns : goal.returns
returns c = runs_begin

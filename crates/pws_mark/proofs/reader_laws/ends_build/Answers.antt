use Rattle.pws_mark.proofs.OutcomeEnds.{ends_build}
use Rattle.pws_mark.proofs.StandingBegins.{runs_begin}
use Rattle.pws_mark.proofs.LawfulMeaning.{meanings}
use Rattle.pws_mark.proofs.reader_laws.ends_build.Goals as goal

pub returns : goal.returns
returns c = ends_build runs_begin meanings

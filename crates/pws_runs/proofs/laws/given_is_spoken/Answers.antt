use Rattle.pws_runs.proofs.Told.{given_spoken}
use Rattle.pws_runs.proofs.laws.given_is_spoken.Goals as goal

pub returns : goal.returns
returns g e w to bytes h v c = given_spoken e w to bytes h v c

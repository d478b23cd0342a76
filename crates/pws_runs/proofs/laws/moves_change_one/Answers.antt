use Rattle.pws_runs.proofs.Moving.{others_stay, sent_goes_on}
use Rattle.pws_runs.proofs.laws.moves_change_one.Goals as goal

pub returns : goal.returns
returns g = record { others = others_stay; sent = sent_goes_on }

use Rattle.pws_runs.proofs.Leds.{step_led}
use Rattle.pws_runs.proofs.laws.effects_stay.Goals as goal

pub returns : goal.returns
returns g serve s i = step_led serve s i

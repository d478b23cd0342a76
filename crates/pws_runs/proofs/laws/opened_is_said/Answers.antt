use Rattle.pws_runs.proofs.Told.{opened_said}
use Rattle.pws_runs.proofs.laws.opened_is_said.Goals as goal

pub returns : goal.returns
returns g keys me bytes c h = opened_said keys me bytes c h

use Rattle.pws_runs.proofs.Courses.{step_unopened}
use Rattle.pws_runs.proofs.laws.unopened_changes_nothing.Goals as goal

pub returns : goal.returns
returns g serve effects s i why h = step_unopened serve effects s i why h

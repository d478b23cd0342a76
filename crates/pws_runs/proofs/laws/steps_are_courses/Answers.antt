use Rattle.pws_runs.proofs.Courses.{step_course}
use Rattle.pws_runs.proofs.laws.steps_are_courses.Goals as goal

pub returns : goal.returns
returns g serve effects s i = step_course serve effects s i

use Rattle.pws_sched.proofs.Spelling.{first_form_is_spelled as law}
use Rattle.pws_sched.proofs.laws.first_form_is_spelled.Goals as goal

pub returns : goal.returns
returns c = law

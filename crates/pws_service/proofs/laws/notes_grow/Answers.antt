use Rattle.pws_service.proofs.Noted.{act_noted}
use Rattle.pws_service.proofs.laws.notes_grow.Goals as goal

pub returns : goal.returns
returns c = act_noted

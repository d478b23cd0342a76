use Rattle.pws_service.proofs.EffectLaws.{in_turn_more}
use Rattle.pws_service.proofs.laws.turns_grow.Goals as goal

pub returns : goal.returns
returns c = in_turn_more

use Rattle.pws_service.proofs.EffectLaws.{effects_in_turn}
use Rattle.pws_service.proofs.laws.effects_are_in_turn.Goals as goal

pub returns : goal.returns
returns c = effects_in_turn

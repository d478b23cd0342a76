use Rattle.std.proofs.Common.{[], ◌∷◌}
use Rattle.std.proofs.lemmas.Grind.{fold-append}
use Rattle.pws_event.specs.Histories.{after_step, nothing}
use Rattle.pws_event.proofs.laws.histories_grow.Goals as goal

pub returns : goal.returns
returns c = λ me layout history step. fold-append (after_step me layout) nothing history (step ∷ [])

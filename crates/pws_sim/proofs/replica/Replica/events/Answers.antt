use Rattle.std.proofs.Common.{subst}
use Rattle.pws_sim.specs.Once.{AllTakeEffect}
use Rattle.pws_sim.specs.Replica.{ReplicaState, two_groups}
use Rattle.pws_sim.proofs.replica.Replica.events.Goals as goal

pub returns-clause-taken : goal.returns-clause-taken
returns-clause-taken c = subst (λ (s : ReplicaState). AllTakeEffect 1 two_groups s.places) c.self.view_is c.self.invariant.effects

use Rattle.pws_event.specs.Counters.{Counters, CanCall}
use Rattle.std.proofs.Common.{subst, sym}
use Rattle.pws_event.proofs.Preserved.{call_kept}
use Rattle.pws_event.proofs.effects.Effect.note_call.Goals as goal

pub invariant_of-self : goal.invariant_of-self
invariant_of-self c = rw c.slot.ensures.value (call_kept _ c.args.called c.args.number c.self.invariant (subst (λ (s : Counters). CanCall s c.args.called c.args.number) (sym c.self.view_is) c.requires))

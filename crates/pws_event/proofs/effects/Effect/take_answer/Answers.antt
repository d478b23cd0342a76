use Rattle.std.proofs.Common.{◌≡◌, true, subst, sym, arith}
use Rattle.pws_event.specs.Counters.{Counters, is_waiting}
use Rattle.pws_event.proofs.Preserved.{answer_kept}
use Rattle.pws_event.proofs.effects.Effect.take_answer.Goals as goal

pub invariant_of-self : goal.invariant_of-self
invariant_of-self c =
    let counted = c.is_waiting.ensures.counter in
    let here = c.if-not-is_waiting.false in
    let waits : is_waiting c.args.self.now.waiting c.args.called c.args.number ≡ true = grind (arith, counted, here) in
    rw c.slot.ensures.value (answer_kept _ c.args.called c.args.number c.self.invariant (subst (λ (s : Counters). is_waiting s.waiting c.args.called c.args.number ≡ true) (sym c.self.view_is) waits))

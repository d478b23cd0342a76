use Rattle.std.proofs.Common.{◌≡◌, ◌<◌, ◌-◌, ◌+◌, sym, ◌∙◌, ap, arith, Some}
use Rattle.pws_sim.specs.Replica.{keep, pushes, push, next_of}
use Rattle.pws_sim.proofs.Pushes.{pushes_spent, pushes_more, pushes_end}
use Rattle.pws_sim.proofs.replica.Replica.hear.Goals as goal

pub loop-preserved : goal.loop-preserved
loop-preserved c =
    let n : 32 - (c.loop.counter + 1) ≡ 32 - c.loop.counter - 1 = omega arith in
    let room : 0 < 32 - c.loop.counter = omega arith in
    let at : next_of c.loop.self ≡ Some c.in-Some.next.now = sym c.in-Some.ensures in
    ap (λ k. pushes k c.push.new.self) n ∙ (ap (pushes (32 - c.loop.counter - 1)) (c.in_ok-push.ensures ∙ ap (push c.loop.self) c.in_ok-next.ensures) ∙ (sym (pushes_more (32 - c.loop.counter) c.loop.self c.in-Some.next.now room at) ∙ c.loop.invariant))

pub returns-after-loop : goal.returns-after-loop
returns-after-loop c =
    let heard = sym (pushes_spent (32 - c.loop.counter) c.loop.self (omega arith)) ∙ c.loop.invariant in
    record {
      heard = heard;
      rest = ap next_of heard ∙ pushes_end 32 (keep c.args.self.now c.args.request) (omega arith);
    }

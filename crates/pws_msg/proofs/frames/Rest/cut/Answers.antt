use Rattle.std.proofs.Common.{◌≡◌, ◌≤◌, ◌+◌, ◌++◌, ◌∷◌, [], List, ℕ, length, take, drop, arith, subst, ap, ◌∙◌}
use Rattle.pws_msg.specs.Pieces.{StepsTo}
use Rattle.pws_msg.specs.declared.frames.Step.{Step}
use Rattle.pws_msg.specs.declared.frames.Step.TheVariants as step
use Rattle.pws_msg.specs.Frames.{IsStream}
use Rattle.pws_msg.proofs.Streams.{step_more, step_whole, step_bad, steps_rest}
use Rattle.pws_msg.proofs.frames.Rest.cut.Goals as goal

pub loop-at-preserved-in-More : goal.loop-at-preserved-in-More
loop-at-preserved-in-More c =
    let P : Step → Type 0 = λ s. StepsTo s (c.loop-at.self ++ take c.in_ok-taken.taken.count (drop c.loop-at.at c.args.piece.now)) c.take.new.self in
    record {
      within = omega (arith, c.in_ok-taken.ensures.count);
      stream = step_more c.args.self.now c.args.piece.now c.loop-at.self c.loop-at.whole c.loop-at.at c.in_ok-taken.taken.count c.take.new.self c.loop-at.invariant.stream (subst P c.in-More.is (steps_rest c.in_ok-taken.taken.step c.loop-at.self c.args.piece.now c.loop-at.at c.in_ok-taken.taken.count c.take.new.self c.in_ok-taken.ensures.step));
    }

pub loop-at-preserved : goal.loop-at-preserved
loop-at-preserved c =
    let P : Step → Type 0 = λ s. StepsTo s (c.loop-at.self ++ take c.in_ok-taken.taken.count (drop c.loop-at.at c.args.piece.now)) c.take.new.self in
    let s : IsStream (c.args.self.now ++ take (c.loop-at.at + c.in_ok-taken.taken.count) c.args.piece.now) (c.loop-at.whole ++ c.in-Whole.packet ∷ []) c.take.new.self = step_whole c.args.self.now c.args.piece.now c.loop-at.self c.loop-at.whole c.loop-at.at c.in_ok-taken.taken.count c.in-Whole.packet c.take.new.self c.loop-at.invariant.stream (subst P c.in-Whole.is (steps_rest c.in_ok-taken.taken.step c.loop-at.self c.args.piece.now c.loop-at.at c.in_ok-taken.taken.count c.take.new.self c.in_ok-taken.ensures.step)) in
    record {
      within = omega (arith, c.in_ok-taken.ensures.count);
      stream = rw c.in_ok-push-in-Whole.ensures.ok (rw c.in-Whole.packet-is s);
    }

pub returns-in-Bad-clause-cut : goal.returns-in-Bad-clause-cut
returns-in-Bad-clause-cut c =
    let P : Step → Type 0 = λ s. StepsTo s (c.loop-at.self ++ take c.in_ok-taken.taken.count (drop c.loop-at.at c.args.piece.now)) c.take.new.self in
    let w : c.loop-at.at + c.in_ok-taken.taken.count ≤ length c.args.piece.now = omega (arith, c.in_ok-taken.ensures.count) in
    step_bad c.args.self.now c.args.piece.now c.loop-at.self c.loop-at.whole c.loop-at.at c.in_ok-taken.taken.count c.take.new.self c.loop-at.invariant.stream w (subst P c.in-Bad.is (steps_rest c.in_ok-taken.taken.step c.loop-at.self c.args.piece.now c.loop-at.at c.in_ok-taken.taken.count c.take.new.self c.in_ok-taken.ensures.step))

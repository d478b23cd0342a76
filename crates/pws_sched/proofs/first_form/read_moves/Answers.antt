use Rattle.std.proofs.Common.{rules}
use Rattle.pws_sched.proofs.Moves.{continues_said, continues_past_end, continues_one}
use Rattle.pws_sched.proofs.first_form.read_moves.Goals as goal

pub loop-line-preserved : goal.loop-line-preserved
loop-line-preserved c = rw c.in_ok-push.ensures.items (continues_said _ c.loop-line.requests.items c.in_ok-read_say.field-0 _ _ _ c.in-Some.ensures.lines ((search rules)) c.in_ok-read_say.ensures c.loop-line.invariant)

pub returns-then-eq : goal.returns-then-eq
returns-then-eq c = continues_past_end _ _ _ _ c.in-Some.others.now c.in-Some.ensures.lines ((search rules)) ((search rules)) c.loop-line.invariant

pub returns : goal.returns
returns c = continues_one _ _ _ _ c.in_default.ensures.lines c.loop-line.invariant

use Rattle.std.proofs.Common.{◌∙◌}
use Rattle.pws_event.specs.declared.readings.Share.{Share}
use Rattle.pws_event.specs.EventFields.{share_at}
use Rattle.pws_event.proofs.Rising.{more}
use Rattle.pws_event.proofs.parsing.read_shares.Goals as goal

pub loop-preserved : goal.loop-preserved
loop-preserved c = rw c.in_ok-push.ensures.ok (c.loop.invariant ∙ more share_at (λ (s : Share). s.index) c.loop.shares c.args.count c.loop.counter c.loop.least c.loop.fields c.read_share.new.fields c.in_ok-share.share c.loop-test.true c.in_ok-share.ensures.read)

use Rattle.std.proofs.Common.{◌<◌, ◌^◌, ◌∙◌}
use Rattle.std.proofs.lemmas.List.Elements.{All-push}
use Rattle.pws_event.specs.declared.readings.Reading.{Reading}
use Rattle.pws_event.specs.EventFields.{reading_at}
use Rattle.pws_event.proofs.Rising.{more}
use Rattle.pws_event.proofs.parsing.read_readings.Goals as goal

pub loop-preserved : goal.loop-preserved
loop-preserved c = rw c.in_ok-push.ensures.ok (c.loop.invariant.0 ∙ more reading_at (λ (r : Reading). r.index) c.loop.readings c.args.count c.loop.counter c.loop.least c.loop.fields c.read_reading.new.fields c.in_ok-reading.reading c.loop-test.true c.in_ok-reading.ensures.read, All-push (λ (r : Reading). r.ms < 2 ^ 64) c.loop.readings c.in_ok-reading.reading c.loop.invariant.1 c.in_ok-reading.ensures.time)

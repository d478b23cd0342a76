use Rattle.std.proofs.Common.{[]}
use Rattle.pws_mark.specs.Least.{lowered}
use Rattle.pws_mark.specs.Seen.{finds_behind}
use Rattle.pws_mark.proofs.SeenNames.{noted_step, noted_all}
use Rattle.pws_mark.proofs.tags.note_attributes.Goals as goal

pub loop-i-preserved : goal.loop-i-preserved
loop-i-preserved c =
    noted_step c.args.inside.now c.args.attributes.now c.loop-i.i c.index-attributes-i.result c.loop-i.seen c.note_attribute.new.seen c.loop-i.least c.note_attribute.new.least (lowered c.args.least.now (finds_behind c.args.inside.now [] c.args.attributes.now))
    c.loop-i-test.true c.index-attributes-i.is c.loop-i.invariant c.in_ok-note_attribute.ensures.least c.in_ok-note_attribute.ensures.seen

pub returns : goal.returns
returns c = noted_all c.args.inside.now c.args.attributes.now c.loop-i.i c.loop-i.seen c.loop-i.least (lowered c.args.least.now (finds_behind c.args.inside.now [] c.args.attributes.now)) c.loop-i-test.false c.loop-i.invariant

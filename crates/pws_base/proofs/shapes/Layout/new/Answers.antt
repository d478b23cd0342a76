use Rattle.std.proofs.Common.{arith, ◌<◌, ◌≡◌, length, get_or}
use Rattle.std.proofs.lemmas.List.{length-set}
use Rattle.pws_base.proofs.Stored.{front_more, rest_more, small_more}
use Rattle.pws_base.proofs.shapes.Layout.new.Goals as goal

pub loop-i-preserved : goal.loop-i-preserved
loop-i-preserved c =
    let l = c.loop-i in
    let inside : l.i < length l.faults = omega (arith, l.invariant.sixteen) in
    let same : c.f.result ≡ get_or c.args.shapes.now l.i c.f.result = cc (c.index-shapes-i.is, c.f.ensures.value) in
    record {
      sixteen = rw length-set l.invariant.sixteen;
      front = front_more l.faults c.args.shapes.now l.i c.f.result inside c.loop-i-test.true same l.invariant.front;
      rest = rest_more l.faults l.i c.f.result 16 l.invariant.rest;
      small = small_more l.faults l.i c.f.result 3 c.f.ensures.few l.invariant.small;
    }

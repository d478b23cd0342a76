use Rattle.std.proofs.Common.{◌<◌, length, rules, arith}
use Rattle.std.proofs.lemmas.List.Edits.{map_over_more}
use Rattle.pws_driver.specs.Places.{lowered}
use Rattle.pws_driver.proofs.untaken.lower.Goals as goal

pub loop-i-preserved : goal.loop-i-preserved
loop-i-preserved c =
    let lt : c.loop-i.i < length c.args.places.now.items = first_of (search rules, omega (arith, c.loop-i-test.true, c.len-i-end.ensures)) in
    rw c.lowered.ensures (map_over_more (lowered c.args.place) c.args.places.now.items c.loop-i.places.items c.loop-i.i c.index.result.now lt c.loop-i.invariant c.index.ensures)

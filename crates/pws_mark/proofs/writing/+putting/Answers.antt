use Rattle.std.proofs.Common.{arith}
use Rattle.pws_mark.proofs.Walks.{child_falls}
use Rattle.pws_mark.proofs.writing.+putting.Goals as goal

pub put_children-put_child-requires : goal.put_children-put_child-requires
put_children-put_child-requires t c = (omega (arith, child_falls c.children-child-items.result.now c.loop-child.child-index c.child-item.result c.args.element.now c.children-child-items.ensures c.child-item.is c.loop-child-test.true), tt)

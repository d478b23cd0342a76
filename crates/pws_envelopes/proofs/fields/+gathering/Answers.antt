use Rattle.std.proofs.Common.{arith}
use Rattle.pws_envelopes.proofs.FieldTexts.{child_falls, child_lawful}
use Rattle.pws_envelopes.proofs.fields.+gathering.Goals as goal

pub put_texts-put_child-requires : goal.put_texts-put_child-requires
put_texts-put_child-requires t c = (
  omega (arith, child_falls c.children-child-items.result.now c.loop-child.child-index c.child-item.result c.args.element.now c.children-child-items.ensures c.child-item.is c.loop-child-test.true),
  child_lawful c.children-child-items.result.now c.loop-child.child-index c.child-item.result c.args.element.now c.depth-depth.ensures.lawful c.children-child-items.ensures c.child-item.is c.loop-child-test.true,
)

use Rattle.pws_mark.proofs.Declared.{declared_more}
use Rattle.pws_mark.proofs.tags.scope_of.Goals as goal

pub loop-attribute-preserved : goal.loop-attribute-preserved
loop-attribute-preserved c =
    declared_more c.args.attributes.now c.loop-attribute.attribute-index c.attribute-item.result c.loop-attribute.scope c.declare.new.scope
    c.loop-attribute-test.true c.attribute-item.is c.loop-attribute.invariant c.in_ok-declare.ensures

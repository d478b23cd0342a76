use Rattle.pws_mark.proofs.Declared.{attrs_more}
use Rattle.pws_mark.proofs.tags.attrs_of.Goals as goal

pub loop-attribute-preserved : goal.loop-attribute-preserved
loop-attribute-preserved c =
    attrs_more c.args.inside.now c.args.attributes.now c.loop-attribute.attribute-index c.attribute-item.result c.loop-attribute.attrs c.add_attr.new.attrs
    c.loop-attribute-test.true c.attribute-item.is c.loop-attribute.invariant c.in_ok-add_attr.ensures

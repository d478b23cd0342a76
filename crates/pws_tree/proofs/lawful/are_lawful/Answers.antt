use Rattle.pws_tree.proofs.Children.{lawful_fails, lawful_goes_on}
use Rattle.pws_tree.proofs.lawful.are_lawful.Goals as goal

pub returns-then-not-may_follow : goal.returns-then-not-may_follow
returns-then-not-may_follow c = lawful_fails _ _ _ _ _ c.child-item.is c.loop-child-test.true c.may_follow.ensures c.loop-child.invariant c.if-not-may_follow.true

pub loop-child-preserved : goal.loop-child-preserved
loop-child-preserved c = lawful_goes_on _ _ _ _ _ _ c.child-item.is c.loop-child-test.true c.may_follow.ensures c.loop-child.invariant c.if-not-may_follow.false c.is_text-after_text.ensures

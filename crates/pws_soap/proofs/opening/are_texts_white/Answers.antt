use Rattle.pws_soap.proofs.Elements.{white_fails, white_goes_on}
use Rattle.pws_soap.proofs.opening.are_texts_white.Goals as goal

pub returns-then-not-is_text_white : goal.returns-then-not-is_text_white
returns-then-not-is_text_white c = white_fails _ _ _ _ c.child-item.is c.loop-child-test.true c.is_text_white.ensures c.loop-child.invariant c.if-not-is_text_white.true

pub loop-child-preserved : goal.loop-child-preserved
loop-child-preserved c = white_goes_on _ _ _ _ c.child-item.is c.loop-child-test.true c.is_text_white.ensures c.loop-child.invariant c.if-not-is_text_white.false

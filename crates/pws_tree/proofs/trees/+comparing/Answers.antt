use Rattle.std.proofs.Common.{ap}
use Rattle.pws_tree.proofs.Same.{same_length, same_child}
use Rattle.pws_tree.proofs.trees.+comparing.Goals as goal

pub Element::same-returns-then-children-others : goal.Element::same-returns-then-children-others
Element::same-returns-then-children-others t c = ((λ h. cc), λ e. absurd (c.if-children-others.true (same_length c.as_slice-children.result.now c.as_slice-others.result.now c.args.self.now c.args.other.now (rw c.as_slice-children.ensures.value (ap (λ z. z.children) c.self.view_is)) (rw c.as_slice-others.ensures.value (ap (λ z. z.children) c.other.view_is)) e)))

pub Element::same-returns-then-not-same : goal.Element::same-returns-then-not-same
Element::same-returns-then-not-same t c = ((λ h. cc), λ e. rw c.if-not-same.true at (c.same.ensures.1 (same_child c.as_slice-children.result.now c.as_slice-others.result.now c.args.self.now c.args.other.now c.loop-i.i _ _ (rw c.as_slice-children.ensures.value (ap (λ z. z.children) c.self.view_is)) (rw c.as_slice-others.ensures.value (ap (λ z. z.children) c.other.view_is)) c.loop-i-test.true c.index-children-i.is c.index-others-i.is e)))

use Rattle.std.proofs.Common.{◌≡◌, take}
use Rattle.pws_tree.proofs.trees.+copying.Given as goal

abbrev pub invariant-ElementExactCopy::copy-loop-child :
    goal.invariant-ElementExactCopy::copy-loop-child
invariant-ElementExactCopy::copy-loop-child l = l.children.items ≡ take l.child-index l.child-items

use Rattle.std.proofs.Common.{◌≡◌, take}
use Rattle.pws_tree.proofs.trees.+comparing.Given as goal

abbrev pub invariant-Element::same-loop-i : goal.invariant-Element::same-loop-i
invariant-Element::same-loop-i l = take l.i l.children ≡ take l.i l.others

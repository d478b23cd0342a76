use Rattle.std.proofs.Common.{arith, ◌≤◌, ◌+◌}
use Rattle.pws_tree.specs.Lawful.{levels}
use Rattle.pws_tree.specs.Nodes.{nodes_of}
use Rattle.pws_tree.proofs.Same.{parts_hold, not_deep}
use Rattle.pws_tree.proofs.trees.Element.make.Goals as goal

pub returns-then-depth-gt64 : goal.returns-then-depth-gt64
returns-then-depth-gt64 c = λ t made lawful.
    let few : levels (nodes_of c.args.children.items) + 1 ≤ 64 = not_deep _ _ _ t made lawful in
    let deep = rw c.as_slice.ensures.value at c.levels-depth.ensures.value in
    omega (arith, few, deep, c.if-depth-gt64.true)

pub returns-then-not-are_lawful_parts : goal.returns-then-not-are_lawful_parts
returns-then-not-are_lawful_parts c = λ t made lawful.
    let held = parts_hold _ _ _ _ t c.sort_unstable.ensures.permutation c.sort_unstable.ensures.sorted made lawful in
    let found = rw (c.as_slice-2.ensures.value, c.as_slice-3.ensures.value) at c.are_lawful_parts.ensures in
    cc (held, found, c.if-not-are_lawful_parts.true)

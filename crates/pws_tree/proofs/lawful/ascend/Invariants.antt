use Rattle.std.proofs.Common.{◌≡◌, length}
use Rattle.pws_tree.specs.Names.{ascend}
use Rattle.pws_tree.proofs.lawful.ascend.Given as goal

abbrev pub invariant-loop-rest : goal.invariant-loop-rest
invariant-loop-rest l = ascend l.attrs ≡ ascend l.rest

abbrev pub decreases-loop-rest : goal.decreases-loop-rest
decreases-loop-rest l = length l.rest

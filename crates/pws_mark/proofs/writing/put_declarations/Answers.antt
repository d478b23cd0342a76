use Rattle.std.proofs.Common.{◌∙◌}
use Rattle.pws_mark.proofs.Walks.{declare_step, declare_none}
use Rattle.pws_mark.proofs.writing.put_declarations.Goals as goal
use Rattle.pws_mark.proofs.writing.put_declarations.Goals.{in-Some+in_ok-put_declaration-in-Some, in-None}

pub loop-place-preserved : goal.loop-place-preserved
loop-place-preserved c = elim c.match-get.branch [
  | in-Some+in_ok-put_declaration-in-Some w ↦ declare_step c.args.spaces.now c.loop-place.place _ _ _ _ w.in-Some.ensures (w.out-is ∙ w.in_ok-put_declaration-in-Some.ensures) c.loop-place.invariant
  | in-None w ↦ declare_none c.args.spaces.now c.loop-place.place _ _ _ w.in-None.ensures w.out-is c.loop-place.invariant
]

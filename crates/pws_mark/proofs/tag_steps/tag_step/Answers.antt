use Rattle.std.proofs.Common.{sym}
use Rattle.pws_mark.specs.Noted.{start_finds}
use Rattle.pws_mark.proofs.TagSteps.{quiet_white, quiet_slash}
use Rattle.pws_mark.proofs.tag_steps.tag_step.Goals as goal

pub returns-then-is_white-clause-notes : goal.returns-then-is_white-clause-notes
returns-then-is_white-clause-notes c =
    quiet_white c.args.least.now c.args.c (start_finds c.args.outer.now c.args.tag) (sym c.if-is_white.ensures)

pub returns-then-c-eq47-clause-notes : goal.returns-then-c-eq47-clause-notes
returns-then-c-eq47-clause-notes c =
    quiet_slash c.args.least.now c.args.c (start_finds c.args.outer.now c.args.tag) c.if-c-eq47.true

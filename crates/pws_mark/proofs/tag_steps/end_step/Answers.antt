use Rattle.std.proofs.Common.{sym}
use Rattle.pws_mark.specs.Noted.{end_finds}
use Rattle.pws_mark.proofs.TagSteps.{quiet_white}
use Rattle.pws_mark.proofs.tag_steps.end_step.Goals as goal

pub returns-then-is_white-clause-notes : goal.returns-then-is_white-clause-notes
returns-then-is_white-clause-notes c =
    quiet_white c.args.least.now c.args.c (end_finds c.args.outer.now.opens) (sym c.if-is_white.ensures)

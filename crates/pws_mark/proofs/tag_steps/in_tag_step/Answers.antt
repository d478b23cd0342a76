use Rattle.std.proofs.Common.{sym}
use Rattle.pws_mark.specs.Noted.{start_finds}
use Rattle.pws_mark.proofs.TagSteps.{quiet_start}
use Rattle.pws_mark.proofs.tag_steps.in_tag_step.Goals as goal

pub returns-then-is_name_start-clause-notes : goal.returns-then-is_name_start-clause-notes
returns-then-is_name_start-clause-notes c =
    quiet_start c.args.least.now c.args.c (start_finds c.args.outer.now c.args.tag) (sym c.if-is_name_start.ensures)

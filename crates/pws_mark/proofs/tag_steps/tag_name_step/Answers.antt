use Rattle.std.proofs.Common.{sym}
use Rattle.pws_mark.specs.Noted.{start_finds}
use Rattle.pws_mark.proofs.TagSteps.{quiet_start, quiet_name, quiet_colon}
use Rattle.pws_mark.proofs.tag_steps.tag_name_step.Goals as goal

pub returns-then-is_name_start-clause-notes : goal.returns-then-is_name_start-clause-notes
returns-then-is_name_start-clause-notes c =
    quiet_start c.args.least.now c.args.c (start_finds c.args.outer.now c.args.tag) (sym c.if-is_name_start.ensures)

pub returns-then-is_name_char-clause-notes : goal.returns-then-is_name_char-clause-notes
returns-then-is_name_char-clause-notes c =
    quiet_name c.args.least.now c.args.c (start_finds c.args.outer.now c.args.tag) (sym c.if-is_name_char.ensures)

pub returns-then-c-eq58-clause-notes : goal.returns-then-c-eq58-clause-notes
returns-then-c-eq58-clause-notes c =
    quiet_colon c.args.least.now c.args.c (start_finds c.args.outer.now c.args.tag) c.if-c-eq58.true

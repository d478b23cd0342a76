use Rattle.std.proofs.Common.{sym, [], ◌==◌, if◌then◌else◌}
use Rattle.pws_mark.specs.Noted.{end_finds}
use Rattle.pws_mark.specs.Scan.{name_has}
use Rattle.pws_mark.proofs.TagSteps.{quiet_more}
use Rattle.pws_mark.proofs.tag_steps.end_name_step.Goals as goal

pub returns-then-has_at-clause-notes : goal.returns-then-has_at-clause-notes
returns-then-has_at-clause-notes c =
    quiet_more c.args.least.now (name_has c.args.outer.now.opens c.args.count c.args.c) (if c.args.c == 62 then end_finds c.args.outer.now.opens else []) (sym c.if-has_at.ensures.value)

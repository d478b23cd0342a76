use Rattle.std.proofs.Common.{rules, sym, ◌∙◌}
use Rattle.pws_sched.proofs.Lines.{lines_of_none, lines_of_cut}
use Rattle.pws_sched.proofs.first_form.split_line.Goals as goal

pub returns-in_err-at-clause-lines : goal.returns-in_err-at-clause-lines
returns-in_err-at-clause-lines c = rw c.from_residual.ensures (lines_of_none c.args.text.now (sym c.find_line_feed.ensures ∙ c.in_err-at.was))

pub returns-clause-lines : goal.returns-clause-lines
returns-clause-lines c = lines_of_cut c.args.text.now c.in_ok-at.at (search rules)

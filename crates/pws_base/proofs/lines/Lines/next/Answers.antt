use Rattle.std.proofs.Common.{sym, ◌∙◌}
use Rattle.pws_base.proofs.LineLemmas.{lines_none, lines_cut_part, lines_last}
use Rattle.pws_base.proofs.PieceLemmas.{cut_plain, whole_plain}
use Rattle.pws_base.proofs.lines.Lines.next.Goals as goal

pub returns-then-is_empty-clause-next : goal.returns-then-is_empty-clause-next
returns-then-is_empty-clause-next c = sym c.self.view_is ∙ lines_none c.self.inside.rest.now (sym c.is_empty.ensures ∙ c.if-is_empty.true)

pub returns-in-Some-clause-next : goal.returns-in-Some-clause-next
returns-in-Some-clause-next c = sym c.self.view_is ∙ lines_cut_part c.self.inside.rest.now c.in-Some.at (sym c.line_feed.ensures ∙ c.in-Some.is)

pub returns-in-Some-clause-line : goal.returns-in-Some-clause-line
returns-in-Some-clause-line c = cut_plain c.self.inside.rest.now c.in-Some.at (sym c.line_feed.ensures ∙ c.in-Some.is)

pub returns-in-None-clause-next : goal.returns-in-None-clause-next
returns-in-None-clause-next c = sym c.self.view_is ∙ lines_last c.self.inside.rest.now (sym c.line_feed.ensures ∙ c.in-None.is) (sym c.is_empty.ensures ∙ c.if-is_empty.false)

pub returns-in-None-clause-line : goal.returns-in-None-clause-line
returns-in-None-clause-line c = whole_plain c.self.inside.rest.now (sym c.line_feed.ensures ∙ c.in-None.is)

use Rattle.std.proofs.Common.{sym, ◌∙◌}
use Rattle.pws_tree.proofs.Passing.{name_by_first, no_name}
use Rattle.pws_tree.proofs.characters.is_local_name.Goals as goal

pub returns-then-is_name_start : goal.returns-then-is_name_start
returns-then-is_name_start c = let e = name_by_first _ _ _ c.in-Some.first _ c.utf8.text c.chars-rest.ensures.rest c.in-Some.ensures.steps.0 c.if-is_name_start.ensures in rw (c.are_name_chars.ensures, c.as_str.ensures) (sym e)

pub returns-else-is_name_start : goal.returns-else-is_name_start
returns-else-is_name_start c = let e = name_by_first _ _ _ c.in-Some.first _ c.utf8.text c.chars-rest.ensures.rest c.in-Some.ensures.steps.0 c.if-is_name_start.ensures in c.if-is_name_start.false ∙ sym e

pub returns-in-None : goal.returns-in-None
returns-in-None c = no_name _ _ c.utf8.text c.chars-rest.ensures.rest c.in-None.ensures.steps.0.0

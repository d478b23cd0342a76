use Rattle.std.proofs.Common.{sym, ◌∙◌}
use Rattle.std.proofs.lemmas.Bool.{ne_eqb, eq-eqb}
use Rattle.pws_tree.proofs.Children.{one_qualified_is}
use Rattle.pws_tree.proofs.lawful.is_one_qualified.Goals as goal

pub returns-then-children-eq1 : goal.returns-then-children-eq1
returns-then-children-eq1 c = c.has_qualified.ensures ∙ sym (rw (eq-eqb _ _ c.if-children-eq1.true) at (one_qualified_is c.args.children.now))

pub returns-else-children-eq1 : goal.returns-else-children-eq1
returns-else-children-eq1 c = ne_eqb _ _ c.if-children-eq1.false ∙ sym (rw (ne_eqb _ _ c.if-children-eq1.false) at (one_qualified_is c.args.children.now))

use Rattle.std.proofs.Common.{IsTrue, sym, subst}
use Rattle.pws_tree.specs.Lawful.{is_lawful}
use Rattle.pws_tree.proofs.Sorted.{sorted_lawful}
use Rattle.pws_tree.proofs.trees.Element.of_parts.Goals as goal

pub of_lawful-requires : goal.of_lawful-requires
of_lawful-requires c = sorted_lawful c.args.name c.args.attrs.items c.sort_unstable.new.self.items c.args.children.items c.sort_unstable.ensures.permutation c.sort_unstable.ensures.sorted c.requires

pub returns-clause-lawful : goal.returns-clause-lawful
returns-clause-lawful c = subst (λ t. IsTrue (is_lawful t)) (sym c.of_lawful.ensures) (sorted_lawful c.args.name c.args.attrs.items c.sort_unstable.new.self.items c.args.children.items c.sort_unstable.ensures.permutation c.sort_unstable.ensures.sorted c.requires)

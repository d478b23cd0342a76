use Rattle.std.proofs.Common.{◌∙◌, ap, sym, ◌++◌}
use Rattle.pws_mark.specs.Levels.{declared_at}
use Rattle.pws_mark.proofs.Levels.{finds_popped}
use Rattle.pws_mark.proofs.scopes.Opens.pop.Goals as goal

pub invariant_of-self : goal.invariant_of-self
invariant_of-self c = (
  c.self.invariant.0,
  finds_popped c.self.inside.levels c.drop_levels.new.levels c.self.inside.items.items c.pop.new.self.items c.in-Some.element c.self.invariant.1 c.in-Some.ensures.items
      (λ prefix rest level h. c.drop_levels.ensures prefix rest level (h ∙ ap (λ m. rest ++ declared_at level m prefix) (sym c.as_slice.ensures))),
)

use Rattle.pws_mark.proofs.Levels.{finds_pushed}
use Rattle.pws_mark.proofs.scopes.Opens.push.Goals as goal

pub invariant_of-self : goal.invariant_of-self
invariant_of-self c =
    (c.self.invariant.0, finds_pushed c.self.inside.levels c.add_element.new.levels c.self.inside.items.items c.add_element.new.items.items c.args.element c.self.invariant.1 c.in-Ok.ensures.items c.in-Ok.ensures.levels)

use Rattle.std.proofs.Common.{◌<◌, ◌∙◌, ap, length, arith}
use Rattle.pws_mark.specs.Bindings.{space_at}
use Rattle.pws_mark.specs.States.{bound_at}
use Rattle.pws_mark.proofs.Levels.{level_within, level_space, level_none}
use Rattle.pws_mark.proofs.scopes.Opens.space_at.Goals as goal

pub index-requires : goal.index-requires
index-requires c =
    let within : c.in-Some.level < length c.self.inside.items.items = level_within c.self.inside.levels c.self.inside.items.items c.self.invariant.1 c.args.prefix.now c.in-Some.level c.in-Some.ensures in
    omega (arith, within, c.self.inside.items.ok.0)

pub returns-in-Some : goal.returns-in-Some
returns-in-Some c =
    c.space_at.ensures
    ∙ (level_space c.self.inside.levels c.self.inside.items.items c.self.invariant.1 c.args.prefix.now c.in-Some.level c.index.result.now c.in-Some.ensures c.index.ensures
    ∙ ap (λ o. space_at (bound_at o) c.args.prefix.now) c.self.view_is)

pub returns-in-None : goal.returns-in-None
returns-in-None c =
    c.outermost_at.ensures
    ∙ (level_none c.self.inside.levels c.self.inside.items.items c.self.invariant.1 c.args.prefix.now c.in-None.ensures
    ∙ ap (λ o. space_at (bound_at o) c.args.prefix.now) c.self.view_is)

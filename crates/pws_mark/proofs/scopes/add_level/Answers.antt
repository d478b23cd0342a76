use Rattle.std.proofs.Common.{◌∙◌, ap, [], ◌∷◌, ◌++◌}
use Rattle.pws_mark.proofs.Levels.{added_at}
use Rattle.pws_mark.proofs.scopes.add_level.Goals as goal

pub returns : goal.returns
returns c = λ other.
    added_at c.args.levels.now c.take_levels-stack.new.levels c.put.new.values c.args.prefix.now c.push.new.self c.args.level c.take_levels-stack.ensures.others
    (c.in_ok-push.ensures.items ∙ ap (λ z. z ++ c.args.level ∷ []) c.take_levels-stack.ensures.taken)
    c.in_ok-put.ensures other

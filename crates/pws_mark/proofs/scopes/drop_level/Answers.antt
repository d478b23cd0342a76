use Rattle.std.proofs.Common.{◌∙◌, ap, ◌-◌, take, rules}
use Rattle.pws_mark.proofs.Levels.{dropped_at}
use Rattle.pws_mark.proofs.scopes.drop_level.Goals as goal

pub returns-in-Some : goal.returns-in-Some
returns-in-Some c = λ other.
    dropped_at c.args.levels.now (c.get_mut.follows.lender c.pop-last.new.self) c.args.prefix.now c.in-Some.stack.now c.pop-last.new.self c.in-Some.ensures.value
    ((c.get_mut.follows.holds c.pop-last.new.self).3 (search rules))
    (c.pop-last.ensures.rest ∙ ap (λ n. take (n - 1) c.in-Some.stack.now.items) c.in-Some.stack.now.ok.0) other

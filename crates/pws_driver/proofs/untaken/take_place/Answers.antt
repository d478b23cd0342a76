use Rattle.std.proofs.Common.{rules, not, ◌==◌}
use Rattle.std.proofs.lemmas.Fn.{filter_same}
use Rattle.pws_driver.proofs.untaken.take_place.Goals as goal

pub returns : goal.returns
returns c = filter_same _ (λ p. not (c.args.place == p)) _ (λ x b f h. (search rules, search rules)) _ _ c.retain.ensures.filtered

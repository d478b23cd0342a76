use Rattle.std.proofs.Common.{rules, not}
use Rattle.std.proofs.lemmas.Fn.{filter_same}
use Rattle.pws_service.specs.Keys.{same_key}
use Rattle.pws_driver.proofs.keys.Keys.remove.Goals as goal

pub returns : goal.returns
returns c = rw (← c.self.view_is) (filter_same _ (λ other. not (same_key c.args.key other)) _ (λ x b f h. (search rules, search rules)) _ _ c.retain.ensures.filtered)

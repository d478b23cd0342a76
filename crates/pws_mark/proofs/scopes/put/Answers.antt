use Rattle.std.proofs.Common.{◌∙◌, ap, if◌then◌else◌, Some}
use Rattle.std.specs.Str.{bytes_eq}
use Rattle.pws_mark.specs.Prefixes.{value_at}
use Rattle.pws_mark.proofs.Prefixes.{update_at}
use Rattle.pws_mark.proofs.scopes.put.Goals as goal

pub returns : goal.returns
returns g c = λ other.
    update_at c.args.values.now c.insert.new.self c.into_vec-key.result.items (Some c.args.value) c.in_ok-insert.ensures.updates other
    ∙ ap (λ p. if bytes_eq p other then Some c.args.value else value_at c.args.values.now other) (c.into_vec-key.ensures ∙ c.in_ok-letters_of.ensures)

use Rattle.std.proofs.Common.{sym, ◌∙◌, ap, is_some}
use Rattle.std.specs.FinMap.{contains_key}
use Rattle.pws_protocol.proofs.Keyed.{keys_are_ordered}
use Rattle.pws_evidence.proofs.Maps.{get_is}
use Rattle.pws_evidence.proofs.stores.Evidence.has_body.Goals as goal

pub returns : goal.returns
returns c =
    c.contains_key.ensures ∙ ap is_some (sym (get_is keys_are_ordered.bodies c.self.inside.bodies.entries c.args.key.now))
    ∙ ap (λ e. contains_key e.bodies c.args.key.now) c.self.view_is

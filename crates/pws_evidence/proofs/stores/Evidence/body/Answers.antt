use Rattle.std.proofs.Common.{sym, ◌∙◌, ap, Some}
use Rattle.std.specs.FinMap.{get}
use Rattle.pws_protocol.proofs.Keyed.{keys_are_ordered}
use Rattle.pws_evidence.proofs.Maps.{get_is}
use Rattle.pws_evidence.proofs.stores.Evidence.body.Goals as goal

pub returns-in-Some-clause-value : goal.returns-in-Some-clause-value
returns-in-Some-clause-value c =
    ap Some c.as_slice.ensures.value ∙ c.in-Some.ensures.value ∙ sym (get_is keys_are_ordered.bodies c.self.inside.bodies.entries c.args.key.now)
    ∙ ap (λ e. get e.bodies c.args.key.now) c.self.view_is

pub returns-in-None-clause-value : goal.returns-in-None-clause-value
returns-in-None-clause-value c =
    c.in-None.ensures.value ∙ sym (get_is keys_are_ordered.bodies c.self.inside.bodies.entries c.args.key.now)
    ∙ ap (λ e. get e.bodies c.args.key.now) c.self.view_is

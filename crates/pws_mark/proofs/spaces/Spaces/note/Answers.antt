use Rattle.std.proofs.Common.{ap, sym, ◌∙◌}
use Rattle.pws_mark.specs.Canonical.{with_space}
use Rattle.pws_mark.proofs.Keys.{texts_of, keys_noted}
use Rattle.pws_mark.proofs.spaces.Spaces.note.Goals as goal

pub returns-in_ok-insert : goal.returns-in_ok-insert
returns-in_ok-insert c = ap texts_of c.in_ok-insert.ensures.keys ∙ (keys_noted c.self.inside.used.keys c.args.space (sym c.needs_prefix.ensures ∙ c.if-needs_prefix.true) ∙ ap (λ z. with_space z c.args.space.now) c.self.view_is)

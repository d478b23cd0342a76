use Rattle.std.proofs.Common.{◌∙◌, sym, ap}
use Rattle.std.specs.FinMap.{get}
use Rattle.pws_auth.proofs.Found.{none_with_itself, key_of_pair}
use Rattle.pws_auth.proofs.Maps.{get_is}
use Rattle.pws_auth.proofs.tables.KeyTable.key.Goals as goal

pub returns-then-eq : goal.returns-then-eq
returns-then-eq c = none_with_itself c.args.self.now c.args.a c.args.b (sym c.eq.ensures ∙ c.if-eq.true)

pub returns : goal.returns
returns c =
    c.get.ensures.value ∙ sym (get_is c.self.inside.keys.entries c.of.result)
    ∙ ap (λ t. get t.keys c.of.result) c.self.view_is
    ∙ ap (get c.args.self.now.keys) c.of.ensures
    ∙ key_of_pair c.args.self.now c.args.a c.args.b (sym c.eq.ensures ∙ c.if-eq.false)

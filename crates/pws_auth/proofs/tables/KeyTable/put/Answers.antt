use Rattle.std.proofs.Common.{◌∙◌, ap}
use Rattle.std.specs.FinMap.{insert}
use Rattle.pws_auth.proofs.Maps.{inserted}
use Rattle.pws_auth.proofs.tables.KeyTable.put.Goals as goal

pub returns-clause-keys : goal.returns-clause-keys
returns-clause-keys c =
    inserted c.self.inside.keys.entries c.insert.new.self.entries c.args.pair c.args.key c.in_ok-_before.ensures.updates.0
    ∙ ap (λ t. insert t.keys c.args.pair c.args.key) c.self.view_is

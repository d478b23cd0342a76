use Rattle.std.proofs.Common.{◌∙◌, ap}
use Rattle.pws_protocol.specs.Keys.{statement_key}
use Rattle.pws_protocol.specs.Evidence.{first_of}
use Rattle.pws_evidence.proofs.Compared.{statement_found}
use Rattle.pws_evidence.proofs.stores.Evidence.first_of.Goals as goal

pub returns-clause-value : goal.returns-clause-value
returns-clause-value c =
    c.get.ensures.value ∙ statement_found c.self.inside.statements.entries (statement_key c.args.sender c.args.matter)
    ∙ ap (λ e. first_of e c.args.sender c.args.matter) c.self.view_is

use Rattle.std.proofs.Common.{◌∙◌, ap}
use Rattle.pws_evidence.specs.Stores.{without_statement}
use Rattle.pws_evidence.proofs.Stored.{put_and_taken}
use Rattle.pws_evidence.proofs.stores.Evidence.put_both.Goals as goal

pub returns-in-Err-clause-err : goal.returns-in-Err-clause-err
returns-in-Err-clause-err c =
    c.take_back.ensures
    ∙ (ap (λ e. without_statement e c.args.key) (c.in-Err.ensures.err ∙ c.in_ok-put_statement.ensures.ok)
    ∙ put_and_taken c.args.self.now c.args.key c.args.statement c.requires.first)

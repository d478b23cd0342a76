use Rattle.std.proofs.Common.{◌∙◌}
use Rattle.pws_evidence.proofs.Compared.{put_is}
use Rattle.pws_evidence.proofs.copying.put_statement.Goals as goal

pub returns : goal.returns
returns c = c.in_ok-_before.ensures.entries ∙ put_is c.args.statements.now.entries c.args.key c.args.statement

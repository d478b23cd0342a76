use Rattle.std.proofs.Common.{◌∙◌, sym}
use Rattle.pws_auth.proofs.Puts.{put_is}
use Rattle.pws_auth.proofs.tables.KeyTable.add_row.Goals as goal

pub returns-clause-adds : goal.returns-clause-adds
returns-clause-adds c = (
  sym c.is_free.ensures ∙ c.if-not-is_free.false,
  λ a b. put_is c.args.self.now c.put.new.self c.args.me c.args.replica c.of.result c.args.key c.of.ensures c.in_ok-put.ensures.keys a b,
)

use Rattle.std.proofs.Common.{◌∙◌, ap}
use Rattle.std.specs.List.{list_any}
use Rattle.pws_change.specs.Rows.{row_has}
use Rattle.pws_change.proofs.Readers.{names_is}
use Rattle.pws_change.proofs.pre_prepared.QSet.names.Goals as goal

pub returns : goal.returns
returns c = c.is_named_in.ensures ∙ (ap (list_any (row_has c.args.digest.now)) c.rows.ensures.value ∙ names_is c.args.digest.now c.args.self.now)

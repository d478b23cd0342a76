use Rattle.std.proofs.Common.{◌∙◌, ap, length}
use Rattle.std.specs.List.{sum_by}
use Rattle.pws_msg.specs.declared.changes.QRow.{QRow}
use Rattle.pws_change.proofs.Readers.{count_is}
use Rattle.pws_change.proofs.pre_prepared.QSet.count.Goals as goal

pub returns : goal.returns
returns c = c.count_in.ensures ∙ (ap (sum_by (λ (r : QRow). length r.digests)) c.rows.ensures.value ∙ count_is c.args.self.now)

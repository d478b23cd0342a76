use Rattle.std.proofs.Common.{◌∙◌, ap, length, sym}
use Rattle.std.proofs.lemmas.List.{length-map}
use Rattle.std.specs.FinMap.{entries, len-entries}
use Rattle.pws_change.proofs.prepared.PSet.count.Goals as goal

pub returns : goal.returns
returns c = ap length c.rows.ensures.value ∙ (length-map (entries c.args.self.now) _ ∙ sym (len-entries c.args.self.now))

use Rattle.pws_evidence.proofs.Stored.{none_kept}
use Rattle.pws_evidence.proofs.stores.Evidence.new.Goals as goal

pub invariant_of-result : goal.invariant_of-result
invariant_of-result c = none_kept c.args.group c.args.layout.now c.new.result.entries c.new-2.result.entries c.new.ensures.empty c.new-2.ensures.empty

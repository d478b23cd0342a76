use Rattle.pws_msg.proofs.SameExact.{view_changes_equal}
use Rattle.pws_msg.proofs.changes.ViewChangePartialEq.eq.Goals as goal

pub returns-clause-equal : goal.returns-clause-equal
returns-clause-equal c = view_changes_equal c.args.self.now c.args.other.now c.same_view_changes.result c.same_view_changes.ensures

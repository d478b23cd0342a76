use Rattle.pws_msg.proofs.SameExact.{new_views_equal}
use Rattle.pws_msg.proofs.changes.NewViewPartialEq.eq.Goals as goal

pub returns-clause-equal : goal.returns-clause-equal
returns-clause-equal c = new_views_equal c.args.self.now c.args.other.now c.same_new_views.result c.same_new_views.ensures

use Rattle.pws_votes.proofs.Kept.{kept_checkpoints}
use Rattle.pws_votes.proofs.list_book.ListBookVoteBook.clear_view.Goals as goal

pub invariant_of-self : goal.invariant_of-self
invariant_of-self c = rw c.keep_checkpoints.ensures (kept_checkpoints c.self.inside.shape c.self.inside.low c.self.inside.entries.items c.self.invariant)

use Rattle.std.proofs.Common.{◌∙◌, ap}
use Rattle.pws_votes.specs.Votes.{Book, raised_to}
use Rattle.pws_votes.specs.ListBooks.{votes_in}
use Rattle.pws_votes.proofs.Found.{filtered_above}
use Rattle.pws_votes.proofs.Kept.{kept_above}
use Rattle.pws_votes.proofs.list_book.ListBookVoteBook.raise_low.Goals as goal

pub returns : goal.returns
returns c =
    ap (λ votes. record { f = c.self.inside.shape; low = c.args.low; votes = votes }) (ap votes_in c.keep_above.ensures ∙ filtered_above c.self.inside.entries.items c.args.low)
    ∙ ap (raised_to c.args.low) c.self.view_is

pub invariant_of-self : goal.invariant_of-self
invariant_of-self c =
    rw c.keep_above.ensures (kept_above c.self.inside.shape c.self.inside.low c.args.low c.self.inside.entries.items (rw (← ap (λ (b : Book). b.low) c.self.view_is) at c.requires.rises) c.self.invariant)

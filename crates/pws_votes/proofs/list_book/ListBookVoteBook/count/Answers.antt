use Rattle.std.proofs.Common.{◌∙◌, sym, ap}
use Rattle.std.specs.FinMap.{len}
use Rattle.pws_votes.specs.Votes.{Book}
use Rattle.pws_votes.proofs.Counted.{count_is, count_few}
use Rattle.pws_votes.proofs.list_book.ListBookVoteBook.count.Goals as goal

pub returns-clause-value : goal.returns-clause-value
returns-clause-value c =
    c.len.ensures ∙ (c.self.inside.entries.ok.0 ∙ (sym (count_is c.self.inside.entries.items c.self.invariant.apart) ∙ ap (λ (b : Book). len b.votes) c.self.view_is))

pub returns-clause-few : goal.returns-clause-few
returns-clause-few c = rw (c.len.ensures, c.self.inside.entries.ok.0) (count_few c.self.inside.shape c.self.inside.low c.self.inside.entries.items c.self.invariant)

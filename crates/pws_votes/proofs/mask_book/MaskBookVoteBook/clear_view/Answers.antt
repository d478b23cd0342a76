use Rattle.std.proofs.Common.{◌∙◌, ap}
use Rattle.pws_votes.specs.Votes.{Book, without_view}
use Rattle.pws_votes.proofs.BookLemmas.{left, book_of}
use Rattle.pws_votes.proofs.mask_book.MaskBookVoteBook.clear_view.Goals as goal

pub returns : goal.returns
returns c =
    let f = c.self.inside.shape in
    let t = c.self.inside.tallies in
    ap (book_of f) c.leave_view.ensures
    ∙ (ap (λ votes. record { f = f; low = t.prepares.low; votes = votes }) (left f t c.self.invariant.shape)
    ∙ ap (λ (b : Book). without_view b) c.self.view_is)

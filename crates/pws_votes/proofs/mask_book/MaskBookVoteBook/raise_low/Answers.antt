use Rattle.std.proofs.Common.{◌≡◌, ◌≤◌, ◌∙◌, ap, arith}
use Rattle.pws_votes.specs.Votes.{Book, raised_to}
use Rattle.pws_votes.proofs.BookLemmas.{raised_is, book_of}
use Rattle.pws_votes.proofs.mask_book.MaskBookVoteBook.raise_low.Goals as goal

pub returns : goal.returns
returns c =
    let f = c.self.inside.shape in
    let t = c.self.inside.tallies in
    let same : t.prepares.low ≡ c.args.self.now.low = ap (λ (b : Book). b.low) c.self.view_is in
    let r = c.requires.rises in
    let rises : t.prepares.low ≤ c.args.low = omega arith in
    ap (book_of f) c.raise.ensures
    ∙ (ap (λ votes. record { f = f; low = c.args.low; votes = votes }) (raised_is f c.args.low t c.self.invariant.shape (record { commits = c.self.invariant.commits; checkpoints = c.self.invariant.checkpoints }) c.are_within.ensures rises)
    ∙ ap (λ (b : Book). raised_to c.args.low b) c.self.view_is)

use Rattle.std.proofs.Common.{arith}
use Rattle.pws_votes.specs.MaskBooks.{vote_in}
use Rattle.pws_votes.proofs.Numbered.{len_is, listed_few}
use Rattle.pws_votes.proofs.mask_book.MaskBookVoteBook.count.Goals as goal

pub returns-clause-few : goal.returns-clause-few
returns-clause-few c =
    let t = c.self.inside.tallies in
    let counted = c.self.invariant.counted in
    let listed = len_is c.self.inside.shape t in
    let few = listed_few t.prepares.low (vote_in c.self.inside.shape t) 960 in
    omega arith

use Rattle.std.proofs.Common.{◌≡◌, length}
use Rattle.pws_votes.specs.MaskBooks.{vote_in, listed}
use Rattle.pws_votes.proofs.mask_book.count_votes.Given as goal

abbrev pub invariant-loop-i : goal.invariant-loop-i
invariant-loop-i l = l.count ≡ length (listed l.tallies.prepares.low (vote_in l.shape l.tallies) l.i)

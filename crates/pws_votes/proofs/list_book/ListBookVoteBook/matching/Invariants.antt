use Rattle.std.proofs.Common.{◌≡◌, ◌≤◌}
use Rattle.pws_base.specs.Counts.{count_below}
use Rattle.pws_votes.specs.Votes.{is_vote_for}
use Rattle.pws_votes.proofs.list_book.ListBookVoteBook.matching.Given as goal

abbrev pub invariant-loop-voter : goal.invariant-loop-voter
invariant-loop-voter l =
    record {
      counted : l.count ≡ count_below l.voter (is_vote_for l.self l.kind l.place l.digest);
      few : l.count ≤ l.voter;
    }

use Rattle.std.proofs.Common.{◌≡◌, ◌≤◌}
use Rattle.pws_base.specs.Counts.{count_below}
use Rattle.pws_votes.specs.Masks.{has_voter}
use Rattle.pws_votes.proofs.tallies.count_voters.Given as goal

abbrev pub invariant-loop-voter : goal.invariant-loop-voter
invariant-loop-voter l = record {
  counted : l.count ≡ count_below l.voter (has_voter l.mask);
  few : l.count ≤ l.voter;
}

use Rattle.std.proofs.Common.{◌≡◌, ℕ, take}
use Rattle.std.specs.List.{list_any}
use Rattle.pws_votes.specs.Masks.{has_voter, is_for}
use Rattle.pws_votes.proofs.tallies.mask_of.Given as goal

abbrev pub invariant-loop-i : goal.invariant-loop-i
invariant-loop-i l = (v : ℕ) → has_voter l.mask v ≡ list_any (is_for l.digest v) (take l.i l.rows)

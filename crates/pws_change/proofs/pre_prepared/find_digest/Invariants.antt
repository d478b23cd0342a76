use Rattle.std.proofs.Common.{◌≡◌, ℕ, ◌<◌}
use Rattle.std.specs.List.{slice_index_or}
use Rattle.std.specs.Ordering.{nat_cmp}
use Rattle.std.specs.Cmp.Lexicographic.{slice_cmp}
use Rattle.std.specs.declared.cmp.Ordering.TheVariants.{Greater}
use Rattle.pws_msg.specs.declared.changes.Seen.{Seen}
use Rattle.pws_change.proofs.pre_prepared.find_digest.Given as goal

abbrev pub invariant-loop-i : goal.invariant-loop-i
invariant-loop-i l = (j : ℕ) (d : Seen) → j < l.i → slice_cmp nat_cmp l.digest (slice_index_or l.digests j d).digest ≡ Greater

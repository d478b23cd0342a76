-- Counts of the replicas of a group.
use Rattle.std.specs.Prelude.{ℕ, Bool, if◌then◌else◌}
use Rattle.std.proofs.Common.{zero, suc}

-- how many of the replicas below n pass a test
abbrev pub count_below : ℕ → (ℕ → Bool) → ℕ
count_below zero test = 0
count_below (suc n) test = if test n then suc (count_below n test) else count_below n test

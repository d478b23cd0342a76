-- What follows from the definitions of this crate; this project's own.
use Rattle.std.specs.Prelude.{◌≡◌, ◌↔◌, ◌<◌, ◌^◌, ℕ, List, Some, decimal}
use Rattle.std.specs.Cmp.{IsTotalOrder}
use Rattle.std.specs.FinMap.{IsAntisymmetric}
use Rattle.pws_base.specs.Decimals.{number_of}
use Rattle.pws_base.specs.Replicas.{replica_cmp}

-- a word is read as a number exactly where it is the decimal of this number
abbrev pub NumbersAreDecimals : Type 0
NumbersAreDecimals = (word : List ℕ) (n : ℕ) → (number_of word ≡ Some n) ↔ ((n < 2 ^ 64) × (decimal n ≡ word))

-- the order of replicas is total, and only a replica ties with itself
pub record ReplicasAreOrdered : Type 0 where
  pub total : IsTotalOrder replica_cmp
  pub exact : IsAntisymmetric replica_cmp

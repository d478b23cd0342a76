-- What one call on a source or a sink does to the bytes that it tells and to its count of faults; the rules are
-- this project's own.
use Rattle.std.specs.Prelude.{◌≡◌, ℕ, ◌+◌, ◌-◌, ◌≤◌, ◌^◌, min, List, [], ◌++◌, length, take, drop, Option, Some, None}
use Rattle.pws_base.specs.declared.streams.Got.{Got}
use Rattle.pws_base.specs.declared.streams.Got.TheVariants as got
use Rattle.pws_base.specs.declared.streams.Took.{Took}
use Rattle.pws_base.specs.declared.streams.Took.TheVariants as took

-- a count of 64 bits, raised by one; at its last value it stays
abbrev pub raised : ℕ → ℕ
raised count = min (count + 1) (2 ^ 64 - 1)

-- a count of 64 bits rose; at its last value it stays, and there counts as risen
abbrev pub Rose : ℕ → ℕ → Type 0
Rose before now = (before ≤ now) × (raised before ≤ now)

-- a read gives at least one byte and fits the buffer
abbrev pub FitsBuffer : Got → List ℕ → Type 0
FitsBuffer (got.Read count) buffer = (1 ≤ count) × (count ≤ length buffer)
FitsBuffer got.End buffer = Unit {0}
FitsBuffer got.Failed buffer = Unit {0}

-- a failed read raised the count of faults, and every other read left it
abbrev pub ReadCause : Got → ℕ → ℕ → Type 0
ReadCause (got.Read count) before now = now ≡ before
ReadCause got.End before now = now ≡ before
ReadCause got.Failed before now = Rose before now

-- a read gives the next of the bytes left, and the end comes exactly where none is left
abbrev pub TakesNext : Option (List ℕ) → Option (List ℕ) → List ℕ → Got → Type 0
TakesNext None now buffer answer = Unit {0}
TakesNext (Some left) now buffer (got.Read count) = (count ≤ length left) × (take count buffer ≡ take count left) × (now ≡ Some (drop count left))
TakesNext (Some left) now buffer got.End = (left ≡ []) × (now ≡ Some left)
TakesNext (Some left) now buffer got.Failed = now ≡ Some left

-- a write takes at least one byte, and none that isn't in the piece
abbrev pub FitsPiece : Took → List ℕ → Type 0
FitsPiece (took.Wrote count) piece = (1 ≤ count) × (count ≤ length piece)
FitsPiece took.Failed piece = Unit {0}

-- a failed write raised the count of faults, and every other write left it
abbrev pub WriteCause : Took → ℕ → ℕ → Type 0
WriteCause (took.Wrote count) before now = now ≡ before
WriteCause took.Failed before now = Rose before now

-- what is held grows by the bytes that were taken
abbrev pub Holds : Option (List ℕ) → Option (List ℕ) → List ℕ → Took → Type 0
Holds None now piece answer = Unit {0}
Holds (Some held) now piece (took.Wrote count) = now ≡ Some (held ++ take count piece)
Holds (Some held) now piece took.Failed = now ≡ Some held

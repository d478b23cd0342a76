-- Reading a source to its end and writing a whole text to a sink; the rules are this project's own.
use Rattle.std.specs.Prelude.{◌≡◌, ℕ, ◌<◌, ◌≤◌, List, ◌++◌, length, take, Option, Some, None, Result, Ok, Err}
use Rattle.pws_base.specs.Streams.{Rose}
use Rattle.pws_base.specs.declared.whole.ReadError.{ReadError}
use Rattle.pws_base.specs.declared.whole.ReadError.TheVariants as read_error
use Rattle.pws_base.specs.declared.whole.WriteFault.{WriteFault}

-- what is held grew by this text
abbrev pub Grows : Option (List ℕ) → Option (List ℕ) → List ℕ → Type 0
Grows None now text = Unit {0}
Grows (Some held) now text = now ≡ Some (held ++ text)

-- what is held grew by the first bytes of this text
abbrev pub GrowsWithin : Option (List ℕ) → Option (List ℕ) → List ℕ → Type 0
GrowsWithin before now text = (count : ℕ) × Grows before now (take count text)

-- where the source tells its bytes, all of them were read, or they are more than the limit
abbrev pub ReadsAll : ℕ → Option (List ℕ) → Result (List ℕ) ReadError → Type 0
ReadsAll limit None answer = Unit {0}
ReadsAll limit (Some left) (Ok bytes) = (length left ≤ limit) × (bytes ≡ left)
ReadsAll limit (Some left) (Err read_error.Limit) = limit < length left
ReadsAll limit (Some left) (Err read_error.Fault) = Unit {0}
ReadsAll limit (Some left) (Err read_error.Memory) = Unit {0}

-- the source's faults rise by Fault alone
abbrev pub ReadsAllCause : {T : Type 0} → Result T ReadError → ℕ → ℕ → Type 0
ReadsAllCause (Ok bytes) before now = now ≡ before
ReadsAllCause (Err read_error.Limit) before now = now ≡ before
ReadsAllCause (Err read_error.Fault) before now = Rose before now
ReadsAllCause (Err read_error.Memory) before now = now ≡ before

-- the sink holds the whole text more, or after a fault a prefix of it
abbrev pub WritesAll : {T : Type 0} → Option (List ℕ) → Option (List ℕ) → List ℕ → Result T WriteFault → Type 0
WritesAll before now text (Ok done) = Grows before now text
WritesAll before now text (Err fault) = GrowsWithin before now text

-- the sink's faults rise by WriteFault alone
abbrev pub WritesAllCause : {T : Type 0} → Result T WriteFault → ℕ → ℕ → Type 0
WritesAllCause (Ok done) before now = now ≡ before
WritesAllCause (Err fault) before now = Rose before now

-- Reading from the front of a list of bytes; numbers stand high byte first (network byte order, RFC 1700).
use Rattle.std.specs.Prelude.{◌≡◌, ℕ, nat_lt, if◌then◌else◌, List, length, take, drop, Option, Some, None, Result, Ok, Err}
use Rattle.std.specs.Int.{from_be_bytes, w8, w16, w32, w64}
use Rattle.pws_base.specs.declared.cursors.Short.{Short}

-- the next bytes, so many, and the rest
abbrev pub bytes_at : ℕ → List ℕ → Option (List ℕ × List ℕ)
bytes_at size bytes = if nat_lt (length bytes) size then None else Some (take size bytes, drop size bytes)

-- the next number of one, two, four or eight bytes, and the rest
abbrev pub u8_at : List ℕ → Option (ℕ × List ℕ)
u8_at bytes = if nat_lt (length bytes) 1 then None else Some (from_be_bytes w8 (take 1 bytes), drop 1 bytes)

abbrev pub u16_at : List ℕ → Option (ℕ × List ℕ)
u16_at bytes = if nat_lt (length bytes) 2 then None else Some (from_be_bytes w16 (take 2 bytes), drop 2 bytes)

abbrev pub u32_at : List ℕ → Option (ℕ × List ℕ)
u32_at bytes = if nat_lt (length bytes) 4 then None else Some (from_be_bytes w32 (take 4 bytes), drop 4 bytes)

abbrev pub u64_at : List ℕ → Option (ℕ × List ℕ)
u64_at bytes = if nat_lt (length bytes) 8 then None else Some (from_be_bytes w64 (take 8 bytes), drop 8 bytes)

-- a read answers the value, seen by view, and leaves the rest; where too few bytes remain it leaves all
abbrev pub Reads : {A B : Type 0} → (A → B) → Result A Short → List ℕ → List ℕ → Option (B × List ℕ) → Type 0
Reads view (Ok x) old new read = read ≡ Some (view x, new)
Reads view (Err short) old new read = (read ≡ None) × (new ≡ old)

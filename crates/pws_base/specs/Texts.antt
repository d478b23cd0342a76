-- The bytes that spell a number, high byte first (network byte order, RFC 1700).
use Rattle.std.specs.Prelude.{ℕ, List, ◌++◌, length}
use Rattle.std.specs.Int.{to_be_bytes, w16, w32, w64}

unfoldable pub u16_text : ℕ → List ℕ
u16_text n = to_be_bytes w16 n

unfoldable pub u32_text : ℕ → List ℕ
u32_text n = to_be_bytes w32 n

unfoldable pub u64_text : ℕ → List ℕ
u64_text n = to_be_bytes w64 n

-- bytes after their length in four bytes
abbrev pub sized_text : List ℕ → List ℕ
sized_text bytes = u32_text (length bytes) ++ bytes

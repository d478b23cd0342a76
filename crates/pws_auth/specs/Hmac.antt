-- HMAC (RFC 2104, section 2) with SHA-256 (FIPS 180-4), on lists of bytes.
use Rattle.std.specs.Prelude.{ℕ, ◌-◌, List, ◌++◌, length, map, replicate, bit_xor, nat_le, if◌then◌else◌}
use Rattle.sha2.specs.Sha256.{sha256}

-- a key that is longer than a block of 64 bytes is hashed first
abbrev pub short_key : List ℕ → List ℕ
short_key key = if nat_le (length key) 64 then key else sha256 key

-- a key as one block, filled with zeros
abbrev pub block_of_key : List ℕ → List ℕ
block_of_key key = short_key key ++ replicate (64 - length (short_key key)) 0

-- each byte of a block xored with a pad
abbrev pub xor_each : ℕ → List ℕ → List ℕ
xor_each pad block = map (λ byte. bit_xor byte pad) block

-- H((K xor opad) ‖ H((K xor ipad) ‖ text)), where ipad repeats 0x36 and opad 0x5c
unfoldable pub hmac : List ℕ → List ℕ → List ℕ
hmac key text = sha256 (xor_each 0x5c (block_of_key key) ++ sha256 (xor_each 0x36 (block_of_key key) ++ text))

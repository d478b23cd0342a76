-- Keys as blocks.
use Rattle.std.proofs.Common.{◌≡◌, ℕ, ◌≤◌, List, ◌++◌, length, drop, replicate, arith}
use Rattle.std.proofs.lemmas.Bool.Decides.{nat_tests}
use Rattle.std.proofs.lemmas.List.{drop-replicate}
use Rattle.pws_auth.specs.Hmac.{block_of_key}

-- a short key is filled with zeros
pub block_of_key-short : (key : List ℕ) → length key ≤ 64 → key ++ drop (length key) (replicate 64 0) ≡ block_of_key key
block_of_key-short key h = rw drop-replicate (grind (arith, nat_tests))

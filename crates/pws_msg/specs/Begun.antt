-- How the bytes after the last whole frame are kept; here for the proofs alone.
use Rattle.std.specs.Prelude.{◌≡◌, ℕ, ◌<◌, ◌≤◌, List, [], length}
use Rattle.pws_base.specs.Texts.{u32_text}

-- a size of 0 stands for a length field that isn't whole; else the field is whole and tells the size of the packet,
-- which isn't whole
pub record IsBegun (head : List ℕ) (size : ℕ) (packet : List ℕ) : Type 0 where
  pub unknown : size ≡ 0 → (length head < 4) × (packet ≡ [])
  pub known : 1 ≤ size → (size ≤ 98304) × (head ≡ u32_text size) × (length packet < size)

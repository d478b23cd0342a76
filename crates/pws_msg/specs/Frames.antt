-- Frames, and the stream of bytes that they are sent on; this project's own format.
use Rattle.std.specs.Prelude.{◌≡◌, ℕ, ◌+◌, ◌<◌, ◌≤◌, ◌^◌, ◌⊎◌, List, [], ◌++◌, length, All, Option, Some, None}
use Rattle.std.specs.List.{flat_map}
use Rattle.pws_base.specs.Texts.{u32_text, sized_text}
use Rattle.pws_base.specs.Limits.{max_packet}

-- what a frame may hold: any 1 to 98,304 bytes
pub record IsFramed (packet : List ℕ) : Type 0 where
  pub some : 1 ≤ length packet
  pub few : length packet ≤ max_packet

-- the frame of a packet: its length in four bytes, and then the packet
abbrev pub frame_text : List ℕ → List ℕ
frame_text packet = sized_text packet

-- frames, one after the other
abbrev pub frames_text : List (List ℕ) → List ℕ
frames_text packets = flat_map frame_text packets

-- these bytes, and then at least one more, are the frame of this packet
pub record BeginsFrame (rest packet more : List ℕ) : Type 0 where
  pub framed : IsFramed packet
  pub some : 1 ≤ length more
  pub text : rest ++ more ≡ frame_text packet

-- what may stand after the last whole frame: fewer than four bytes, or a proper prefix of a frame
abbrev pub IsRest : List ℕ → Type 0
IsRest rest = (length rest < 4) ⊎ ((packet : List ℕ) × (more : List ℕ) × BeginsFrame rest packet more)

-- the bytes are the frames of these packets, and then a rest
pub record IsStream (bytes : List ℕ) (packets : List (List ℕ)) (rest : List ℕ) : Type 0 where
  pub framed : All IsFramed packets
  pub begun : IsRest rest
  pub text : bytes ≡ frames_text packets ++ rest

-- a number of four bytes that is the length of no frame
pub record IsBadSize (size : ℕ) : Type 0 where
  pub field : size < 2 ^ 32
  pub outside : (size ≡ 0) ⊎ (max_packet < size)

-- the bytes are the frames of these packets, and then, at this place, the length of no frame and any more bytes
pub record BreaksWith (bytes : List ℕ) (packets : List (List ℕ)) (at size : ℕ) (more : List ℕ) : Type 0 where
  pub framed : All IsFramed packets
  pub place : at ≡ length (frames_text packets)
  pub wrong : IsBadSize size
  pub text : bytes ≡ frames_text packets ++ (u32_text size ++ more)

-- no stream begins with these bytes: after the frames of these packets there is, at this place, the length of no frame
abbrev pub IsBroken : List ℕ → List (List ℕ) → ℕ → Type 0
IsBroken bytes packets at = (size : ℕ) × (more : List ℕ) × BreaksWith bytes packets at size more

-- What the next bytes of a piece come to, step by step; here for the proofs alone.
use Rattle.std.specs.Prelude.{◌≡◌, ℕ, ◌+◌, ◌-◌, ◌≤◌, List, [], ◌++◌, length, Option, Some, None}
use Rattle.pws_base.specs.Texts.{u32_text}
use Rattle.pws_msg.specs.Frames.{IsFramed, frame_text, IsRest, IsBadSize, IsStream, IsBroken}
use Rattle.pws_msg.specs.declared.frames.Step.{Step}
use Rattle.pws_msg.specs.declared.frames.Step.TheVariants as step

-- what the next bytes did: joined to those before they are still a rest, or a whole frame, or a bad length
abbrev pub StepsTo : Step → List ℕ → List ℕ → Type 0
StepsTo step.More joined rest = (rest ≡ joined) × IsRest joined
StepsTo (step.Whole packet) joined rest = IsFramed packet × (joined ≡ frame_text packet) × (rest ≡ [])
StepsTo step.Bad joined rest = (size : ℕ) × IsBadSize size × (joined ≡ u32_text size)

-- what a piece gave after a rest: the stream of both, or a bad length that ends at this byte of the piece
abbrev pub CutsAt : Option ℕ → List ℕ → List ℕ → List (List ℕ) → List ℕ → Type 0
CutsAt None before piece whole rest = IsStream (before ++ piece) whole rest
CutsAt (Some end) before piece whole rest = (end ≤ length piece) × (4 ≤ length before + end) × IsBroken (before ++ piece) whole (length before + end - 4)

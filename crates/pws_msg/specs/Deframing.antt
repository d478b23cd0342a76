-- What a reader of frames knows of the bytes fed to it; this project's own.
use Rattle.std.specs.Prelude.{◌≡◌, ℕ, ◌<◌, ◌≤◌, Bool, true, false, List, [], ◌++◌, length, Option, Some, None, Result, Ok, Err}
use Rattle.pws_msg.specs.Frames.{IsStream, IsBroken}

-- the bytes after the last whole frame, how many bytes were fed, where a bad length stands if one was met, and
-- whether want of memory stopped it
pub record Deframing : Type 0 where
  pub rest : List ℕ
  pub fed : ℕ
  pub broken : Option ℕ
  pub stopped : Bool

-- nothing was fed yet
abbrev pub fresh : Deframing
fresh = record { rest = []; fed = 0; broken = None; stopped = false }

-- the bytes are the stream of these packets and this rest, or broken at this place after these packets
abbrev pub IsRead : Option ℕ → List ℕ → List ℕ → List (List ℕ) → Type 0
IsRead None rest bytes packets = IsStream bytes packets rest
IsRead (Some at) rest bytes packets = IsBroken bytes packets at

-- the bytes fed so far are these, and the packets handed out so far are these
pub record HasRead (d : Deframing) (bytes : List ℕ) (packets : List (List ℕ)) : Type 0 where
  pub fed : d.fed ≡ length bytes
  pub read : IsRead d.broken d.rest bytes packets

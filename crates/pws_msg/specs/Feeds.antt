-- What one piece does to a reader of frames; this project's own.
use Rattle.std.specs.Prelude.{◌≡◌, ℕ, true, false, List, ◌++◌, Some, None, Result, Ok, Err}
use Rattle.pws_msg.specs.Deframing.{Deframing, HasRead}
use Rattle.pws_msg.specs.declared.frames.FeedError.{FeedError}
use Rattle.pws_msg.specs.declared.frames.FeedError.TheVariants as feed_error

-- after an answer all bytes so far have given the packets before and those of the answer; a refusal names the place
-- of the bad length, and want of memory stops the reader
abbrev pub ReadsOn : Deframing → List ℕ → List (List ℕ) → Result (List (List ℕ)) FeedError → Type 0
ReadsOn d bytes before (Ok whole) = HasRead d bytes (before ++ whole) × (d.broken ≡ None) × (d.stopped ≡ false)
ReadsOn d bytes before (Err (feed_error.Frame e)) = HasRead d bytes (before ++ e.whole) × (d.broken ≡ Some e.at) × (d.stopped ≡ false)
ReadsOn d bytes before (Err feed_error.Memory) = d.stopped ≡ true

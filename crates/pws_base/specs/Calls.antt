-- Streams over memory, whose calls fail where their numbers are listed; this project's own.
use Rattle.std.specs.Prelude.{ℕ, ◌-◌, ◌==◌, ◌||◌, ◌++◌, min, Bool, nat_le, if◌then◌else◌, List, length, take, drop}
use Rattle.std.specs.List.{list_any}
use Rattle.pws_base.specs.Streams.{raised}
use Rattle.pws_base.specs.declared.streams.Got.{Got}
use Rattle.pws_base.specs.declared.streams.Got.TheVariants as got
use Rattle.pws_base.specs.declared.streams.Took.{Took}
use Rattle.pws_base.specs.declared.streams.Took.TheVariants as took

-- the numbers of the calls that are to fail, counted from 1, the calls made, and the faults among them
pub record CallCounts : Type 0 where
  pub failing : List ℕ
  pub made : ℕ
  pub faults : ℕ

-- no call was made yet
abbrev pub fresh_calls : List ℕ → CallCounts
fresh_calls failing = record { failing = failing; made = 0; faults = 0 }

-- whether the next call is listed to fail
abbrev pub is_due : CallCounts → Bool
is_due calls = list_any (λ listed. listed == raised calls.made) calls.failing

-- one more call was made
abbrev pub call_made : CallCounts → CallCounts
call_made calls = record calls { made = raised calls.made }

-- one more call failed
abbrev pub call_failed : CallCounts → CallCounts
call_failed calls = record calls { faults = raised calls.faults }

-- the counts after the next call
abbrev pub calls_after : CallCounts → CallCounts
calls_after calls = if is_due calls then call_failed (call_made calls) else call_made calls

-- a source over memory: the bytes left, and its calls
pub record SourceState : Type 0 where
  pub left : List ℕ
  pub calls : CallCounts

-- what a read into so many bytes gives: a fault where it is due, and else as many of the bytes left as fit
abbrev pub read_of : SourceState → ℕ → Got
read_of s size =
    if is_due s.calls then got.Failed
    else if length s.left == 0 then got.End
    else got.Read (min (length s.left) size)

-- the bytes left after a read
abbrev pub left_after : List ℕ → Got → List ℕ
left_after left (got.Read count) = drop count left
left_after left got.End = left
left_after left got.Failed = left

-- a sink over memory: the bytes held, how many it can hold in all, and its calls
pub record SinkState : Type 0 where
  pub held : List ℕ
  pub room : ℕ
  pub calls : CallCounts

-- whether a write fails: it is due, or the room is used up
abbrev pub is_refused : SinkState → Bool
is_refused s = is_due s.calls || nat_le s.room (length s.held)

-- what a write of a piece takes: nothing where it fails, and else as many bytes as there is room for
abbrev pub write_of : SinkState → List ℕ → Took
write_of s piece = if is_refused s then took.Failed else took.Wrote (min (s.room - length s.held) (length piece))

-- the bytes held after a write
abbrev pub held_after : List ℕ → List ℕ → Took → List ℕ
held_after held piece (took.Wrote count) = held ++ take count piece
held_after held piece took.Failed = held

-- the counts after the next write
abbrev pub writes_after : SinkState → CallCounts
writes_after s = if is_refused s then call_failed (call_made s.calls) else call_made s.calls

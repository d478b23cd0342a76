use Rattle.std.proofs.Common.{length, take, ◌-◌, ◌≤◌, ◌++◌}
use Rattle.pws_msg.specs.Frames.{IsStream}
use Rattle.pws_msg.proofs.frames.Rest.cut.Given as goal

abbrev pub invariant-loop-at : goal.invariant-loop-at
invariant-loop-at l =
    record {
      within : l.at ≤ length l.piece;
      stream : IsStream (l.initial.self ++ take l.at l.piece) l.whole l.self;
    }

abbrev pub decreases-loop-at : goal.decreases-loop-at
decreases-loop-at l = length l.piece - l.at

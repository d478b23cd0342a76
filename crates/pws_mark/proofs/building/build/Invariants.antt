use Rattle.std.proofs.Common.{◌≡◌}
use Rattle.std.specs.Vec.Iter.{into_iter_items}
use Rattle.pws_mark.specs.Frames.{around}
use Rattle.pws_mark.specs.ReaderLaws.{read_events}
use Rattle.pws_mark.proofs.building.build.Given as goal

abbrev pub invariant-loop-event : goal.invariant-loop-event
invariant-loop-event l = (goal.iterator-loop-event).can_next l.event-iterator × (goal.iterator-loop-event).is_finite l.event-iterator × (around l.frames.frames.items (read_events (into_iter_items l.event-iterator)) ≡ read_events l.fn.events)

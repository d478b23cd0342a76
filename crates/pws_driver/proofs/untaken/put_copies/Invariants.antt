use Rattle.std.proofs.Common.{◌≡◌, ◌++◌, take}
use Rattle.pws_driver.proofs.untaken.put_copies.Given as goal

abbrev pub invariant-loop-event : goal.invariant-loop-event
invariant-loop-event l = l.into.items ≡ l.initial.into.items ++ take l.event-index l.events

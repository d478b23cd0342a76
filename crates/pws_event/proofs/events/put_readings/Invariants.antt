use Rattle.std.proofs.Common.{◌≡◌, ◌++◌, take}
use Rattle.std.specs.List.{flat_map}
use Rattle.pws_event.specs.Events.{reading_text}
use Rattle.pws_event.proofs.events.put_readings.Given as goal

abbrev pub invariant-loop-reading : goal.invariant-loop-reading
invariant-loop-reading l = l.text ≡ l.initial.text ++ flat_map reading_text (take l.reading-index l.readings)

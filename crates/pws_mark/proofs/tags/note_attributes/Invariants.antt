use Rattle.std.proofs.Common.{◌≡◌, drop, []}
use Rattle.pws_mark.specs.Least.{lowered}
use Rattle.pws_mark.specs.Seen.{finds_behind}
use Rattle.pws_mark.proofs.tags.note_attributes.Given as goal

abbrev pub invariant-loop-i : goal.invariant-loop-i
invariant-loop-i l = lowered l.least (finds_behind l.inside l.seen (drop l.i l.attributes)) ≡ lowered l.initial.least (finds_behind l.inside [] l.attributes)

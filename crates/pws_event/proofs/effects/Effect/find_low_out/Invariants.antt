use Rattle.std.proofs.Common.{◌≡◌, ◌+◌, ◌-◌}
use Rattle.pws_event.specs.Counters.{is_waiting, least_waiting}
use Rattle.pws_event.proofs.Outgoing.{first_of}
use Rattle.pws_event.proofs.effects.Effect.find_low_out.Given as goal

abbrev pub invariant-loop-number : goal.invariant-loop-number
invariant-loop-number l = first_of (is_waiting l.self.waiting l.called) l.number (l.last + 1 - l.number) (l.last + 1) ≡ least_waiting l.self l.called

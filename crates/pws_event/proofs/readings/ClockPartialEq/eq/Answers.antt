use Rattle.std.proofs.Common.{◌≡◌, rules}
use Rattle.pws_event.specs.Equal.{same_clock}
use Rattle.pws_event.proofs.Same.{clock_decides}
use Rattle.pws_event.proofs.readings.ClockPartialEq.eq.Goals as goal

pub returns-then-self-other-clause-same : goal.returns-then-self-other-clause-same
returns-then-self-other-clause-same c =
    let value : c.eq.result ≡ same_clock c.args.self.now c.args.other.now = search rules in
    rw value (clock_decides c.args.self.now c.args.other.now)

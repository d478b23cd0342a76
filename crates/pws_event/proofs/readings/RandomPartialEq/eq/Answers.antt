use Rattle.std.proofs.Common.{◌≡◌, rules}
use Rattle.pws_event.specs.Equal.{same_random}
use Rattle.pws_event.proofs.Same.{random_decides}
use Rattle.pws_event.proofs.readings.RandomPartialEq.eq.Goals as goal

pub returns-then-self-other-clause-same : goal.returns-then-self-other-clause-same
returns-then-self-other-clause-same c =
    let value : c.eq.result ≡ same_random c.args.self.now c.args.other.now = search rules in
    rw value (random_decides c.args.self.now c.args.other.now)

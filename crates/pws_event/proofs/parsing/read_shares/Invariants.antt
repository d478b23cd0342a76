use Rattle.std.proofs.Common.{◌≡◌, ◌-◌}
use Rattle.pws_event.specs.EventFields.{share_at, shares_at}
use Rattle.pws_event.proofs.Rising.{rest_at}
use Rattle.pws_event.proofs.parsing.read_shares.Given as goal

abbrev pub invariant-loop : goal.invariant-loop
invariant-loop l = (shares_at l.count l.initial.fields ≡ rest_at share_at (λ r. r.index) l.shares (l.count - l.counter) l.least l.fields)

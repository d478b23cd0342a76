use Rattle.std.proofs.Common.{ap}
use Rattle.pws_places.proofs.RingLemmas.{free_is}
use Rattle.pws_places.proofs.places.Places.new.Goals as goal

pub returns : goal.returns
returns g c = ap (λ rows. record { low = 0; rows = rows }) (free_is 0 c.in_ok-new_ring.field-0.items c.in_ok-new_ring.ensures.free)

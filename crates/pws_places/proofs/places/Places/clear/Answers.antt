use Rattle.std.proofs.Common.{◌∙◌, ap}
use Rattle.pws_places.specs.PlaceMaps.{PlaceMap, cleared}
use Rattle.pws_places.proofs.RingLemmas.{free_is}
use Rattle.pws_places.proofs.places.Places.clear.Goals as goal

pub returns : goal.returns
returns g c =
    let low = c.self.inside.low in
    ap (λ rows. record { low = low; rows = rows }) (free_is low c.free_all.new.ring.items c.free_all.ensures.free)
    ∙ ap (λ (m : PlaceMap _). cleared m) c.self.view_is
